use Rattle.wire.specs.LenEnc.{str_bytes}
use Rattle.wire.specs.RoomLaws.{has_yes}
use Rattle.session.specs.RecordLaws.{wrote_on}
use Rattle.std.proofs.Common.{arith}
use Rattle.session.proofs.put_variable.Goals as goal

pub returns : goal.returns
returns c = wrote_on (str_bytes c.args.name.now) (str_bytes c.args.value.now) c.args.dst.now c.args.at c.in_ok-next.ensures c.put_lenenc_str-2.ensures
    (omega (arith, c.lenenc_str_len-first.ensures, c.lenenc_str_len.ensures, has_yes _ _ c.has-else-not-has.ensures c.if-not-has-2.false))
