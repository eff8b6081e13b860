use Rattle.std.proofs.Common.{arith}
use Rattle.wire.specs.Le.{le_bytes}
use Rattle.wire.specs.RoomLaws.{has_yes}
use Rattle.wire.specs.LeLaws.{le_length}
use Rattle.session.specs.RecordLaws.{wrote_on}
use Rattle.answer.proofs.put_words.Goals as goal

pub returns : goal.returns
returns c =
    let a = c.args in
    wrote_on (le_bytes 2 a.a) (le_bytes 2 a.b) a.dst.now a.at c.in_ok-next.ensures c.put_u16_le-2.ensures
    (omega (arith, le_length 2 a.a, le_length 2 a.b, has_yes _ _ c.has.ensures c.if-not-has.false))
