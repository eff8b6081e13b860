use Rattle.std.proofs.Common.{[], ◌∷◌, arith}
use Rattle.wire.specs.RoomLaws.{has_yes}
use Rattle.session.specs.RecordLaws.{wrote_on}
use Rattle.answer.specs.Written.{words}
use Rattle.answer.specs.WrittenLaws.{words-length}
use Rattle.answer.proofs.put_eof.Goals as goal

pub returns : goal.returns
returns c =
    let a = c.args in
    wrote_on (0xFE ∷ []) (words a.warnings a.status) a.dst.now a.at c.in_ok-next.ensures c.put_words.ensures
    (omega (arith, words-length a.warnings a.status, has_yes _ _ c.has.ensures c.if-not-has.false))
