use Rattle.std.proofs.Common.{arith, length-append}
use Rattle.wire.specs.RoomLaws.{has_no, wrote_full}
use Rattle.answer.specs.Answer.{tracks}
use Rattle.answer.specs.Written.{ok_head, text_bytes, ok_bytes}
use Rattle.answer.specs.WrittenLaws.{ok_head_length, wrote_before, wrote_before_not}
use Rattle.answer.proofs.put_ok.Goals as goal

pub returns-then-not-has : goal.returns-then-not-has
returns-then-not-has c =
    let a = c.args in
    wrote_full (ok_bytes a.rows a.id a.status a.warnings a.message.now a.records.now a.tracking) a.dst.now a.at
    (omega (
      arith,
      ok_head_length a.rows a.id a.status a.warnings,
      length-append (ok_head a.rows a.id a.status a.warnings) (text_bytes a.tracking (tracks a.status) a.message.now a.records.now),
      has_no _ _ c.has.ensures c.if-not-has.true,
    ))

pub returns-in_err-end : goal.returns-in_err-end
returns-in_err-end c =
    let a = c.args in
    let texts = rw c.announces.ensures at c.in_err-end.ensures in
    let w =
    wrote_before_not (ok_head a.rows a.id a.status a.warnings) (text_bytes a.tracking (tracks a.status) a.message.now a.records.now) a.dst.now a.at
    (omega (arith, ok_head_length a.rows a.id a.status a.warnings)) texts in
    grind (arith, w)

pub returns : goal.returns
returns c =
    let a = c.args in
    let texts = rw c.announces.ensures at c.in_ok-end.ensures in
    wrote_before (ok_head a.rows a.id a.status a.warnings) (text_bytes a.tracking (tracks a.status) a.message.now a.records.now) a.dst.now a.at
    (omega (arith, ok_head_length a.rows a.id a.status a.warnings)) texts c.in_ok-put_ok_head.ensures
