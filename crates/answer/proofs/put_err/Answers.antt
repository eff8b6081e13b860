use Rattle.std.proofs.Common.{arith, length-append, sym}
use Rattle.wire.specs.RoomLaws.{has_no, wrote_full}
use Rattle.answer.specs.Written.{err_head, err_bytes}
use Rattle.answer.specs.WrittenLaws.{err_head_length, err_wrote, wrote_before, wrote_before_not}
use Rattle.answer.proofs.put_err.Goals as goal

pub returns-then-not-has : goal.returns-then-not-has
returns-then-not-has c =
    let a = c.args in
    err_wrote a.code a.state.now a.message.now a.dst.now a.at c.if-state-ne5.false
    (wrote_full (err_bytes a.code a.state.now a.message.now) a.dst.now a.at
    (omega (
      arith,
      err_head_length a.code a.state.now c.if-state-ne5.false,
      length-append (err_head a.code a.state.now) a.message.now,
      has_no _ _ c.has.ensures c.if-not-has.true,
    )))

pub returns-in_err-end : goal.returns-in_err-end
returns-in_err-end c =
    let a = c.args in
    let five = c.if-state-ne5.false in
    let w =
    err_wrote a.code a.state.now a.message.now a.dst.now a.at five
    (wrote_before_not (err_head a.code a.state.now) a.message.now a.dst.now a.at (sym (err_head_length a.code a.state.now five)) c.in_err-end.ensures) in
    grind (arith, w)

pub returns : goal.returns
returns c =
    let a = c.args in
    let five = c.if-state-ne5.false in
    err_wrote a.code a.state.now a.message.now a.dst.now a.at five
    (wrote_before (err_head a.code a.state.now) a.message.now a.dst.now a.at (sym (err_head_length a.code a.state.now five)) c.in_ok-end.ensures
    c.in_ok-put_err_head.ensures)
