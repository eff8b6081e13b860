use Rattle.answer.specs.WrittenLaws.{err_head_wrote}
use Rattle.answer.proofs.put_err_head.Goals as goal

pub returns : goal.returns
returns c =
    let a = c.args in
    err_head_wrote a.code a.state.now a.dst.now a.at c.requires c.in_ok-first.ensures c.in_ok-second.ensures
    c.in_ok-third.ensures c.put_slice-3.ensures
