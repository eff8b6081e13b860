use Rattle.answer.specs.WrittenLaws.{ok_head_wrote}
use Rattle.answer.proofs.put_ok_head.Goals as goal

pub returns : goal.returns
returns c =
    let a = c.args in
    ok_head_wrote a.rows a.id a.status a.warnings a.dst.now a.at c.requires c.in_ok-first.ensures c.in_ok-second.ensures
    c.in_ok-third.ensures c.put_words.ensures
