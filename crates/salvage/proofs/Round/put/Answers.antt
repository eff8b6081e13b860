use Rattle.salvage.specs.SalvageLaws.{round_said}
use Rattle.salvage.proofs.PutLaws.{put_both}
use Rattle.salvage.proofs.Round.put.Goals as goal

pub returns : goal.returns
returns c =
    let a = c.args in
    let p = c.put-next in
    let q = rw (c.from.ensures, c.number.ensures) at c.put.ensures in
    put_both a.at (round_said a.self) a.out.now a.i c.requires.0 p.result c.put.result p.new.out c.put.new.out p.ensures.0 p.ensures.1 q.0 q.1
