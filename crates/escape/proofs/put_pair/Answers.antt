use Rattle.escape.proofs.PutLaws.{leading_pair}
use Rattle.escape.proofs.put_pair.Goals as goal

pub returns : goal.returns
returns c =
    let a = c.args in
    rw c.lead_of-first.ensures (leading_pair a.dst.now a.at a.b a.second a.escapes c.requires.0 c.requires.1 c.requires.2)
