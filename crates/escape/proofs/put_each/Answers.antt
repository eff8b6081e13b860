use Rattle.escape.proofs.PutLaws.{leading_none, leading_byte}
use mathlib.Core.Path.{refl, ◌∙◌}
use native.Mathlib.Omega.{arith}
use Rattle.escape.proofs.put_each.Goals as goal

pub loop-b-init : goal.loop-b-init
loop-b-init g c = (leading_none (g.P.Put.mode c.args.by.now) c.args.src.now c.args.dst.now c.args.at, refl)

pub loop-b-preserved : goal.loop-b-preserved
loop-b-preserved g c =
    let m = g.P.Put.mode c.args.by.now in
    let l = c.loop-b in
    let did = c.put-next in
    (leading_byte m c.args.src.now l.b-index (omega arith) l.invariant.0 l.invariant.1 did.ensures, did.auto.dst ∙ l.invariant.1)
