use Rattle.escape.proofs.PutLaws.{leading_none, leading_on}
use mathlib.Core.Bool.{false}
use mathlib.Core.Path.{refl, ◌∙◌}
use native.Mathlib.Omega.{arith}
use Rattle.escape.proofs.put_turns.Goals as goal

pub loop-step-init : goal.loop-step-init
loop-step-init c = (omega arith, leading_none false c.args.input.now c.args.dst.now c.args.at, refl)

pub loop-step-preserved : goal.loop-step-preserved
loop-step-preserved c =
    let l = c.loop-step in
    let did = c.turn-step in
    let on = leading_on false c.args.input.now l.step.from did.result.from (omega (arith, did.ensures.on)) l.invariant.1 l.invariant.2 did.ensures.leading in
    (did.ensures.within, on, did.auto.dst ∙ l.invariant.2)
