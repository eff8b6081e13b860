use Rattle.escape.proofs.PutLaws.{leading_copy}
use mathlib.Core.Bool.{false}
use lib.ListN.{length, take, drop, length-drop}
use lib.Seq.{length-take-le}
use mathlib.Core.Path.{◌≡◌, sym, ◌∙◌}
use Prim.Native.Nat.{◌+◌, ◌-◌}
use native.Mathlib.Omega.{arith}
use Rattle.escape.proofs.turn.Goals as goal

pub returns-then-mores_in-eq0 : goal.returns-then-mores_in-eq0
returns-then-mores_in-eq0 c =
    let a = c.args in
    let from = a.step.from in
    let s = take 16 (drop from a.input.now) in
    let n : length s ≡ 16 = length-take-le 16 (drop from a.input.now) (omega (arith, length-drop from a.input.now)) in
    let wide : from + 16 - from ≡ 16 = omega arith in
    let clean = sym (rw wide at c.mores_in.ensures) ∙ c.if-mores_in-eq0.true in
    record {
      on = omega arith;
      within = omega arith;
      leading = rw wide (leading_copy false s a.dst.now a.step.next _ clean (omega (arith, n)) (rw wide at c.copy_sixteen.ensures));
    }
