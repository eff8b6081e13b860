use Rattle.wire.specs.RoomLaws.{has_yes, has_no, patch_cons, wrote_full, wrote_next}
use Rattle.wire.specs.LeLaws.{le_length}
use Rattle.wire.specs.Le.{le_bytes}
use native.Mathlib.Omega.{arith}
use lib.ListN.{length}
use Prim.Native.Nat.{◌+◌, ◌≤◌}
use mathlib.Core.List.{◌∷◌}
use mathlib.Core.Path.{◌∙◌}
use Rattle.wire.proofs.put_led.Goals as goal

pub returns-then-has : goal.returns-then-has
returns-then-has c =
    let p = c in
    let a = p.args in
    let h : a.at + (a.k + 1) ≤ length a.dst.now = has_yes (a.at + (a.k + 1)) (length a.dst.now) p.has.ensures p.if-has.true in
    let n = le_length a.k a.v in
    wrote_next (a.lead ∷ le_bytes a.k a.v) a.dst.now a.at _ _
    (omega (arith, n, h))
    (omega (arith, n))
    (c.put_le.ensures ∙ patch_cons a.dst.now a.at a.lead (le_bytes a.k a.v) (omega (arith, n, h)))

pub returns-else-has : goal.returns-else-has
returns-else-has c =
    let a = c.args in
    let h = has_no (a.at + (a.k + 1)) (length a.dst.now) c.has.ensures c.if-has.false in
    wrote_full (a.lead ∷ le_bytes a.k a.v) a.dst.now a.at (omega (arith, le_length a.k a.v, h))
