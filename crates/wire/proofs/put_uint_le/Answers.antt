use Rattle.wire.specs.RoomLaws.{has_yes, has_no, wrote_full, wrote_next}
use Rattle.wire.specs.LeLaws.{le_length}
use Rattle.wire.specs.Le.{le_bytes}
use native.Mathlib.Omega.{arith}
use lib.ListN.{length}
use Prim.Native.Nat.{◌+◌, ◌≤◌}
use Rattle.wire.proofs.put_uint_le.Goals as goal

pub returns-then-has : goal.returns-then-has
returns-then-has c =
    let p = c in
    let a = p.args in
    let h : a.at + a.k ≤ length a.dst.now = has_yes (a.at + a.k) (length a.dst.now) p.has.ensures p.if-has.true in
    wrote_next (le_bytes a.k a.v) a.dst.now a.at _ _ (omega (arith, le_length a.k a.v, h)) (omega (arith, le_length a.k a.v))
    c.put_le.ensures

pub returns-else-has : goal.returns-else-has
returns-else-has c =
    let a = c.args in
    let h = has_no (a.at + a.k) (length a.dst.now) c.has.ensures c.if-has.false in
    wrote_full (le_bytes a.k a.v) a.dst.now a.at (omega (arith, le_length a.k a.v, h))
