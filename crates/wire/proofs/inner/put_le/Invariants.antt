use mathlib.Core.Path.{◌≡◌}
use Prim.Native.Nat.{◌-◌}
use lib.ListN.{length, drop}
use lib.Seq.{paste}
use Rattle.wire.specs.Le.{le_bytes}
use Rattle.wire.proofs.inner.put_le.Given as goal

abbrev pub invariant-loop-i : goal.invariant-loop-i
invariant-loop-i l = (l.dst ≡ paste l.initial.dst l.at (le_bytes l.k l.v) l.i) × (le_bytes (l.k - l.i) l.rest ≡ drop l.i (le_bytes l.k l.v)) × (length l.dst ≡ length l.initial.dst)
