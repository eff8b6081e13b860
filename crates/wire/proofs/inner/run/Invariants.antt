use lib.Seq.{paste}
use lib.ListN.{length}
use Prim.Native.Nat.{◌≤◌}
use mathlib.Core.Path.{◌≡◌}
use Rattle.wire.proofs.inner.run.Given as goal

abbrev pub invariant-loop-i : goal.invariant-loop-i
invariant-loop-i l = (l.i ≤ length l.src) × (l.dst ≡ paste l.initial.dst l.at l.src l.i) × (length l.dst ≡ length l.initial.dst)
