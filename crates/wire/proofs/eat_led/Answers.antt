use borrow.Author.Tests.{le-leb, lt-leb}
use native.Mathlib.Omega.{arith}
use lib.ListN.{length}
use Prim.Native.Nat.{◌+◌}
use Rattle.wire.proofs.eat_led.Goals as goal

pub returns-then-k-s : goal.returns-then-k-s
returns-then-k-s c =
    let a = c.args in
    simp (le-leb (a.at + 1 + a.k) (length a.s.now) (omega arith), c.le-value.ensures.0)

pub returns-else-k-s : goal.returns-else-k-s
returns-else-k-s c =
    let a = c.args in
    simp (lt-leb (a.at + 1 + a.k) (length a.s.now) (omega arith))
