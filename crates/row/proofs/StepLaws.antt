-- A table has the step of each type: one test, to be computed over all of it.
use mathlib.Core.Path.{◌≡◌}
use mathlib.Core.Bool.{true}
use mathlib.Core.List.{List}
use Prim.Native.Nat.{ℕ}
use native.Mathlib.Omega.{arith}
use lib.ListN.{length}
use Rattle.wire.specs.TableLaws.{every, tells, told_at}
use Rattle.value.specs.Kinds.{kind_of}
use Rattle.value.specs.Steps.{step_of, Steps}

-- the step of type t
abbrev pub step : ℕ → ℕ
step t = step_of (kind_of t)

pub steps_are : (l : List ℕ) → length l ≡ 256 → every (tells step) 0 l ≡ true → Steps l
steps_are l n e = record { right = λ t h. told_at step l e t (omega (arith, n, h)) }
