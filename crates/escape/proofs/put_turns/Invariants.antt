use Rattle.escape.specs.Turns.{Leading}
use mathlib.Core.Bool.{false}
use lib.ListN.{length, take}
use mathlib.Core.Path.{◌≡◌}
use Prim.Native.Nat.{◌-◌, ◌≤◌}
use Rattle.escape.proofs.put_turns.Given as goal

abbrev pub invariant-loop-step : goal.invariant-loop-step
invariant-loop-step l =
    (l.step.from ≤ length l.input)
    × Leading false (take l.step.from l.input) l.initial.dst l.at l.step.next l.dst
    × (length l.dst ≡ length l.initial.dst)

abbrev pub decreases-loop-step : goal.decreases-loop-step
decreases-loop-step l = length l.input - l.step.from
