use Rattle.literal.specs.Checked.{checked, counted}
use Rattle.literal.specs.JudgeLaws.{leads}
use lib.ListN.{length}
use mathlib.Core.Path.{◌≡◌}
use Prim.Native.Nat.{◌-◌, ◌≤◌}
use Rattle.literal.proofs.checked_len.Given as goal

abbrev pub invariant-loop-next : goal.invariant-loop-next
invariant-loop-next l =
    (l.spot.at ≤ length l.input)
    × (l.spot.count ≤ l.spot.at)
    × (leads l.no_backslash_escape l.input l.spot.at l.spot.count ≡ counted (checked l.no_backslash_escape l.input))

abbrev pub decreases-loop-next : goal.decreases-loop-next
decreases-loop-next l = length l.input - l.spot.at
