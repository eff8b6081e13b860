use Rattle.literal.specs.WriteLaws.{rest, Sound, Passed}
use lib.ListN.{length}
use mathlib.Core.Path.{◌≡◌}
use Prim.Native.Nat.{◌-◌, ◌<◌}
use Rattle.literal.proofs.put_meaning.Given as goal

abbrev pub invariant-loop-spot : goal.invariant-loop-spot
invariant-loop-spot l = (l.spot.at < length l.input)
    × Sound l.no_backslash_escape l.input l.spot.at
    × Passed l.initial.dst 0 (rest l.no_backslash_escape l.input 1) l.dst l.spot.count (rest l.no_backslash_escape l.input l.spot.at)
    × (length l.dst ≡ length l.initial.dst)

abbrev pub decreases-loop-spot : goal.decreases-loop-spot
decreases-loop-spot l = length l.input - l.spot.at
