use Rattle.frame.proofs.Rounds.{Head}
use Rattle.std.proofs.Common.{◌-◌, length}
use Rattle.frame.proofs.decode_framed.Given as goal

abbrev pub invariant-loop-r : goal.invariant-loop-r
invariant-loop-r l = Head l.initial.staging l.initial.dst l.initial.st l.src l.staging l.dst l.at l.st

abbrev pub decreases-loop-r : goal.decreases-loop-r
decreases-loop-r l = length l.src - l.at
