use Rattle.chunk.proofs.Reading.{Head}
use Rattle.std.proofs.Common.{◌-◌, length}
use Rattle.chunk.proofs.decode_with.Given as goal

abbrev pub invariant-loop-answer : goal.invariant-loop-answer
invariant-loop-answer l = Head l.initial.dst l.x l.src l.initial.st l.dst l.at l.st

abbrev pub decreases-loop-answer : goal.decreases-loop-answer
decreases-loop-answer l = length l.src - l.at
