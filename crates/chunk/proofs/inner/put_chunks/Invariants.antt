use Rattle.chunk.proofs.Writing.{Head}
use Rattle.std.proofs.Common.{◌-◌, length}
use Rattle.chunk.proofs.inner.put_chunks.Given as goal

abbrev pub invariant-loop-at : goal.invariant-loop-at
invariant-loop-at l = Head l.initial.dst l.from l.first l.packet l.dst l.at l.out l.number

abbrev pub decreases-loop-at : goal.decreases-loop-at
decreases-loop-at l = length l.packet - l.at
