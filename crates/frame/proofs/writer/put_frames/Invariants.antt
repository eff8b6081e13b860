use Rattle.frame.proofs.Writing.{Head}
use Rattle.frame.proofs.writer.put_frames.Given as goal

abbrev pub invariant-loop-left : goal.invariant-loop-left
invariant-loop-left l = Head l.initial.dst l.first l.total l.piece l.dst l.left l.out l.from l.number

abbrev pub decreases-loop-left : goal.decreases-loop-left
decreases-loop-left l = l.left
