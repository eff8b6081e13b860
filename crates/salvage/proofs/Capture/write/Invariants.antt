use Rattle.salvage.proofs.RoundLaws.{Writing}
use Rattle.std.proofs.Common.{◌-◌, length}
use Rattle.salvage.proofs.Capture.write.Given as goal

abbrev pub invariant-loop-at : goal.invariant-loop-at
invariant-loop-at l = Writing l.self.limit l.self.bytes.now l.initial.out l.out l.i l.at

abbrev pub decreases-loop-at : goal.decreases-loop-at
decreases-loop-at l = length l.self.bytes.now - l.at
