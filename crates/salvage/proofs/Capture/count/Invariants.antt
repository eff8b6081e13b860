use Rattle.salvage.specs.Salvage.{stretches}
use Rattle.salvage.proofs.RoundLaws.{rest}
use Rattle.std.proofs.Common.{◌≡◌, ◌+◌, ◌-◌, ◌≤◌, length}
use Rattle.salvage.proofs.Capture.count.Given as goal

abbrev pub invariant-loop-at : goal.invariant-loop-at
invariant-loop-at l = record {
  few : l.n ≤ l.at;
  within : l.at ≤ length l.self.bytes.now;
  all : l.n + length (rest l.self.limit l.self.bytes.now l.at) ≡ length (stretches l.self.limit l.self.bytes.now);
}

abbrev pub decreases-loop-at : goal.decreases-loop-at
decreases-loop-at l = length l.self.bytes.now - l.at
