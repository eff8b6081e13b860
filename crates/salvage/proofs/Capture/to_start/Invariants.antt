use Rattle.salvage.specs.Salvage.{to_start}
use Rattle.std.proofs.Common.{◌≡◌, ◌+◌, drop}
use Rattle.salvage.proofs.Capture.to_start.Given as goal

abbrev pub invariant-loop-at : goal.invariant-loop-at
invariant-loop-at l = l.at + to_start l.self.limit (drop l.at l.self.bytes.now) ≡ to_start l.self.limit l.self.bytes.now
