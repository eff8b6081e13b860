use Rattle.std.proofs.Common.{◌≡◌, None}
use Rattle.salvage.proofs.RunLaws.{Going}
use Rattle.salvage.proofs.Capture.run.Given as goal

abbrev pub invariant-loop : goal.invariant-loop
invariant-loop l = (l.run.packets ≡ l.counter) × (l.run.why ≡ None) × Going l.self.limit l.most l.self.bytes.now l.counter l.run.bytes l.expected
