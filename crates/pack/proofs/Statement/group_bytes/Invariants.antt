use Rattle.std.proofs.Common.{◌≡◌, ◌≤◌, drop}
use Rattle.pack.specs.Pack.{size}
use Rattle.pack.specs.PackLaws.{grown}
use Rattle.pack.proofs.Statement.group_bytes.Given as goal

abbrev pub invariant-loop-row : goal.invariant-loop-row
invariant-loop-row l = (l.used ≤ l.self.limit) × (grown l.used (drop l.row-index l.others) ≡ size l.self.overhead l.group)
