use Rattle.std.proofs.Common.{◌≡◌, ◌+◌, ◌≤◌, drop}
use Rattle.pack.specs.WalkLaws.{groups_of, groups_on}
use Rattle.pack.proofs.Statement.count_groups.Given as goal

abbrev pub invariant-loop-row : goal.invariant-loop-row
invariant-loop-row l = (l.used ≤ l.self.limit) × (l.ended ≤ l.row-index) × (groups_on l.self.overhead l.self.limit l.used l.ended (l.row-index + 1) (drop (l.row-index + 1) l.rows) ≡ groups_of l.self.overhead l.self.limit l.rows)
