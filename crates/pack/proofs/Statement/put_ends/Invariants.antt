use Rattle.std.proofs.Common.{◌≤◌}
use Rattle.pack.specs.WalkLaws.{Rest}
use Rattle.pack.proofs.Statement.put_ends.Given as goal

abbrev pub invariant-loop-i : goal.invariant-loop-i
invariant-loop-i l = (l.used ≤ l.self.limit) × Rest l.self.overhead l.self.limit l.rows l.initial.ends l.used l.n l.i l.ends
