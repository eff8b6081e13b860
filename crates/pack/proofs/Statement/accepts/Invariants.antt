use Rattle.std.proofs.Common.{◌≡◌, ◌≤◌, length, drop}
use Rattle.pack.specs.Pack.{accepts}
use Rattle.pack.proofs.Statement.accepts.Given as goal

abbrev pub invariant-loop-end : goal.invariant-loop-end
invariant-loop-end l = (l.at ≤ length l.rows) × (accepts l.self.overhead l.self.limit l.at (drop l.at l.rows) (drop l.end-index l.proposal) ≡ accepts l.self.overhead l.self.limit 0 l.rows l.proposal)
