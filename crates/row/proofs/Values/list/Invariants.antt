use Rattle.std.proofs.Common.{◌≤◌, length}
use Rattle.row.proofs.WalkLaws.{Ending, Listing}
use Rattle.row.proofs.Values.list.Given as goal

abbrev pub invariant-loop-i : goal.invariant-loop-i
invariant-loop-i l =
    (l.at ≤ length l.self.bytes.now)
    × Ending l.self.bytes.now l.self.map.now l.self.off l.self.types.now l.from l.at l.i
    × Listing l.self.bytes.now l.self.map.now l.self.off l.self.types.now l.from l.initial.starts l.starts l.at l.i
