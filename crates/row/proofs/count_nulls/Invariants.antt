use Rattle.std.proofs.Common.{◌≡◌, ◌*◌, ◌-◌, min}
use Rattle.row.specs.Nulls.{null_count}
use Rattle.row.proofs.count_nulls.Given as goal

abbrev pub invariant-loop-k : goal.invariant-loop-k
invariant-loop-k l = l.count ≡ null_count l.map l.off (min (8 * l.k - l.off) l.n)
