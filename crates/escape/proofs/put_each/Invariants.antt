use Rattle.escape.specs.Turns.{Leading}
use lib.ListN.{length, take}
use mathlib.Core.Path.{◌≡◌}
use Rattle.escape.proofs.put_each.Given as goal

abbrev pub invariant-loop-b : goal.invariant-loop-b
invariant-loop-b g l = Leading (g.P.Put.mode l.by) (take l.b-index l.src) l.initial.dst l.at l.next l.dst × (length l.dst ≡ length l.initial.dst)
