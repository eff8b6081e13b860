use Rattle.escape.specs.QuoteLaws.{mores}
use lib.ListN.{take}
use mathlib.Core.Path.{◌≡◌}
use Prim.Native.Nat.{◌*◌}
use Rattle.escape.proofs.clean_by.Given as goal

abbrev pub invariant-loop-part : goal.invariant-loop-part
invariant-loop-part g l = mores l.no_backslash_escape (take (l.part-index * g.row.K) l.input) ≡ 0
