use Rattle.escape.specs.QuoteLaws.{mores}
use lib.ListN.{take}
use mathlib.Core.Path.{◌≡◌}
use Rattle.escape.proofs.mores_in.Given as goal

abbrev pub invariant-loop-b : goal.invariant-loop-b
invariant-loop-b l = l.n ≡ mores l.no_backslash_escape (take l.b-index l.part)
