use Rattle.escape.specs.QuoteLaws.{mores}
use lib.ListN.{take}
use mathlib.Core.Path.{◌≡◌}
use Prim.Native.Nat.{◌*◌}
use Rattle.escape.proofs.mores.Given as goal

abbrev pub invariant-loop-part : goal.invariant-loop-part
invariant-loop-part l = l.n ≡ mores l.no_backslash_escape (take (l.part-index * 64) l.input)
