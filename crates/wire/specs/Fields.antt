-- The fields of a date or time: which are there goes by the number of bytes (01, "Values").
use Rattle.std.specs.Prelude.{ℕ, cond, List, length, leb, eqb}
use Rattle.wire.specs.Le.{le_at}

-- k bytes at a place, where there are so many bytes or more; else 0
unfoldable pub since : ℕ → List ℕ → ℕ → ℕ → ℕ
since least b at k = cond (leb least (length b)) (le_at b at k) 0

-- k bytes at a place, where there are exactly so many bytes; else 0
unfoldable pub just : ℕ → List ℕ → ℕ → ℕ → ℕ
just size b at k = cond (eqb (length b) size) (le_at b at k) 0
