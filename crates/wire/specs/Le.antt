-- Numbers of a fixed width: "low byte first" (MySQL's document, "Fixed-Length Integer Types"). Once, for every width.
use Rattle.wire.specs.declared.Parsed.{Parsed}
use Rattle.std.specs.Prelude.{ℕ, zero, suc, ◌+◌, ◌*◌, ◌/◌, ◌%◌, List, [], ◌∷◌, length, take, drop, leb}
use Rattle.refusal.specs.Said.{Said, gives, check}

-- the number that the bytes of a list spell
unfoldable pub le_of : List ℕ → ℕ
le_of [] = 0
le_of (b ∷ bs) = b + 256 * le_of bs

-- the number that k bytes from a place on spell
abbrev pub le_at : List ℕ → ℕ → ℕ → ℕ
le_at s at k = le_of (take k (drop at s))

-- a number as k bytes
unfoldable pub le_bytes : ℕ → ℕ → List ℕ
le_bytes zero v = []
le_bytes (suc k) v = v % 256 ∷ le_bytes k (v / 256)

-- reading k bytes at a place: the number and the place behind it, or 8
unfoldable pub num_at : List ℕ → ℕ → ℕ → Said (Parsed ℕ)
num_at s at k = check (leb (at + k) (length s)) 8 (gives (record { value = le_at s at k; next = at + k }))
