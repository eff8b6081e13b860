-- The length in a header, read from its first three bytes, is that read where they stand.
use Rattle.std.proofs.Common.{◌≡◌, ℕ, ◌≤◌, List, [], ◌∷◌, length, get_or, refl, arith}
use Rattle.wire.specs.Le.{le_at}

pub three_bytes : (h : List ℕ) → 3 ≤ length h → le_at (get_or h 0 0 ∷ get_or h 1 0 ∷ get_or h 2 0 ∷ []) 0 3 ≡ le_at h 0 3
three_bytes [] l = absurd (omega arith)
three_bytes (a ∷ []) l = absurd (omega arith)
three_bytes (a ∷ b ∷ []) l = absurd (omega arith)
three_bytes (a ∷ b ∷ c ∷ h) l = refl
