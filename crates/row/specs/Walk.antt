-- The columns of a row, in their order: where each starts, and where the last one ends.
use Rattle.refusal.specs.declared.Refusal.{Refusal}
use Rattle.std.specs.Prelude.{ℕ, zero, suc, ◌+◌, ◌≡◌, cond, List, [], ◌∷◌, ◌++◌, length, get_or, drop, eqb, Result}
use Rattle.refusal.specs.Said.{Said, gives, refused, said_of}
use Rattle.value.specs.Read.{skip_at}
use Rattle.row.specs.Nulls.{null_bit}

-- where column i ends if it starts at a place: "A NULL column's type is not tested; its start is where the next value would start"
unfoldable pub col_at : (s map : List ℕ) (off : ℕ) (ts : List ℕ) (i at : ℕ) → Said ℕ
col_at s map off ts i at = cond (eqb (null_bit map off i) 1) (gives at) (skip_at s at (get_or ts i 0))

-- a walk over columns: the start of each one come to, and where the last ends, or the first refusal
pub record Walk : Type 0 where
  pub starts : List ℕ
  pub ends : Said ℕ

-- a column that starts at a place, and those behind it
abbrev pub onward : ℕ → (ℕ → Walk) → Said ℕ → Walk
onward at rest (gives m) = record { starts = at ∷ (rest m).starts; ends = (rest m).ends }
onward at rest (refused k) = record { starts = at ∷ []; ends = refused k }

-- n columns from column i on, the first of them at a place
unfoldable pub walk : (s map : List ℕ) (off : ℕ) (ts : List ℕ) (i at : ℕ) → ℕ → Walk
walk s map off ts i at zero = record { starts = []; ends = gives at }
walk s map off ts i at (suc n) = onward at (λ m. walk s map off ts (i + 1) m n) (col_at s map off ts i at)

-- all the columns, the first of them at a place
abbrev pub walk_all : (s map : List ℕ) (off : ℕ) (ts : List ℕ) (from : ℕ) → Walk
walk_all s map off ts from = walk s map off ts 0 from (length ts)

-- a list of numbers with others written over its front: what lies past them stays
abbrev pub over : List ℕ → List ℕ → List ℕ
over l d = l ++ drop (length l) d

-- a pass that writes: its answer, and the list with the starts that it came to
pub record Passed (w : Walk) (d : List ℕ) (r : Result ℕ Refusal) (d' : List ℕ) : Type 0 where
  pub said : said_of r ≡ w.ends
  pub left : d' ≡ over w.starts d
