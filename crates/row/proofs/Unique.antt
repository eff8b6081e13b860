-- Any two answers, and any two lists left, that the contracts allow are equal.
use Rattle.refusal.specs.declared.Refusal.{Refusal}
use Rattle.std.specs.Prelude.{Result, Bool}
use mathlib.Core.Path.{◌≡◌, sym, ◌∙◌}
use mathlib.Core.List.{List}
use Prim.Native.Nat.{ℕ}
use Rattle.refusal.specs.Said.{said_of, said_same}
use Rattle.row.specs.Nulls.{offset_of, null_at, count_at}
use Rattle.row.specs.Row.{RowEnd, Rowed, row_of, params_of}
use Rattle.row.specs.declared.Columns.{Columns}
use Rattle.row.specs.declared.Side.{Side}

ends_same : (e : RowEnd) (r r' : Result Columns Refusal) (d d' : List ℕ) → Rowed e r d → Rowed e r' d' → (r ≡ r') × (d ≡ d')
ends_same e r r' d d' p q = (said_same r r' (p.said ∙ sym q.said), p.left ∙ sym q.left)

pub bit_offset_unique : (side : Side) (r r' : ℕ) → r ≡ offset_of side → r' ≡ offset_of side → r ≡ r'
bit_offset_unique side r r' p q = p ∙ sym q

pub null_bit_unique : (map : List ℕ) (side : Side) (i : ℕ) (r r' : Result Bool Refusal) → said_of r ≡ null_at map side i → said_of r' ≡ null_at map side i → r ≡ r'
null_bit_unique map side i r r' p q = said_same r r' (p ∙ sym q)

pub null_count_unique : (map : List ℕ) (side : Side) (n : ℕ) (r r' : Result ℕ Refusal) → said_of r ≡ count_at map side n → said_of r' ≡ count_at map side n → r ≡ r'
null_count_unique map side n r r' p q = said_same r r' (p ∙ sym q)

pub read_row_unique : (s ts us d : List ℕ) (r r' : Result Columns Refusal) (d₁ d₂ : List ℕ)
    → Rowed (row_of s ts us d) r d₁ → Rowed (row_of s ts us d) r' d₂ → (r ≡ r') × (d₁ ≡ d₂)
read_row_unique s ts us d r r' d₁ d₂ p q = ends_same (row_of s ts us d) r r' d₁ d₂ p q

pub read_params_unique : (s ts us d : List ℕ) (r r' : Result Columns Refusal) (d₁ d₂ : List ℕ)
    → Rowed (params_of s ts us d) r d₁ → Rowed (params_of s ts us d) r' d₂ → (r ≡ r') × (d₁ ≡ d₂)
read_params_unique s ts us d r r' d₁ d₂ p q = ends_same (params_of s ts us d) r r' d₁ d₂ p q
