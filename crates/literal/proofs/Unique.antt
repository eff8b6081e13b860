-- Each contract determines all: any two results that it allows are equal.
use Rattle.literal.specs.declared.Bad.{Bad}
use Rattle.std.specs.Prelude.{Result}
use Prim.Native.Nat.{ℕ}
use mathlib.Core.Path.{◌≡◌, sym, ◌∙◌}
use mathlib.Core.Bool.{Bool}
use mathlib.Core.List.{List}
use Rattle.literal.specs.Checked.{checked, counted, said, Meant}
use Rattle.literal.specs.AnswerLaws.{answer_same, meant_same}

-- `checked_len`
pub checked_len_unique : (m : Bool) (s : List ℕ) (r q : Result ℕ Bad) → said r ≡ counted (checked m s) → said q ≡ counted (checked m s) → r ≡ q
checked_len_unique m s r q e f = answer_same r q (e ∙ sym f)

-- `checked`
pub checked_unique : (m : Bool) (s d : List ℕ) (r q : Result ℕ Bad) (d₁ d₂ : List ℕ) → Meant (checked m s) d r d₁ → Meant (checked m s) d q d₂ → (r ≡ q) × (d₁ ≡ d₂)
checked_unique m s d r q d₁ d₂ x y = meant_same x y
