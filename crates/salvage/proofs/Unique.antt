-- Any two answers, and any two lists left, that the contracts allow are equal.
use Rattle.refusal.specs.declared.Refusal.{Refusal}
use Rattle.std.specs.Prelude.{Result}
use Rattle.std.proofs.Common.{◌≡◌, ℕ, List, sym, ◌∙◌}
use Rattle.refusal.specs.Said.{said_of, said_same}
use Rattle.salvage.specs.Salvage.{counted, Salvages}

-- `stretches`
pub stretches_unique : (limit : ℕ) (s : List ℕ) (r r' : Result ℕ Refusal) → said_of r ≡ counted limit s → said_of r' ≡ counted limit s → r ≡ r'
stretches_unique limit s r r' p q = said_same r r' (p ∙ sym q)

-- `salvage`
pub salvage_unique : (limit : ℕ) (s d : List ℕ) (r r' : Result ℕ Refusal) (d₁ d₂ : List ℕ)
    → Salvages limit s d r d₁ → Salvages limit s d r' d₂ → (r ≡ r') × (d₁ ≡ d₂)
salvage_unique limit s d r r' d₁ d₂ p q = (said_same r r' (p.said ∙ sym q.said), p.left ∙ sym q.left)
