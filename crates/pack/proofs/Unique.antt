-- Any two answers, and any two lists left, that the contracts allow are equal.
use Rattle.refusal.specs.declared.Refusal.{Refusal}
use Rattle.std.specs.Prelude.{Bool, Result}
use Prim.Native.Nat.{ℕ}
use mathlib.Core.Path.{◌≡◌, sym, ◌∙◌}
use mathlib.Core.List.{List}
use Rattle.refusal.specs.Said.{said_of, said_same}
use Rattle.pack.specs.Pack.{judged, Plans}

pub judge_unique : (o limit : ℕ) (rows proposal : List ℕ) (r r' : Result Bool Refusal)
    → said_of r ≡ judged o limit rows proposal → said_of r' ≡ judged o limit rows proposal → r ≡ r'
judge_unique o limit rows proposal r r' p q = said_same r r' (p ∙ sym q)

pub plan_unique : (o limit : ℕ) (rows d : List ℕ) (r r' : Result ℕ Refusal) (d₁ d₂ : List ℕ)
    → Plans o limit rows d r d₁ → Plans o limit rows d r' d₂ → (r ≡ r') × (d₁ ≡ d₂)
plan_unique o limit rows d r r' d₁ d₂ p q = (said_same r r' (p.said ∙ sym q.said), p.left ∙ sym q.left)
