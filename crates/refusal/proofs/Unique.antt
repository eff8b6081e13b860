-- The one entry's answer is determined, and tells the refusal: no two have one number.
use mathlib.Core.Path.{◌≡◌, sym, ◌∙◌}
use Prim.Native.Nat.{ℕ}
use Rattle.refusal.specs.Number.{number, number_same}
use Rattle.refusal.specs.declared.Refusal.{Refusal}

-- `number_of`
pub number_of : (r : Refusal) (m n : ℕ) → m ≡ number r → n ≡ number r → m ≡ n
number_of r m n e f = e ∙ sym f

pub tells : (r q : Refusal) → number r ≡ number q → r ≡ q
tells = number_same
