-- A list that is looked things up in: one test of each element by its place, to be computed over all of it, and what it says at each place.
use Rattle.std.specs.Prelude.{◌≡◌, refl, Bool, true, false, cond, List, [], ◌∷◌, ℕ, zero, suc, ◌+◌, ◌<◌, eqb, length, get_or}
use Rattle.std.proofs.Common.{ap, ◌∙◌, arith, eqb-true}

-- the elements, of which the first has place n, all pass
unfoldable pub every : (ℕ → ℕ → Bool) → ℕ → List ℕ → Bool
every t n [] = true
every t n (x ∷ xs) = cond (t n x) (every t (suc n) xs) false

pub every_at : (t : ℕ → ℕ → Bool) (n : ℕ) (xs : List ℕ) → every t n xs ≡ true → (i : ℕ) → i < length xs → t (n + i) (get_or xs i 0) ≡ true
unfolding every
every_at t n [] e i h = absurd (omega arith)
every_at t n (x ∷ xs) e i h = by (t n x) refl e (λ q j l. every_at t (suc n) xs q j l) i h
  where
    by : (b : Bool) → t n x ≡ b → cond b (every t (suc n) xs) false ≡ true
        → (every t (suc n) xs ≡ true → (j : ℕ) → j < length xs → t (suc n + j) (get_or xs j 0) ≡ true)
        → (i : ℕ) → i < length (x ∷ xs) → t (n + i) (get_or (x ∷ xs) i 0) ≡ true
    by true p q f zero l = let z : n + 0 ≡ n = omega arith in ap (λ (k : ℕ). t k x) z ∙ p
    by true p q f (suc j) l = let z : n + suc j ≡ suc n + j = omega arith in ap (λ (k : ℕ). t k (get_or xs j 0)) z ∙ f q j (omega arith)
    by false p q f j l = absurd (let z : ◌≡◌ {A = ℕ} 0 1 = cc in omega arith)

-- the element at place i is what f says
abbrev pub tells : (ℕ → ℕ) → ℕ → ℕ → Bool
tells f i x = eqb x (f i)

pub told_at : (f : ℕ → ℕ) (xs : List ℕ) → every (tells f) 0 xs ≡ true → (i : ℕ) → i < length xs → get_or xs i 0 ≡ f i
told_at f xs e i h =
    let z : 0 + i ≡ i = omega arith in
    eqb-true (get_or xs i 0) (f (0 + i)) (every_at (tells f) 0 xs e i h) ∙ ap f z
