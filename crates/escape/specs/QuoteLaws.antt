-- Laws of the quoted form: a byte becomes itself, or a first byte of its mode's and a second one of its own.
use Rattle.std.specs.Prelude.{ℕ, suc, ◌+◌, ◌≤◌, ◌<◌, ◌^◌, ◌≡◌, refl, Bool, true, false, cond, List, [], ◌∷◌, length, drop, get_or, eqb, ltb, Option, None, Some}
use Rattle.std.proofs.Common.{ap, arith, length-append, drop-cons, eqb-true, ltb-false, eq-eqb, ne_eqb}
use Rattle.std.proofs.lemmas.Bool.{eqb-false}
use Rattle.escape.specs.Quote.{quote, backslash, behind, becomes, body, quoted}
use Rattle.wire.specs.Room.{length_of}
use Rattle.refusal.specs.Said.{gives, refused, gives_same}

-- the first of two bytes, and the second one, or 0 where a byte stands for itself
abbrev pub first_of : Bool → ℕ
first_of no_backslash = cond no_backslash quote backslash

unfoldable pub second_of : Bool → ℕ → ℕ
second_of no_backslash b = cond no_backslash (cond (eqb b quote) quote 0) (behind b)

-- ... which the code says by an option
abbrev pub unless_zero : ℕ → Option ℕ
unless_zero n = cond (eqb n 0) None (Some n)

pub becomes_itself : (m : Bool) (b : ℕ) → second_of m b ≡ 0 → becomes m b ≡ b ∷ []
unfolding becomes second_of
becomes_itself true b e = other (eqb b quote) e
  where
    other : (t : Bool) → cond t quote 0 ≡ 0 → cond t (quote ∷ quote ∷ []) (b ∷ []) ≡ b ∷ []
    other true z = absurd (omega arith)
    other false z = refl
becomes_itself false b e = simp (eq-eqb (behind b) 0 e)

pub becomes_two : (m : Bool) (b : ℕ) → (second_of m b ≡ 0 → ⊥) → becomes m b ≡ first_of m ∷ second_of m b ∷ []
unfolding becomes second_of
becomes_two true b n = other (eqb b quote) n
  where
    other : (t : Bool) → (cond t quote 0 ≡ 0 → ⊥) → cond t (quote ∷ quote ∷ []) (b ∷ []) ≡ quote ∷ cond t quote 0 ∷ []
    other true z = refl
    other false z = absurd (z refl)
becomes_two false b n = simp (ne_eqb (behind b) 0 n)

-- how many bytes become two
abbrev pub more_of : Bool → ℕ → ℕ
more_of no_backslash b = cond (eqb (second_of no_backslash b) 0) 0 1

unfoldable pub mores : Bool → List ℕ → ℕ
mores no_backslash [] = 0
mores no_backslash (b ∷ bs) = more_of no_backslash b + mores no_backslash bs

becomes-length : (m : Bool) (b : ℕ) → length (becomes m b) ≡ 1 + more_of m b
becomes-length m b = by (eqb (second_of m b) 0) refl
  where
    by : (t : Bool) → eqb (second_of m b) 0 ≡ t → length (becomes m b) ≡ 1 + cond t 0 1
    by true e = ap length (becomes_itself m b (eqb-true (second_of m b) 0 e))
    by false e = ap length (becomes_two m b (eqb-false (second_of m b) 0 e))

pub body-length : (m : Bool) (bs : List ℕ) → length (body m bs) ≡ length bs + mores m bs
unfolding body mores
body-length m [] = refl
body-length m (b ∷ bs) = omega (arith, length-append (becomes m b) (body m bs), becomes-length m b, body-length m bs)

-- no more than all of them
pub mores-most : (m : Bool) (bs : List ℕ) → mores m bs ≤ length bs
unfolding mores
mores-most m [] = omega arith
mores-most m (b ∷ bs) = omega (arith, one (eqb (second_of m b) 0), mores-most m bs)
  where
    one : (t : Bool) → cond t 0 1 ≤ 1
    one true = omega arith
    one false = omega arith

-- one byte more
pub mores_more : (m : Bool) (bs : List ℕ) (i : ℕ) → i < length bs → mores m (drop i bs) ≡ more_of m (get_or bs i 0) + mores m (drop (suc i) bs)
unfolding mores
mores_more m bs i h = rw (drop-cons bs i 0)

-- the length of what is written: the bytes, those that become two once more, and the two quotes
pub quoted-length : (m : Bool) (bs : List ℕ) → length (quoted m bs) ≡ length bs + mores m bs + 2
unfolding quoted
quoted-length m bs = omega (arith, length-append (body m bs) (quote ∷ []), body-length m bs)

-- what an answer tells of the length
module _ (m : Bool) (bs : List ℕ) where
  pub length-given : {n : ℕ} → gives n ≡ length_of (quoted m bs) → n ≡ length (quoted m bs)
  length-given {n} e = by (ltb (length (quoted m bs)) (2 ^ 64)) e
    where
      by : (t : Bool) → gives n ≡ cond t (gives (length (quoted m bs))) (refused 6) → n ≡ length (quoted m bs)
      by true f = gives_same f
      by false f = let z : ◌≡◌ {A = ℕ} 0 1 = cc f in absurd (omega arith)

  pub length_refused : {k : ℕ} → refused k ≡ length_of (quoted m bs) → 2 ^ 64 ≤ length (quoted m bs)
  length_refused {k} e = by (ltb (length (quoted m bs)) (2 ^ 64)) refl e
    where
      by : (t : Bool) → ltb (length (quoted m bs)) (2 ^ 64) ≡ t → refused k ≡ cond t (gives (length (quoted m bs))) (refused 6) → 2 ^ 64 ≤ length (quoted m bs)
      by true h f = let z : ◌≡◌ {A = ℕ} 0 1 = cc f in absurd (omega arith)
      by false h f = ltb-false (length (quoted m bs)) (2 ^ 64) h
