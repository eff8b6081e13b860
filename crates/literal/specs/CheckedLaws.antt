-- How the checker's walk goes: by items of the grammar, up to the closing quote or to the place where it stops.
use Rattle.std.specs.Prelude.{ℕ, ◌≡◌, refl, Bool, true, false, cond, List, [], ◌∷◌, ◌++◌, length, eqb}
use Rattle.std.proofs.Common.{arith, sym, ap, ◌∙◌, true≢false, eqb-true, ne_eqb}
use Rattle.std.proofs.lemmas.Bool.{eqb-false}
use Rattle.escape.specs.Quote.{quote, backslash}
use Rattle.escape.specs.Meaning.{escape_means}
use Rattle.literal.specs.Grammar.{Item, itself, doubled, escape}
use Rattle.literal.specs.Checked.{Verdict, means, bad, also, inside}

-- a number that is k, or is not
pub whether : {P : Type 0} (b k : ℕ) → (b ≡ k → P) → ((b ≡ k → ⊥) → P) → P
whether {P} b k y n = by (eqb b k) refl
  where
    by : (t : Bool) → eqb b k ≡ t → P
    by true e = y (eqb-true b k e)
    by false e = n (eqb-false b k e)

pub means_not_bad : {bs : List ℕ} {p : ℕ} → means bs ≡ bad p → ⊥
means_not_bad e = let z : ◌≡◌ {A = ℕ} 0 1 = cc e in omega arith

-- no backslash that escapes
pub backslash_not : (m : Bool) (c : ℕ) → (m ≡ false → c ≡ backslash → ⊥) → cond m false (eqb c backslash) ≡ false
backslash_not true c n = refl
backslash_not false c n = ne_eqb c backslash (n refl)

-- an item is read as the grammar says, whatever follows
pub item_reads : {m : Bool} {w b : List ℕ} → Item m w b → (s : List ℕ) → inside m (w ++ s) ≡ also (length w) b (inside m s)
unfolding inside
item_reads (itself c n o) [] = simp (ne_eqb c quote n)
item_reads {m} (itself c n o) (x ∷ s) = simp (ne_eqb c quote n, backslash_not m c o)
item_reads doubled s = refl
item_reads {m} (escape c e) s = ap (λ (n : Bool). inside n (backslash ∷ c ∷ s)) e ∙ sym (ap (λ (n : Bool). also 2 (escape_means c) (inside n s)) e)

-- the walk over some bytes and the verdict on them
pub data Reading (m : Bool) : List ℕ → Verdict → Type 0 where
  ends : Reading m [] (bad 0)
  closes : Reading m (quote ∷ []) (means [])
  cut : m ≡ false → Reading m (backslash ∷ []) (bad 1)
  behind : (c : ℕ) (s : List ℕ) → (c ≡ quote → ⊥) → Reading m (quote ∷ c ∷ s) (bad 1)
  goes : {w b s : List ℕ} {v : Verdict} → Item m w b → Reading m s v → Reading m (w ++ s) (also (length w) b v)

item_goes : {m : Bool} {w b : List ℕ} (s : List ℕ) → Item m w b → Reading m s (inside m s) → Reading m (w ++ s) (inside m (w ++ s))
item_goes s i r = rw (item_reads i s) (goes i r)

-- where backslashes are bytes like others
other : (c : ℕ) → (c ≡ quote → ⊥) → Item true (c ∷ []) (c ∷ [])
other c n = itself c n (λ e. absurd (true≢false e))

-- one byte alone
alone : (m : Bool) (b : ℕ) → Reading m (b ∷ []) (inside m (b ∷ []))
unfolding inside
alone m b = whether b quote (λ e. rw e closes) (λ n. by m n)
  where
    by : (m : Bool) → (b ≡ quote → ⊥) → Reading m (b ∷ []) (inside m (b ∷ []))
    by true n = item_goes [] (other b n) ends
    by false n = whether b backslash (λ e. rw e (cut refl)) (λ o. item_goes [] (itself b n (λ e. o)) ends)

-- two bytes and more
pair : (m : Bool) (b c : ℕ) (s : List ℕ) → Reading m s (inside m s) → Reading m (c ∷ s) (inside m (c ∷ s)) → Reading m (b ∷ c ∷ s) (inside m (b ∷ c ∷ s))
unfolding inside
pair m b c s r q =
    whether b quote (λ e. whether c quote (λ f. rw (e, f) (item_goes s doubled r)) (λ n. rw (e, ne_eqb c quote n) (behind c s n))) (λ n. by m n r q)
  where
    by : (m : Bool) → (b ≡ quote → ⊥) → Reading m s (inside m s) → Reading m (c ∷ s) (inside m (c ∷ s)) → Reading m (b ∷ c ∷ s) (inside m (b ∷ c ∷ s))
    by true n r q = item_goes (c ∷ s) (other b n) q
    by false n r q =
        whether b backslash (λ e. rw e (item_goes s (escape c refl) r)) (λ o. item_goes (c ∷ s) (itself b n (λ e. o)) q)

-- every walk goes so
pub reading : (m : Bool) (s : List ℕ) → Reading m s (inside m s)
unfolding inside
reading m [] = ends
reading m (b ∷ []) = alone m b
reading m (b ∷ c ∷ s) = pair m b c s (reading m s) (reading m (c ∷ s))
