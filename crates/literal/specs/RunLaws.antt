-- What both walks lean on: runs of bytes that stand for themselves and what may follow them, and the two forms of an escape.
use Rattle.std.specs.Prelude.{ℕ, suc, ◌+◌, ◌≤◌, ◌<◌, ◌≡◌, refl, Bool, true, false, cond, not, List, [], ◌∷◌, ◌++◌, length, take, drop, get_or, eqb}
use Rattle.std.proofs.Common.{arith, zero-add, add_assoc, add-one, sym, ap, ◌∙◌, true≢false, append_assoc, length-drop, drop_of_length-le, drop-cons, get_or-drop, ne_eqb}
use Rattle.escape.specs.Quote.{quote, backslash}
use Rattle.escape.specs.QuoteLaws.{first_of}
use Rattle.escape.specs.Meaning.{escape_means}
use Rattle.literal.specs.Grammar.{Item, itself}
use Rattle.literal.specs.Checked.{Verdict, means, bad, also, inside}
use Rattle.literal.specs.CheckedLaws.{whether, item_reads}

-- ---- runs

-- a byte that stands for itself: no quote, and not the other byte that is special in its mode
unfoldable pub clean : (other b : ℕ) → Bool
clean other b = cond (eqb b quote) false (not (eqb b other))

-- how many of them come first
unfoldable pub clean_run : ℕ → List ℕ → ℕ
clean_run other [] = 0
clean_run other (b ∷ s) = cond (clean other b) (suc (clean_run other s)) 0

pub clean_item : (m : Bool) (b : ℕ) → clean (first_of m) b ≡ true → Item m (b ∷ []) (b ∷ [])
unfolding clean
clean_item m b h = whether b quote (λ e. absurd (true≢false (sym (rw e at h)))) (λ n. itself b n (λ f g. true≢false (sym (rw (f, g) at h))))

-- any other byte is a quote, or a backslash that escapes
pub special : {P : Type 0} (m : Bool) (b : ℕ) → clean (first_of m) b ≡ false → (b ≡ quote → P) → (m ≡ false → b ≡ backslash → P) → P
unfolding clean
special true b h q e = whether b quote q (λ n. absurd (true≢false (simp (ne_eqb b quote n) at h)))
special false b h q e = whether b quote q (λ n. whether b backslash (e refl) (λ o. absurd (true≢false (simp (ne_eqb b quote n, ne_eqb b backslash o) at h))))

also_none : (v : Verdict) → also 0 [] v ≡ v
also_none (means bs) = refl
also_none (bad p) = ap bad (zero-add p)

also-also : (n k : ℕ) (bs cs : List ℕ) (v : Verdict) → also n bs (also k cs v) ≡ also (n + k) (bs ++ cs) v
also-also n k bs cs (means ds) = ap means (sym (append_assoc bs cs ds))
also-also n k bs cs (bad p) = ap bad (sym (add_assoc n k p))

pub run_le : (other : ℕ) (s : List ℕ) → clean_run other s ≤ length s
unfolding clean_run
run_le other [] = omega arith
run_le other (b ∷ s) = by (clean other b) (run_le other s)
  where
    by : (t : Bool) → clean_run other s ≤ length s → cond t (suc (clean_run other s)) 0 ≤ suc (length s)
    by true h = omega arith
    by false h = omega arith

-- the byte behind them is none
pub run_stops : (other : ℕ) (s : List ℕ) → clean_run other s < length s → clean other (get_or s (clean_run other s) 0) ≡ false
unfolding clean_run
run_stops other [] h = absurd (omega arith)
run_stops other (b ∷ s) h = by (clean other b) refl (run_stops other s) h
  where
    by : (t : Bool) → clean other b ≡ t → (clean_run other s < length s → clean other (get_or s (clean_run other s) 0) ≡ false)
        → cond t (suc (clean_run other s)) 0 < suc (length s) → clean other (get_or (b ∷ s) (cond t (suc (clean_run other s)) 0) 0) ≡ false
    by true e f h = f (omega arith)
    by false e f h = e

-- one byte more, none, or the end
pub run_more : (other : ℕ) (s : List ℕ) (i : ℕ) → i < length s → clean other (get_or s i 0) ≡ true
    → clean_run other (drop i s) ≡ suc (clean_run other (drop (suc i) s))
unfolding clean_run
run_more other s i h e = rw (drop-cons s i 0 h, e)

pub run_none : (other : ℕ) (s : List ℕ) (i : ℕ) → i < length s → clean other (get_or s i 0) ≡ false → clean_run other (drop i s) ≡ 0
unfolding clean_run
run_none other s i h e = rw (drop-cons s i 0 h, e)

pub run_over : (other : ℕ) (s : List ℕ) (i : ℕ) → length s ≤ i → clean_run other (drop i s) ≡ 0
unfolding clean_run
run_over other s i h = rw (drop_of_length-le s h)

-- they are read one after the other
pub run_reads : (m : Bool) (s : List ℕ)
    → let k = clean_run (first_of m) s in inside m s ≡ also k (take k s) (inside m (drop k s))
unfolding clean_run
run_reads m [] = sym (also_none (inside m []))
run_reads m (b ∷ s) = by (clean (first_of m) b) refl (run_reads m s)
  where
    k : ℕ
    k = clean_run (first_of m) s

    by : (t : Bool) → clean (first_of m) b ≡ t → inside m s ≡ also k (take k s) (inside m (drop k s))
        → inside m (b ∷ s) ≡ also (cond t (suc k) 0) (take (cond t (suc k) 0) (b ∷ s)) (inside m (drop (cond t (suc k) 0) (b ∷ s)))
    by true e h =
        item_reads (clean_item m b e) s
        ∙ ap (also 1 (b ∷ [])) h
        ∙ also-also 1 k (b ∷ []) (take k s) (inside m (drop k s))
        ∙ ap (λ (n : ℕ). also n (b ∷ take k s) (inside m (drop k s))) (omega arith)
    by false e h = sym (also_none (inside m (b ∷ s)))

-- where a run from a place ends: within the input, and at a byte that is none of it
module _ (m : Bool) (s : List ℕ) (at : ℕ) (h : at ≤ length s) (run : ℕ) (e : run ≡ at + clean_run (first_of m) (drop at s)) where
  pub run_within : run ≤ length s
  run_within = omega (arith, run_le (first_of m) (drop at s), length-drop at s)

  pub run_special : run < length s → clean (first_of m) (get_or s run 0) ≡ false
  run_special l =
      rw (e, ← (get_or-drop at s (clean_run (first_of m) (drop at s)) 0)) (run_stops (first_of m) (drop at s) (omega (arith, length-drop at s)))

  pub run_backslash : run < length s → (get_or s run 0 ≡ quote → ⊥) → (m ≡ false) × (get_or s run 0 ≡ backslash)
  run_backslash l n = special m (get_or s run 0) (run_special l) (λ q. absurd (n q)) (λ f b. (f, b))

-- the byte at a place, and those behind it
pub one_left : (s : List ℕ) (at : ℕ) → at + 1 ≡ length s → drop at s ≡ get_or s at 0 ∷ []
one_left s at e = drop-cons s at 0 (omega arith) ∙ ap (λ (t : List ℕ). get_or s at 0 ∷ t) (drop_of_length-le s {i = suc at} (omega arith))

pub two_left : (s : List ℕ) (at : ℕ) → at + 1 < length s → drop at s ≡ get_or s at 0 ∷ get_or s (at + 1) 0 ∷ drop (at + 1 + 1) s
two_left s at h = rw (add-one, add-one) (drop-cons s at 0 (omega arith) ∙ ap (λ (t : List ℕ). get_or s at 0 ∷ t) (drop-cons s (suc at) 0 (omega arith)))

-- ---- escapes

-- the one byte that an escape means, where its backslash does not stay
unfoldable pub escape_byte : ℕ → ℕ
escape_byte c =
    cond (eqb c 0x30) 0x00
    (cond (eqb c 0x62) 0x08
    (cond (eqb c 0x6E) 0x0A
    (cond (eqb c 0x72) 0x0D
    (cond (eqb c 0x74) 0x09
    (cond (eqb c 0x5A) 0x1A c)))))

single : (t : Bool) (a b : ℕ) → cond t (a ∷ []) (b ∷ []) ≡ cond t a b ∷ []
single true a b = refl
single false a b = refl

pub escape_one : (c : ℕ) → (c ≡ 0x25 → ⊥) → (c ≡ 0x5F → ⊥) → escape_means c ≡ escape_byte c ∷ []
unfolding escape_means escape_byte
escape_one c n o = simp (ne_eqb c 0x25 n, ne_eqb c 0x5F o, single)

-- it has one form or the other, by its length
pub escape_forms : {P : Type 0} (c : ℕ) → (escape_means c ≡ backslash ∷ c ∷ [] → P) → (escape_means c ≡ escape_byte c ∷ [] → P) → P
unfolding escape_means
escape_forms c two one = whether c 0x25 (λ e. two (rw e)) (λ n. whether c 0x5F (λ e. two (rw e)) (λ o. one (escape_one c n o)))

pub escape_two : (c : ℕ) → length (escape_means c) ≡ 2 → escape_means c ≡ backslash ∷ c ∷ []
escape_two c h = escape_forms c (λ e. e) (λ e. absurd (omega (arith, ap length e)))

pub escape_not_two : (c : ℕ) → (length (escape_means c) ≡ 2 → ⊥) → escape_means c ≡ escape_byte c ∷ []
escape_not_two c n = escape_forms c (λ e. absurd (n (ap length e))) (λ e. e)

pub escape_most : (c : ℕ) → length (escape_means c) ≤ 2
escape_most c = escape_forms c (λ e. omega (arith, ap length e)) (λ e. omega (arith, ap length e))
