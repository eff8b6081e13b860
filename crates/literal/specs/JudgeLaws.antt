-- The judge's walk: what it answers from a place on, and that each turn leads to the same answer.
use Rattle.std.specs.Prelude.{ℕ, ◌+◌, ◌-◌, ◌≤◌, ◌<◌, ◌≡◌, refl, Bool, false, List, [], ◌∷◌, length, take, drop, get_or, Result}
use Rattle.std.proofs.Common.{arith, zero-add, add-zero, add_assoc, sym, ap, ◌∙◌, length-append, drop_of_length-le, drop-drop, length-take-le, ne_eqb}
use Rattle.escape.specs.Quote.{quote, backslash}
use Rattle.escape.specs.QuoteLaws.{first_of}
use Rattle.escape.specs.Meaning.{escape_means}
use Rattle.literal.specs.Grammar.{Item, doubled, escape}
use Rattle.literal.specs.Checked.{Verdict, means, bad, also, inside, checked, Judged, fine, refused, counted, said}
use Rattle.literal.specs.CheckedLaws.{item_reads}
use Rattle.literal.specs.RunLaws.{clean_run, run_le, run_reads, one_left, two_left}
use Rattle.literal.specs.declared.Bad.{Bad}
use Rattle.literal.specs.declared.Spot.{Spot}
use Rattle.std.specs.declared.ops.ControlFlow.{ControlFlow}
use Rattle.std.specs.declared.ops.ControlFlow.TheVariants.{Continue, Break}

-- from a place on, with n bytes meant up to there

abbrev pub ahead : (at n : ℕ) → Verdict → Judged
ahead at n (means bs) = fine (n + length bs)
ahead at n (bad place) = refused 15 (at + place)

abbrev pub leads : Bool → List ℕ → (at n : ℕ) → Judged
leads m s at n = ahead at n (inside m (drop at s))

abbrev pub Turn : Type 0
Turn = ControlFlow (Result ℕ Bad) Spot

abbrev pub turn_leads : Bool → List ℕ → Turn → Judged
turn_leads m s (Continue next) = leads m s next.at next.count
turn_leads m s (Break a) = said a

abbrev pub turn_fits : List ℕ → ℕ → Turn → Type 0
turn_fits s at (Continue next) = (at < next.at) × (next.at ≤ length s) × (next.count ≤ next.at)
turn_fits s at (Break a) = 0 ≤ 0

-- a turn leads to the same answer; and it goes further, with room to count
pub record Turned (m : Bool) (s : List ℕ) (spot : Spot) (r : Turn) : Type 0 where
  pub same : turn_leads m s r ≡ leads m s spot.at spot.count
  pub fits : turn_fits s spot.at r

ahead-also : (at n k : ℕ) (bs : List ℕ) (v : Verdict) → ahead at n (also k bs v) ≡ ahead (at + k) (n + length bs) v
ahead-also at n k bs (means cs) = ap fine (omega (arith, length-append bs cs))
ahead-also at n k bs (bad p) = ap (refused 15) (sym (add_assoc at k p))

-- the answer of the whole
pub leads_all : (m : Bool) (s : List ℕ) → 0 < length s → get_or s 0 0 ≡ quote → leads m s 1 0 ≡ counted (checked m s)
unfolding checked
leads_all m [] h e = absurd (omega arith)
leads_all m (b ∷ s) h e = rw e (by (inside m s))
  where
    by : (v : Verdict) → ahead 1 0 v ≡ counted (also 1 [] v)
    by (means bs) = ap fine (zero-add (length bs))
    by (bad p) = refl

pub not_opened : (m : Bool) (s : List ℕ) → (get_or s 0 0 ≡ quote → ⊥) → counted (checked m s) ≡ refused 15 0
unfolding checked
not_opened m [] n = refl
not_opened m (b ∷ s) n = simp (ne_eqb b quote n)

pub nothing_counted : (m : Bool) (s : List ℕ) → length s ≡ 0 → counted (checked m s) ≡ refused 15 0
unfolding checked
nothing_counted m [] e = refl
nothing_counted m (b ∷ s) e = absurd (omega arith)

-- a run
pub run_leads : (m : Bool) (s : List ℕ) (at n : ℕ) → at ≤ length s → (run : ℕ) → run ≡ at + clean_run (first_of m) (drop at s)
    → leads m s run (n + (run - at)) ≡ leads m s at n
run_leads m s at n h run e =
    let k = clean_run (first_of m) (drop at s) in
    let l : length (take k (drop at s)) ≡ k = length-take-le k (drop at s) (run_le (first_of m) (drop at s)) in
    let c : n + (run - at) ≡ n + length (take k (drop at s)) = omega arith in
    rw (c, e, ← (drop-drop k at s))
    (sym (ap (ahead at n) (run_reads m (drop at s)) ∙ ahead-also at n k (take k (drop at s)) (inside m (drop k (drop at s)))))

-- a turn from where a run ends is one from the place where it began
pub run_turned : (m : Bool) (s : List ℕ) (spot : Spot) → spot.at ≤ length s → (run : ℕ) → run ≡ clean_run (first_of m) (drop spot.at s) → (r : Turn)
    → Turned m s (record { at = spot.at + run; count = spot.count + run }) r → Turned m s spot r
run_turned m s spot h run e r t =
    let k : spot.at + run - spot.at ≡ run = omega arith in
    record { same = t.same ∙ rw k at (run_leads m s spot.at spot.count h (spot.at + run) (ap (λ (n : ℕ). spot.at + n) e)); fits = by r t.fits }
  where
    by : (r : Turn) → turn_fits s (spot.at + run) r → turn_fits s spot.at r
    by (Continue next) f = (omega arith, f.1, f.2)
    by (Break a) f = f

-- nothing is left: the end
pub leads_end : (m : Bool) (s : List ℕ) (at n : ℕ) → length s ≤ at → leads m s at n ≡ refused 15 at
unfolding inside
leads_end m s at n h = rw (drop_of_length-le s h, add-zero)

-- an item of two bytes
pair_leads : {m : Bool} {a c : ℕ} {bs : List ℕ} (s : List ℕ) (at n : ℕ) → at + 1 < length s → get_or s at 0 ≡ a → get_or s (at + 1) 0 ≡ c
    → Item m (a ∷ c ∷ []) bs → leads m s (at + 1 + 1) (n + length bs) ≡ leads m s at n
pair_leads {m} {a} {c} {bs} s at n h e f i =
    let t = drop (at + 1 + 1) s in
    rw (two_left s at h, e, f, item_reads i t) (ap (λ (k : ℕ). ahead k (n + length bs) (inside m t)) (omega arith) ∙ sym (ahead-also at n 2 bs (inside m t)))

-- the three ways to go on from a quote, and the two from a backslash
module _ (s : List ℕ) (at n : ℕ) where
  pub quote_closes : (m : Bool) → get_or s at 0 ≡ quote → at + 1 ≡ length s → fine n ≡ leads m s at n
  unfolding inside
  quote_closes m q e = rw (one_left s at e, q, add-zero)

  pub quote-stops : (m : Bool) → get_or s at 0 ≡ quote → at + 1 < length s → (get_or s (at + 1) 0 ≡ quote → ⊥) → refused 15 (at + 1) ≡ leads m s at n
  unfolding inside
  quote-stops m q h k = rw (two_left s at h, q) (simp (ne_eqb (get_or s (at + 1) 0) quote k))

  pub quote_doubled : (m : Bool) → get_or s at 0 ≡ quote → at + 1 < length s → get_or s (at + 1) 0 ≡ quote → leads m s (at + 1 + 1) (n + 1) ≡ leads m s at n
  quote_doubled m q h k = pair_leads s at n h q k doubled

  pub backslash-cut : get_or s at 0 ≡ backslash → at + 1 ≡ length s → refused 15 (at + 1) ≡ leads false s at n
  unfolding inside
  backslash-cut q e = rw (one_left s at e, q)

  pub backslash_escapes : get_or s at 0 ≡ backslash → at + 1 < length s
      → leads false s (at + 1 + 1) (n + length (escape_means (get_or s (at + 1) 0))) ≡ leads false s at n
  backslash_escapes q h = pair_leads s at n h q refl (escape (get_or s (at + 1) 0) refl)
