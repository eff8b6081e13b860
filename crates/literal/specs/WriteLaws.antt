-- The writer's walk over a literal: what is still to be written, and that each turn leaves the buffer on the way to it.
use Rattle.std.specs.Prelude.{ℕ, ◌+◌, ◌-◌, ◌≤◌, ◌<◌, ◌≡◌, refl, Bool, true, false, cond, List, [], ◌∷◌, ◌++◌, length, take, drop, get_or, eqb, ltb}
use Rattle.std.proofs.Common.{arith, add-zero, sym, ap, ◌∙◌, append-nil, length-append, drop_of_length-le, take-append-drop, drop-drop, ne_eqb, ltb-true, ltb-false}
use Rattle.wire.specs.Room.{patch}
use Rattle.wire.specs.RoomLaws.{patch-append}
use Rattle.escape.specs.Quote.{quote, backslash}
use Rattle.escape.specs.QuoteLaws.{first_of}
use Rattle.escape.specs.Meaning.{escape_means}
use Rattle.literal.specs.Checked.{Verdict, means, bad, also, inside, checked}
use Rattle.literal.specs.CheckedLaws.{whether, means_not_bad}
use Rattle.literal.specs.RunLaws.{clean, clean_run, special, run_reads, one_left, two_left}
use Rattle.literal.specs.declared.Spot.{Spot}

-- what is still to be written from a place on; and that the bytes there go on to a literal's end

abbrev pub meaning_of : Verdict → List ℕ
meaning_of (means bs) = bs
meaning_of (bad place) = []

abbrev pub rest : Bool → List ℕ → ℕ → List ℕ
rest m s at = meaning_of (inside m (drop at s))

abbrev pub Sound : Bool → List ℕ → ℕ → Type 0
Sound m s at = inside m (drop at s) ≡ means (rest m s at)

-- some bytes are written, others still to come: put behind them they make the same buffer
pub record Passed (d : List ℕ) (next : ℕ) (zs d' : List ℕ) (next' : ℕ) (ys : List ℕ) : Type 0 where
  pub room : next' + length ys ≡ next + length zs
  pub left : patch d' next' ys ≡ patch d next zs

pub passed_some : {d d' : List ℕ} (next : ℕ) {next' : ℕ} {zs : List ℕ} (xs ys : List ℕ) → zs ≡ xs ++ ys → next + length zs ≤ length d
    → d' ≡ patch d next xs → next' ≡ next + length xs → Passed d next zs d' next' ys
passed_some {d} next xs ys z h e f =
    let l : length (xs ++ ys) ≡ length xs + length ys = length-append xs ys in
    let k = ap length z in
    record { room = omega (arith, k); left = rw (e, f, z) (patch-append d next xs ys (omega (arith, k))) }

pub passed_on : {d d' d'' zs ys xs : List ℕ} {n n' n'' : ℕ} → Passed d n zs d' n' ys → Passed d' n' ys d'' n'' xs → Passed d n zs d'' n'' xs
passed_on p q = record { room = q.room ∙ p.room; left = q.left ∙ p.left }

-- what a turn of the writer leaves
pub record Written (m : Bool) (s d : List ℕ) (spot : Spot) (d' : List ℕ) (r : Spot) : Type 0 where
  pub further : spot.at < r.at
  pub within : r.at < length s
  pub sound : Sound m s r.at
  pub passed : Passed d spot.count (rest m s spot.at) d' r.count (rest m s r.at)

also_sound : (k : ℕ) (bs : List ℕ) (v : Verdict) (cs : List ℕ) → also k bs v ≡ means cs → (v ≡ means (meaning_of v)) × (cs ≡ bs ++ meaning_of v)
also_sound k bs (means ds) cs e = (refl, cc e)
also_sound k bs (bad p) cs e = absurd (means_not_bad (sym e))

-- something is left; and of one byte, which is the closing quote, nothing is to be written
pub sound_within : (m : Bool) (s : List ℕ) (at : ℕ) → Sound m s at → at < length s
unfolding inside
sound_within m s at e = by (ltb at (length s)) refl
  where
    by : (t : Bool) → ltb at (length s) ≡ t → at < length s
    by true h = ltb-true at (length s) h
    by false h = absurd (means_not_bad (sym (rw (drop_of_length-le s (ltb-false at (length s) h)) at e)))

pub rest_last : (m : Bool) (s : List ℕ) (at : ℕ) → at + 1 ≡ length s → rest m s at ≡ []
unfolding inside
rest_last m s at h = rw (one_left s at h) (by (eqb (get_or s at 0) quote))
  where
    by : (t : Bool) → meaning_of (cond t (means []) (bad 1)) ≡ []
    by true = refl
    by false = refl

-- a run is written as it stands
module _ (m : Bool) (s : List ℕ) (at : ℕ) (run : ℕ) (e : run ≡ at + clean_run (first_of m) (drop at s)) (h : Sound m s at) where
  run_split : (inside m (drop run s) ≡ means (rest m s run)) × (rest m s at ≡ take (run - at) (drop at s) ++ rest m s run)
  run_split =
      let k = clean_run (first_of m) (drop at s) in
      let d : drop k (drop at s) ≡ drop run s = drop-drop k at s ∙ ap (λ (n : ℕ). drop n s) (sym e) in
      let r = run_reads m (drop at s) ∙ ap (λ (t : List ℕ). also k (take k (drop at s)) (inside m t)) d in
      let l : run - at ≡ k = omega arith in
      rw l (also_sound k (take k (drop at s)) (inside m (drop run s)) (rest m s at) (sym r ∙ h))

  pub run_sound : Sound m s run
  run_sound = run_split.0

  pub run_rest : rest m s at ≡ take (run - at) (drop at s) ++ rest m s run
  run_rest = run_split.1

-- two bytes mean what the second says
pair_reads : (m : Bool) (b c : ℕ) (t bs : List ℕ) → clean (first_of m) b ≡ false → inside m (b ∷ c ∷ t) ≡ means bs
    → inside m (b ∷ c ∷ t) ≡ also 2 (escape_means c) (inside m t)
unfolding inside escape_means
pair_reads m b c t bs h e = special m b h at_quote at_backslash
  where
    at_quote : b ≡ quote → inside m (b ∷ c ∷ t) ≡ also 2 (escape_means c) (inside m t)
    at_quote q = whether c quote (λ f. rw (q, f)) (λ n. absurd (means_not_bad (sym (simp (q, ne_eqb c quote n) at e))))

    at_backslash : m ≡ false → b ≡ backslash → inside m (b ∷ c ∷ t) ≡ also 2 (escape_means c) (inside m t)
    at_backslash f q =
        ap (λ (n : Bool). inside n (b ∷ c ∷ t)) f
        ∙ ap (λ (x : ℕ). inside false (x ∷ c ∷ t)) q
        ∙ sym (ap (λ (n : Bool). also 2 (escape_means c) (inside n t)) f)

module _ (m : Bool) (s : List ℕ) (at : ℕ) (l : at + 1 < length s) (k : clean (first_of m) (get_or s at 0) ≡ false) (h : Sound m s at) where
  pair_split : Sound m s (at + 1 + 1) × (rest m s at ≡ escape_means (get_or s (at + 1) 0) ++ rest m s (at + 1 + 1))
  pair_split =
      let c = get_or s (at + 1) 0 in
      let t = drop (at + 1 + 1) s in
      let d = two_left s at l in
      let e : inside m (get_or s at 0 ∷ c ∷ t) ≡ means (rest m s at) = sym (ap (inside m) d) ∙ h in
      also_sound 2 (escape_means c) (inside m t) (rest m s at) (sym (pair_reads m (get_or s at 0) c t (rest m s at) k e) ∙ e)

  pub pair_sound : Sound m s (at + 1 + 1)
  pair_sound = pair_split.0

  pub pair_rest : rest m s at ≡ escape_means (get_or s (at + 1) 0) ++ rest m s (at + 1 + 1)
  pair_rest = pair_split.1

-- behind the opening quote all of it is to be written
pub all_sound : (m : Bool) (s bs : List ℕ) → checked m s ≡ means bs → Sound m s 1 × (rest m s 1 ≡ bs)
unfolding checked
all_sound m [] bs e = absurd (means_not_bad (sym e))
all_sound m (b ∷ s) bs e = whether b quote opened (λ n. absurd (means_not_bad (sym (simp (ne_eqb b quote n) at e))))
  where
    opened : b ≡ quote → Sound m (b ∷ s) 1 × (rest m (b ∷ s) 1 ≡ bs)
    opened q = let a = also_sound 1 [] (inside m s) bs (rw q at e) in (a.0, sym a.1)

pub patch_none : (d : List ℕ) (at : ℕ) → patch d at [] ≡ d
patch_none d at = rw (add-zero, append-nil) (take-append-drop at d)
