-- Laws of damaged captures: each case of a chunk, a run, a search and a round by itself. No proof past these looks at a count of turns.
use Rattle.std.specs.Prelude.{◌≡◌, ℕ, zero, suc, ◌+◌, ◌-◌, ◌*◌, ◌<◌, ◌≤◌, Bool, true, false, cond, List, [], ◌∷◌, ◌++◌, length, drop, ◌==◌, ◌≢◌, nat_lt, slice_index, slice_index_or}
use Rattle.std.proofs.Math.Path.{refl, ap₂}
use Rattle.std.proofs.Common.{sym, ap, ◌∙◌, append_assoc, append-nil, add_assoc, drop-drop}
use native.Mathlib.Omega.{arith}
use Rattle.std.proofs.Math.Decide.{dec_le}
use Rattle.std.proofs.Math.ListN.{length-drop, length-append}
use borrow.Author.Tests.{ltb-false, eqb-true, eqb-false, lt-ltb, le-ltb, eq-eqb, ne_eqb}
use Rattle.refusal.specs.Said.{Said, gives, refused}
use Rattle.wire.specs.Le.{le_at}
use Rattle.chunk.specs.Chunks.{next}
use Rattle.chunk.specs.ReadLaws.{by_test}
use Rattle.salvage.specs.declared.Round as code
use Rattle.salvage.specs.Salvage.{Front, large, cut, front_of, taken, chunk_at, Run, why_of, stops, behind, runs, run_on, given, follow, starts_at}
use Rattle.salvage.specs.Salvage.{to_start, lost_at, Stretch, good, lost, written, starting, numbers}

-- ---- one chunk

module _ (limit expected : ℕ) (s : List ℕ) where
  pub chunk_headless : length s < 4 → chunk_at limit expected s ≡ refused 8
  unfolding chunk_at front_of
  chunk_headless h = rw (lt-ltb _ _ h)

  module _ (h : 4 ≤ length s) where
    pub chunk_large : limit < le_at s 0 3 → chunk_at limit expected s ≡ refused 2
    unfolding chunk_at front_of
    chunk_large l = rw (le-ltb _ _ h, lt-ltb _ _ l)

    module _ (l : le_at s 0 3 ≤ limit) where
      pub chunk-cut : length s < le_at s 0 3 + 4 → chunk_at limit expected s ≡ refused 8
      unfolding chunk_at front_of
      chunk-cut w = rw (le-ltb _ _ h, le-ltb _ _ l, lt-ltb _ _ w)

      module _ (w : le_at s 0 3 + 4 ≤ length s) where
        pub chunk_takes : slice_index_or s 3 0 ≡ expected → chunk_at limit expected s ≡ gives (le_at s 0 3 + 4)
        unfolding chunk_at front_of
        chunk_takes e = rw (le-ltb _ _ h, le-ltb _ _ l, le-ltb _ _ w, eq-eqb _ _ e)

        pub chunk_sync : (slice_index s 3 ≢ expected) → chunk_at limit expected s ≡ refused 3
        unfolding chunk_at front_of
        chunk_sync e = rw (le-ltb _ _ h, le-ltb _ _ l, le-ltb _ _ w, ne_eqb _ _ e)

-- what is so of a chunk of n bytes that is taken
pub record Whole (limit expected n : ℕ) (s : List ℕ) : Type 0 where
  pub size : n ≡ le_at s 0 3 + 4
  pub small : le_at s 0 3 ≤ limit
  pub there : n ≤ length s
  pub numbered : slice_index_or s 3 0 ≡ expected

-- a place is bad for one of three reasons, and 0 is none of them
abbrev Known : ℕ → ℕ → List ℕ → Said ℕ → Type 0
Known limit expected s (gives n) = Whole limit expected n s
Known limit expected s (refused k) = 0 < k

module _ (limit expected : ℕ) (s : List ℕ) where
  chunk_known : Known limit expected s (chunk_at limit expected s)
  unfolding chunk_at front_of
  chunk_known =
      let P : Front → Type 0 = λ f. Known limit expected s (taken expected f) in
      by_test P (nat_lt (length s) 4) cut _ (λ _. omega arith)
      (λ h. by_test P (nat_lt limit (le_at s 0 3)) large _ (λ _. omega arith)
      (λ l. by_test P (nat_lt (length s) (le_at s 0 3 + 4)) cut _ (λ _. omega arith)
      (λ w. by_test (Known limit expected s) (slice_index s 3 == expected) (gives (le_at s 0 3 + 4)) (refused 3)
      (λ e. record { size = refl; small = ltb-false _ _ l; there = ltb-false _ _ w; numbered = eqb-true _ _ e })
      (λ _. omega arith))))

  pub chunk_whole : (n : ℕ) → chunk_at limit expected s ≡ gives n → Whole limit expected n s
  chunk_whole n e = rw e at chunk_known

  pub chunk_why : (k : ℕ) → chunk_at limit expected s ≡ refused k → 0 < k
  chunk_why k e = rw e at chunk_known

-- ---- a run

-- one chunk of n bytes, and the run behind it
abbrev pub one_more : ℕ → Run → Run
one_more n r = record { packets = 1 + r.packets; bytes = n + r.bytes; why = r.why }

behind_same : (limit expected : ℕ) (s : List ℕ) (x : Said ℕ) → chunk_at limit expected s ≡ x → (p q : ℕ → Run)
    → ((n : ℕ) → Whole limit expected n s → p n ≡ q n) → behind p x ≡ behind q x
behind_same limit expected s (gives n) e p q h = ap (one_more n) (h n (chunk_whole limit expected s n e))
behind_same limit expected s (refused k) e p q h = refl

-- any count from the length on gives the same
runs_same : (f g limit expected : ℕ) (s : List ℕ) → length s ≤ f → length s ≤ g → runs f limit expected s ≡ runs g limit expected s
unfolding runs
runs_same zero zero limit expected s hf hg = refl
runs_same zero (suc g) limit expected s hf hg = rw (eq-eqb (length s) 0 (omega arith))
runs_same (suc f) zero limit expected s hf hg = rw (eq-eqb (length s) 0 (omega arith))
runs_same (suc f) (suc g) limit expected s hf hg =
    ap (cond (length s == 0) (stops 0))
    (behind_same limit expected s (chunk_at limit expected s) refl (λ n. runs f limit (next expected) (drop n s)) (λ n. runs g limit (next expected) (drop n s))
    (λ n w. runs_same f g limit (next expected) (drop n s) (rw length-drop (omega (arith, w.size))) (rw length-drop (omega (arith, w.size)))))

module _ (limit expected : ℕ) (s : List ℕ) where
  pub run_none : length s ≡ 0 → run_on limit expected s ≡ stops 0
  unfolding run_on runs
  run_none h = runs_same (length s) 1 limit expected s (omega arith) (omega arith) ∙ rw (eq-eqb (length s) 0 h)

  module _ (h : 0 < length s) where
    run_some : run_on limit expected s ≡ behind (λ n. run_on limit (next expected) (drop n s)) (chunk_at limit expected s)
    unfolding run_on runs
    run_some =
        runs_same (length s) (suc (length s)) limit expected s (omega arith) (omega arith)
        ∙ rw (ne_eqb (length s) 0 (λ e. omega arith))
        (behind_same limit expected s (chunk_at limit expected s) refl (λ n. runs (length s) limit (next expected) (drop n s))
        (λ n. run_on limit (next expected) (drop n s))
        (λ n w. runs_same (length s) (length (drop n s)) limit (next expected) (drop n s) (rw length-drop (omega arith)) (omega arith)))

    pub run_bad : (k : ℕ) → chunk_at limit expected s ≡ refused k → run_on limit expected s ≡ stops k
    run_bad k e = run_some ∙ rw e

  pub run_took : (n : ℕ) → chunk_at limit expected s ≡ gives n → run_on limit expected s ≡ one_more n (run_on limit (next expected) (drop n s))
  run_took n e = let w = chunk_whole limit expected s n e in run_some (omega (arith, w.size, w.there)) ∙ rw e

-- every run, by how it comes about
module _ (limit : ℕ) (P : List ℕ → ℕ → Run → Type 0)
    (none : (s : List ℕ) (expected : ℕ) → length s ≡ 0 → P s expected (stops 0))
    (bad : (s : List ℕ) (expected k : ℕ) → 0 < length s → 0 < k → chunk_at limit expected s ≡ refused k → P s expected (stops k))
    (took : (s : List ℕ) (expected n : ℕ) (r : Run) → Whole limit expected n s → P (drop n s) (next expected) r → P s expected (one_more n r)) where
  by_chunk : (f : ℕ) (s : List ℕ) (expected : ℕ) → 0 < length s → (x : Said ℕ) → chunk_at limit expected s ≡ x
      → ((n : ℕ) → Whole limit expected n s → P (drop n s) (next expected) (run_on limit (next expected) (drop n s))) → P s expected (run_on limit expected s)
  by_chunk f s expected h (gives n) e ih =
      let w = chunk_whole limit expected s n e in
      rw (run_took limit expected s n e) (took s expected n (run_on limit (next expected) (drop n s)) w (ih n w))
  by_chunk f s expected h (refused k) e ih = rw (run_bad limit expected s h k e) (bad s expected k h (chunk_why limit expected s k e) e)

  by_length : (f : ℕ) (s : List ℕ) (expected : ℕ) → length s ≤ f → P s expected (run_on limit expected s)
  by_length zero s expected h = rw (run_none limit expected s (omega arith)) (none s expected (omega arith))
  by_length (suc f) s expected h =
      elim (dec_le (length s) 0) [
        | yes z ↦ rw (run_none limit expected s (omega arith)) (none s expected (omega arith))
        | no z ↦ by_chunk f s expected (omega arith) (chunk_at limit expected s) refl
            (λ n w. by_length f (drop n s) (next expected) (rw length-drop (omega (arith, w.size))))
      ]

  pub by_run : (s : List ℕ) (expected : ℕ) → P s expected (run_on limit expected s)
  by_run s expected = by_length (length s) s expected (omega arith)

-- a run ends within what is left, and at its very end where it says 0
pub record Ran (s : List ℕ) (r : Run) : Type 0 where
  pub within : r.bytes ≤ length s
  pub ended : r.why ≡ 0 → r.bytes ≡ length s
  pub short : 0 < r.why → r.bytes < length s

pub ran : (limit expected : ℕ) (s : List ℕ) → Ran s (run_on limit expected s)
ran limit expected s =
    by_run limit (λ s _ r. Ran s r)
    (λ s _ h. record { within = omega arith; ended = λ _. omega arith; short = λ k. omega arith })
    (λ s _ k h b _. record { within = omega arith; ended = λ e. omega arith; short = λ _. h })
    (λ s _ n r w i.
    let d = length-drop n s in
    record { within = omega (arith, w.there); ended = λ e. omega (arith, w.there, i.ended e); short = λ k. omega (arith, w.there, i.short k) })
    s expected

-- ---- the next start

module _ (k limit expected : ℕ) (s : List ℕ) where
  pub follow-took : (n : ℕ) → chunk_at limit expected s ≡ gives n → follow (suc k) limit expected s ≡ follow k limit (next expected) (drop n s)
  unfolding follow
  follow-took n e = rw e

  pub follow_bad : (w : ℕ) → chunk_at limit expected s ≡ refused w → follow (suc k) limit expected s ≡ false
  unfolding follow
  follow_bad w e = rw e

module _ (limit : ℕ) where
  pub start_none : (s : List ℕ) → length s ≡ 0 → to_start limit s ≡ 0
  unfolding to_start
  start_none [] h = refl
  start_none (b ∷ s) h = absurd (omega arith)

  pub start_here : (s : List ℕ) → starts_at limit s ≡ true → to_start limit s ≡ 0
  unfolding to_start
  start_here [] h = refl
  start_here (b ∷ s) h = rw h

  pub start-later : (s : List ℕ) → 0 < length s → starts_at limit s ≡ false → to_start limit s ≡ suc (to_start limit (drop 1 s))
  unfolding to_start
  start-later [] l h = absurd (omega arith)
  start-later (b ∷ s) l h = rw h

  pub start-most : (s : List ℕ) → to_start limit s ≤ length s
  unfolding to_start
  start-most [] = omega arith
  start-most (b ∷ s) = by_test (λ n. n ≤ suc (length s)) (starts_at limit (b ∷ s)) 0 _ (λ _. omega arith) (λ _. omega (arith, start-most s))

-- ---- rounds: a run, and what is lost behind it

-- at the capture's end nothing is left to lose
unfoldable pub lost_by : (limit why : ℕ) → List ℕ → ℕ
lost_by limit why bad = cond (why == 0) (length bad) (lost_at limit bad)

pub record Round : Type 0 where
  pub packets : ℕ
  pub bytes : ℕ
  pub why : ℕ
  pub lost : ℕ

-- what the code answers, in these terms
abbrev pub round_said : code.Round → Round
round_said r = record { packets = r.run.packets; bytes = r.run.bytes; why = why_of r.run.why; lost = r.lost }

unfoldable pub round_of : (limit : ℕ) → List ℕ → Round
round_of limit s =
    let r = run_on limit (given s) s in
    record { packets = r.packets; bytes = r.bytes; why = r.why; lost = lost_by limit r.why (drop r.bytes s) }

-- the stretches of a round that starts at an offset
unfoldable pub shown : ℕ → Round → List Stretch
shown offset q = written (good offset q.bytes q.packets) ++ written (lost (offset + q.bytes) q.lost q.why)

-- the stretches from an offset on
unfoldable pub report : (limit offset : ℕ) → List ℕ → List Stretch
report limit offset s = starting (length s) limit offset s

module _ (limit : ℕ) (s : List ℕ) where
  abbrev r : Run
  r = run_on limit (given s) s

  lost_most : (why : ℕ) (bad : List ℕ) → (0 < why → 0 < length bad) → lost_by limit why bad ≤ length bad
  unfolding lost_by
  lost_most why bad h =
      by_test (λ n. n ≤ length bad) (why == 0) (length bad) _ (λ _. omega arith)
      (λ e. let z = h (pos why (eqb-false why 0 e)) in omega (arith, start-most limit (drop 1 bad), length-drop 1 bad))
    where
      pos : (n : ℕ) → (n ≢ 0) → 0 < n
      pos n h = omega (arith, h)

  -- a round takes no more than is left, and a byte at least where there is one
  pub round_most : (round_of limit s).bytes + (round_of limit s).lost ≤ length s
  unfolding round_of
  round_most =
      let w = ran limit (given s) s in
      let d = length-drop r.bytes s in
      omega (arith, w.within, lost_most r.why (drop r.bytes s) (λ k. omega (arith, w.short k)))

  pub round_least : 0 < length s → 0 < (round_of limit s).bytes + (round_of limit s).lost
  unfolding round_of lost_by
  round_least h =
      let w = ran limit (given s) s in
      by_test (λ n. 0 < r.bytes + n) (r.why == 0) (length (drop r.bytes s)) _
      (λ e. omega (arith, w.ended (eqb-true _ _ e))) (λ _. omega arith)

-- any count from the length on gives the same
starting_none : (f limit offset : ℕ) (s : List ℕ) → length s ≡ 0 → starting f limit offset s ≡ []
unfolding starting
starting_none zero limit offset s h = refl
starting_none (suc f) limit offset s h = rw (run_none limit (given s) s h)

starting_same : (f g limit offset : ℕ) (s : List ℕ) → length s ≤ f → length s ≤ g → starting f limit offset s ≡ starting g limit offset s
unfolding starting
starting_same zero g limit offset s hf hg = sym (starting_none g limit offset s (omega arith))
starting_same (suc f) zero limit offset s hf hg = starting_none (suc f) limit offset s (omega arith)
starting_same (suc f) (suc g) limit offset s hf hg =
    let r = run_on limit (given s) s in
    let bad = drop r.bytes s in
    let n = lost_at limit bad in
    let left : length (drop n bad) ≤ length s - 1 = rw (length-drop, length-drop) (omega arith) in
    ap (λ (l : List Stretch). written (good offset r.bytes r.packets) ++ cond (r.why == 0) [] (lost (offset + r.bytes) n r.why ∷ l))
    (starting_same f g limit (offset + r.bytes + n) (drop n bad) (omega (arith, left)) (omega (arith, left)))

pub report_none : (limit offset : ℕ) (s : List ℕ) → length s ≡ 0 → report limit offset s ≡ []
unfolding report
report_none limit offset s h = starting_none (length s) limit offset s h

module _ (limit offset : ℕ) (s : List ℕ) where
  abbrev run : Run
  run = run_on limit (given s) s

  abbrev front : List Stretch
  front = written (good offset run.bytes run.packets)

  -- it ended: nothing is lost and nothing follows
  round_ends : run.why ≡ 0 → run.bytes ≡ length s → (n : ℕ) → n ≡ 0
      → front ++ [] ≡ (front ++ written (lost (offset + run.bytes) n run.why)) ++ report limit (offset + (run.bytes + n)) (drop (run.bytes + n) s)
  round_ends w b n z =
      rw (z, report_none limit (offset + (run.bytes + 0)) (drop (run.bytes + 0) s) (rw length-drop (omega arith)))
      (sym (ap (λ (l : List Stretch). l ++ []) (append-nil front)))

  -- it did not
  round_goes : (n : ℕ) → 0 < n
      → front ++ (lost (offset + run.bytes) n run.why ∷ report limit (offset + run.bytes + n) (drop n (drop run.bytes s)))
      ≡ (front ++ written (lost (offset + run.bytes) n run.why)) ++ report limit (offset + (run.bytes + n)) (drop (run.bytes + n) s)
  round_goes n h =
      rw (ne_eqb n 0 (λ e. omega arith), drop-drop, add_assoc)
      (sym (append_assoc front (lost (offset + run.bytes) n run.why ∷ []) (report limit (offset + (run.bytes + n)) (drop (run.bytes + n) s))))

  abbrev bad : List ℕ
  bad = drop run.bytes s

  round_by : (t : Bool) → (run.why == 0) ≡ t → (n : ℕ) → n ≡ cond t (length bad) (lost_at limit bad)
      → front ++ cond t [] (lost (offset + run.bytes) (lost_at limit bad) run.why
      ∷ starting (length s) limit (offset + run.bytes + lost_at limit bad) (drop (lost_at limit bad) bad))
      ≡ (front ++ written (lost (offset + run.bytes) n run.why)) ++ report limit (offset + (run.bytes + n)) (drop (run.bytes + n) s)
  unfolding report
  round_by true e n is =
      let w = eqb-true run.why 0 e in
      let b = (ran limit (given s) s).ended w in
      round_ends w b n (is ∙ rw length-drop (omega arith))
  round_by false e n is =
      let left : length (drop (lost_at limit bad) bad) ≤ length s = rw (length-drop, length-drop) (omega arith) in
      rw is
      (ap (λ (l : List Stretch). front ++ (lost (offset + run.bytes) (lost_at limit bad) run.why ∷ l))
      (starting_same (length s) (length (drop (lost_at limit bad) bad)) limit (offset + run.bytes + lost_at limit bad)
      (drop (lost_at limit bad) bad) left (omega arith))
      ∙ round_goes (lost_at limit bad) (omega arith))

  -- the stretches of a round, and those behind it
  pub report_round :
      report limit offset s
      ≡ shown offset (round_of limit s) ++ report limit (offset + ((round_of limit s).bytes + (round_of limit s).lost))
      (drop ((round_of limit s).bytes + (round_of limit s).lost) s)
  unfolding report starting shown round_of lost_by
  report_round =
      starting_same (length s) (suc (length s)) limit offset s (omega arith) (omega arith)
      ∙ round_by (run.why == 0) refl (lost_by limit run.why bad) refl

-- ---- the list of numbers

-- whether a stretch of so many bytes is written, as a number
unfoldable pub some : ℕ → ℕ
some bytes = cond (bytes == 0) 0 1

-- its four numbers, if it is
unfoldable pub four : (kind offset bytes last : ℕ) → List ℕ
four kind offset bytes last = cond (bytes == 0) [] (kind ∷ offset ∷ bytes ∷ last ∷ [])

pub numbers-append : (a b : List Stretch) → numbers (a ++ b) ≡ numbers a ++ numbers b
unfolding numbers
numbers-append [] b = refl
numbers-append (good o n k ∷ a) b = ap (λ (l : List ℕ). 1 ∷ o ∷ n ∷ k ∷ l) (numbers-append a b)
numbers-append (lost o n k ∷ a) b = ap (λ (l : List ℕ). 0 ∷ o ∷ n ∷ k ∷ l) (numbers-append a b)

pub numbers-length : (l : List Stretch) → length (numbers l) ≡ 4 * length l
unfolding numbers
numbers-length [] = refl
numbers-length (good o n k ∷ l) = omega (arith, numbers-length l)
numbers-length (lost o n k ∷ l) = omega (arith, numbers-length l)

module _ (offset : ℕ) (q : Round) where
  good_by : (t : Bool) → numbers (cond t [] (good offset q.bytes q.packets ∷ [])) ≡ cond t [] (1 ∷ offset ∷ q.bytes ∷ q.packets ∷ [])
  unfolding numbers
  good_by true = refl
  good_by false = refl

  lost_by_lem : (t : Bool) → numbers (cond t [] (lost (offset + q.bytes) q.lost q.why ∷ [])) ≡ cond t [] (0 ∷ (offset + q.bytes) ∷ q.lost ∷ q.why ∷ [])
  unfolding numbers
  lost_by_lem true = refl
  lost_by_lem false = refl

  -- the numbers of a round
  pub shown-numbers : numbers (shown offset q) ≡ four 1 offset q.bytes q.packets ++ four 0 (offset + q.bytes) q.lost q.why
  unfolding shown four
  shown-numbers =
      numbers-append (written (good offset q.bytes q.packets)) (written (lost (offset + q.bytes) q.lost q.why))
      ∙ ap₂ ◌++◌ (good_by (q.bytes == 0)) (lost_by_lem (q.lost == 0))

  count_by : (x : Stretch) (t : Bool) → length (cond t [] (x ∷ [])) ≡ cond t 0 1
  count_by x true = refl
  count_by x false = refl

  -- how many stretches it has
  pub shown-length : length (shown offset q) ≡ some q.bytes + some q.lost
  unfolding shown some
  shown-length =
      length-append (written (good offset q.bytes q.packets)) (written (lost (offset + q.bytes) q.lost q.why))
      ∙ ap₂ ◌+◌ (count_by (good offset q.bytes q.packets) (q.bytes == 0)) (count_by (lost (offset + q.bytes) q.lost q.why) (q.lost == 0))

-- no more than the bytes
pub some-most : (n : ℕ) → some n ≤ n
unfolding some
some-most n = by_test (λ k. k ≤ n) (n == 0) 0 1 (λ _. omega arith) (λ e. pos n (eqb-false n 0 e))
  where
    pos : (n : ℕ) → (n ≢ 0) → 1 ≤ n
    pos n h = omega (arith, h)
