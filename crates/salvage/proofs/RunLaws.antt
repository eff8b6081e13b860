-- Chunks one after another, seen from the middle of a loop, and a start and a round by the runs that they are told from.
use Rattle.std.specs.Prelude.{◌≡◌, ℕ, zero, suc, ◌+◌, ◌-◌, ◌%◌, ◌<◌, ◌≤◌, true, false, ◌==◌, List, length, drop, refl}
use Rattle.std.proofs.Common.{sym, ap, ◌∙◌, arith, length-drop, drop-drop, eq-eqb, ne_eqb}
use Rattle.std.proofs.Math.Decide.{dec_le}
use Rattle.std.proofs.lemmas.Bool.Decides.{nat_tests}
use Rattle.refusal.specs.Said.{Said, gives, refused}
use Rattle.chunk.specs.Chunks.{next}
use Rattle.salvage.specs.Salvage.{Run, chunk_at, stops, runs, given, follow, starts_at, to_start}
use Rattle.salvage.specs.SalvageLaws.{chunk_whole, one_more, follow-took, follow_bad, start_none, start_here, start-later}

-- ---- one turn of a run

module _ (f limit expected : ℕ) (s : List ℕ) where
  pub runs_none : length s ≡ 0 → runs (suc f) limit expected s ≡ stops 0
  unfolding runs
  runs_none h = rw (eq-eqb (length s) 0 h)

  pub runs_bad : 0 < length s → (k : ℕ) → chunk_at limit expected s ≡ refused k → runs (suc f) limit expected s ≡ stops k
  unfolding runs
  runs_bad h k e = rw (ne_eqb (length s) 0 (λ z. omega arith), e)

  pub runs_took : (n : ℕ) → chunk_at limit expected s ≡ gives n → runs (suc f) limit expected s ≡ one_more n (runs f limit (next expected) (drop n s))
  unfolding runs
  runs_took n e = let w = chunk_whole limit expected s n e in rw (ne_eqb (length s) 0 (λ z. omega (arith, w.size, w.there)), e)

-- ---- k turns are done: what they read, with what the others are to read, is the whole

module _ (limit most : ℕ) (s : List ℕ) where
  abbrev pub whole : Run
  whole = runs most limit (given s) s

  abbrev pub left : (k bytes expected : ℕ) → Run
  left k bytes expected = runs (most - k) limit expected (drop bytes s)

  pub record Going (k bytes expected : ℕ) : Type 0 where
    pub within : bytes ≤ length s
    pub packets_so : k + (left k bytes expected).packets ≡ whole.packets
    pub bytes_so : bytes + (left k bytes expected).bytes ≡ whole.bytes
    pub why_so : (left k bytes expected).why ≡ whole.why

  pub going_begins : (expected : ℕ) → expected ≡ given s → Going 0 0 expected
  going_begins expected e = let z : most - 0 ≡ most = omega arith in rw e (record { within = omega arith; packets_so = rw z (omega arith); bytes_so = rw z (omega arith); why_so = rw z })

  module _ (k bytes expected : ℕ) (g : Going k bytes expected) where
    -- where it stops at once, it is whole
    stopped : (w : ℕ) → left k bytes expected ≡ stops w → record { packets = k; bytes = bytes; why = w } ≡ whole
    stopped w e =
        let p : k ≡ whole.packets = omega (arith, g.packets_so, ap (λ (r : Run). r.packets) e) in
        let b : bytes ≡ whole.bytes = omega (arith, g.bytes_so, ap (λ (r : Run). r.bytes) e) in
        let y : w ≡ whole.why = sym (ap (λ (r : Run). r.why) e) ∙ g.why_so in
        rw (p, b, y)

    pub going_ends : most ≤ k → record { packets = k; bytes = bytes; why = 0 } ≡ whole
    unfolding runs
    going_ends h = let z : most - k ≡ 0 = omega arith in stopped 0 (rw z)

    module _ (h : k < most) where
      one : most - k ≡ suc (most - (k + 1))
      one = omega arith

      pub going_none : bytes ≡ length s → record { packets = k; bytes = bytes; why = 0 } ≡ whole
      going_none e = stopped 0 (rw one (runs_none (most - (k + 1)) limit expected (drop bytes s) (rw length-drop (omega arith))))

      pub going_bad : (bytes ≡ length s → ⊥) → (w : ℕ) → refused w ≡ chunk_at limit expected (drop bytes s) → record { packets = k; bytes = bytes; why = w } ≡ whole
      going_bad more w e =
          stopped w (rw one (runs_bad (most - (k + 1)) limit expected (drop bytes s) (rw length-drop (omega (arith, g.within, more))) w (sym e)))

      pub going_within : (n : ℕ) → gives n ≡ chunk_at limit expected (drop bytes s) → bytes + n ≤ length s
      going_within n e = let w = chunk_whole limit expected (drop bytes s) n (sym e) in omega (arith, g.within, w.there, length-drop bytes s)

      pub going_took : (n : ℕ) → gives n ≡ chunk_at limit expected (drop bytes s) → Going (k + 1) (bytes + n) ((expected + 1) % 256)
      unfolding next
      going_took n e =
          let t : left k bytes expected ≡ one_more n (left (k + 1) (bytes + n) (next expected)) =
          rw one (runs_took (most - (k + 1)) limit expected (drop bytes s) n (sym e) ∙ rw drop-drop) in
          record {
            within = going_within n e;
            packets_so = omega (arith, g.packets_so, ap (λ (r : Run). r.packets) t);
            bytes_so = omega (arith, g.bytes_so, ap (λ (r : Run). r.bytes) t);
            why_so = sym (ap (λ (r : Run). r.why) t) ∙ g.why_so;
          }

-- ---- k chunks follow exactly if as many are read

eqb_suc : (p k : ℕ) → (p == k) ≡ (1 + p == suc k)
eqb_suc p k = grind (arith, nat_tests)

counts_by : (k limit expected : ℕ) (s : List ℕ) (x : Said ℕ) → chunk_at limit expected s ≡ x
    → ((n : ℕ) → follow k limit (next expected) (drop n s) ≡ ((runs k limit (next expected) (drop n s)).packets == k))
    → follow (suc k) limit expected s ≡ ((runs (suc k) limit expected s).packets == suc k)
counts_by k limit expected s (gives n) e ih =
    let p = (runs k limit (next expected) (drop n s)).packets in
    follow-took k limit expected s n e ∙ ih n ∙ rw (runs_took k limit expected s n e) (eqb_suc p k)
counts_by k limit expected s (refused w) e ih =
    elim (dec_le (length s) 0) [
      | yes z ↦ follow_bad k limit expected s w e ∙ rw (runs_none k limit expected s (omega arith)) (sym (ne_eqb 0 (suc k) (λ q. omega arith)))
      | no z ↦ follow_bad k limit expected s w e ∙ rw (runs_bad k limit expected s (omega arith) w e) (sym (ne_eqb 0 (suc k) (λ q. omega arith)))
    ]

counts : (k limit expected : ℕ) (s : List ℕ) → follow k limit expected s ≡ ((runs k limit expected s).packets == k)
unfolding follow runs
counts zero limit expected s = refl
counts (suc k) limit expected s = counts_by k limit expected s (chunk_at limit expected s) refl (λ n. counts k limit (next expected) (drop n s))

pub start_counts : (limit : ℕ) (s : List ℕ) → starts_at limit s ≡ ((runs 3 limit (given s) s).packets == 3)
unfolding starts_at
start_counts limit s = counts 3 limit (given s) s

-- ---- the search

module _ (limit : ℕ) (s : List ℕ) (at : ℕ) where
  pub search_ends : length s ≤ at → to_start limit (drop at s) ≡ 0
  search_ends h = start_none limit (drop at s) (rw length-drop (omega arith))

  pub search_later : at < length s → starts_at limit (drop at s) ≡ false → to_start limit (drop at s) ≡ suc (to_start limit (drop (at + 1) s))
  search_later h f = start-later limit (drop at s) (rw length-drop (omega arith)) f ∙ ap (λ (l : List ℕ). suc (to_start limit l)) (drop-drop 1 at s)

  pub search_here : starts_at limit (drop at s) ≡ true → to_start limit (drop at s) ≡ 0
  search_here t = start_here limit (drop at s) t
