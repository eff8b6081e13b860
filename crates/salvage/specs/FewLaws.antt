-- How many stretches there can be, for a caller who lends a list of a fixed size: two in 13 bytes, and a few.
use Rattle.std.specs.Prelude.{◌≡◌, ℕ, zero, suc, ◌+◌, ◌*◌, ◌<◌, ◌≤◌, Bool, true, false, List, ◌++◌, length, drop, ◌==◌, refl}
use Rattle.std.proofs.Common.{sym, ap, ◌∙◌, arith, length-drop, length-append, drop-drop}
use Rattle.std.proofs.Math.Decide.{dec_le}
use Rattle.refusal.specs.Said.{Said, gives, refused}
use Rattle.chunk.specs.Chunks.{next}
use Rattle.chunk.specs.ReadLaws.{by_test}
use Rattle.salvage.specs.Salvage.{Run}
use Rattle.salvage.specs.Salvage.{Stretch, chunk_at, run_on, given, follow, starts_at, to_start, stretches}
use Rattle.salvage.specs.SalvageLaws.{chunk_whole, run_took, follow-took, follow_bad, round_of, shown, shown-length, some, some-most}
use Rattle.salvage.specs.SalvageLaws.{report, report_round, round_most}
use Rattle.salvage.specs.ReportLaws.{round_bytes, by_round, report_all, lost_first, round_lost, round_whole}

-- ---- a start has three chunks: 12 bytes

follow_by : (k limit expected : ℕ) (s : List ℕ) (x : Said ℕ) → chunk_at limit expected s ≡ x
    → ((n : ℕ) → follow k limit (next expected) (drop n s) ≡ true → 4 * k ≤ (run_on limit (next expected) (drop n s)).bytes)
    → follow (suc k) limit expected s ≡ true → 4 * suc k ≤ (run_on limit expected s).bytes
follow_by k limit expected s (gives n) e ih t =
    let w = chunk_whole limit expected s n e in
    omega (arith, w.size, ap (λ (r : Run). r.bytes) (run_took limit expected s n e), ih n (sym (follow-took k limit expected s n e) ∙ t))
follow_by k limit expected s (refused w) e ih t = let z : ◌≡◌ {A = Bool} false true = sym (follow_bad k limit expected s w e) ∙ t in absurd (apart z)
  where
    apart : ◌≡◌ {A = Bool} false true → ⊥
    apart z = let n : ◌≡◌ {A = ℕ} 0 1 = cc z in omega arith

follow_bytes : (k limit expected : ℕ) (s : List ℕ) → follow k limit expected s ≡ true → 4 * k ≤ (run_on limit expected s).bytes
follow_bytes zero limit expected s t = omega arith
follow_bytes (suc k) limit expected s t =
    follow_by k limit expected s (chunk_at limit expected s) refl (λ n. follow_bytes k limit (next expected) (drop n s)) t

start_bytes : (limit : ℕ) (s : List ℕ) → starts_at limit s ≡ true → 12 ≤ (round_of limit s).bytes
unfolding starts_at round_of
start_bytes limit s t = follow_bytes 3 limit (given s) s t

-- ---- a round ends at a start, or at the capture's end

abbrev Ready : (limit : ℕ) → List ℕ → Type 0
Ready limit s = 0 < length s → starts_at limit s ≡ true

round_ready : (limit : ℕ) (s : List ℕ) → Ready limit (drop (round_bytes limit s) s)
round_ready limit s h =
    let q = round_of limit s in
    let d = length-drop (round_bytes limit s) s in
    elim (dec_le q.lost 0) [
      | yes z ↦ absurd (omega (arith, round_whole limit s (omega arith)))
      | no z ↦ (lost_first limit s q.bytes q.lost q.why
          (round_lost limit s (omega arith) ∙ ap (λ (l : List ℕ). suc (to_start limit l)) (drop-drop 1 q.bytes s))).1 (omega arith)
    ]

-- ---- so much for each round behind the first

some_one : (n : ℕ) → some n ≤ 1
unfolding some
some_one n = by_test (λ k. k ≤ 1) (n == 0) 0 1 (λ _. omega arith) (λ _. omega arith)

-- the stretches of a round and those behind it
counted : (limit offset : ℕ) (s : List ℕ) (rest : List Stretch)
    → length (shown offset (round_of limit s) ++ rest) ≡ some (round_of limit s).bytes + some (round_of limit s).lost + length rest
counted limit offset s rest = length-append (shown offset (round_of limit s)) rest ∙ ap (λ (n : ℕ). n + length rest) (shown-length offset (round_of limit s))

few_ready : (limit offset : ℕ) (s : List ℕ) → Ready limit s → 13 * length (report limit offset s) ≤ 2 * length s
few_ready limit =
    by_round limit (λ offset s l. Ready limit s → 13 * length l ≤ 2 * length s)
    (λ offset s h r. omega arith)
    (λ offset s rest h i r.
    let q = round_of limit s in
    let d = length-drop (round_bytes limit s) s in
    omega (
      arith,
      i (round_ready limit s),
      counted limit offset s rest,
      start_bytes limit s (r h),
      round_most limit s,
      some_one q.bytes,
      some_one q.lost,
      some-most q.lost,
    ))

-- a list of 4 · ((2 · length + 22) / 13) numbers has room for all
pub few : (limit : ℕ) (s : List ℕ) → 13 * length (stretches limit s) ≤ 2 * length s + 22
few limit s =
    let q = round_of limit s in
    let t = drop (round_bytes limit s) s in
    let e : report limit 0 s ≡ shown 0 q ++ report limit (0 + round_bytes limit s) t = report_round limit 0 s in
    rw (← (report_all limit s))
    (omega (
      arith,
      ap length e,
      counted limit 0 s (report limit (0 + round_bytes limit s) t),
      few_ready limit (0 + round_bytes limit s) t (round_ready limit s),
      length-drop (round_bytes limit s) s,
      round_most limit s,
      some_one q.bytes,
      some_one q.lost,
      some-most q.bytes,
      some-most q.lost,
    ))
