-- The stretches of every capture cover it, and no start is passed over.
use Rattle.std.specs.Prelude.{◌≡◌, ℕ, zero, suc, ◌+◌, ◌-◌, ◌<◌, ◌≤◌, true, false, List, [], ◌∷◌, ◌++◌, length, drop, ◌==◌, ◌≢◌, refl}
use Rattle.std.proofs.Common.{sym, ap, ◌∙◌, append_assoc, arith, zero-add, add-zero, add_assoc, length-drop, drop-drop, eqb-true}
use Rattle.std.proofs.Math.Decide.{dec_le}
use Rattle.std.proofs.lemmas.Bool.{eqb-false}
use Rattle.chunk.specs.ReadLaws.{by_test}
use Rattle.salvage.specs.SalvageLaws.{Round}
use Rattle.salvage.specs.Salvage.{Stretch, good, lost, offset_of, bytes_of, written, run_on, given, starts_at, to_start, lost_at, stretches}
use Rattle.salvage.specs.SalvageLaws.{ran, lost_by, round_of, shown, report, report_none, report_round, round_most, round_least}
use Rattle.salvage.specs.Report.{Covers, Each, NoEarlier}

-- ---- every report, round by round

abbrev pub round_bytes : (limit : ℕ) → List ℕ → ℕ
round_bytes limit s = (round_of limit s).bytes + (round_of limit s).lost

module _ (limit : ℕ) (P : ℕ → List ℕ → List Stretch → Type 0)
    (none : (offset : ℕ) (s : List ℕ) → length s ≡ 0 → P offset s [])
    (more : (offset : ℕ) (s : List ℕ) (rest : List Stretch) → 0 < length s → P (offset + round_bytes limit s) (drop (round_bytes limit s) s) rest
    → P offset s (shown offset (round_of limit s) ++ rest)) where
  by_length : (f offset : ℕ) (s : List ℕ) → length s ≤ f → P offset s (report limit offset s)
  by_length zero offset s h = rw (report_none limit offset s (omega arith)) (none offset s (omega arith))
  by_length (suc f) offset s h =
      elim (dec_le (length s) 0) [
        | yes z ↦ rw (report_none limit offset s (omega arith)) (none offset s (omega arith))
        | no z ↦
            rw (report_round limit offset s)
            (more offset s (report limit (offset + round_bytes limit s) (drop (round_bytes limit s) s)) (omega arith)
            (by_length f (offset + round_bytes limit s) (drop (round_bytes limit s) s)
            (rw length-drop (omega (arith, round_least limit s (omega arith))))))
      ]

  pub by_round : (offset : ℕ) (s : List ℕ) → P offset s (report limit offset s)
  by_round offset s = by_length (length s) offset s (omega arith)

pub report_all : (limit : ℕ) (s : List ℕ) → report limit 0 s ≡ stretches limit s
unfolding report stretches
report_all limit s = refl

-- ---- "Stretches cover the capture exactly"

pos : (n : ℕ) → (n ≢ 0) → 0 < n
pos n h = omega (arith, h)

covers_written : (x : Stretch) (offset end : ℕ) (rest : List Stretch) → offset_of x ≡ offset → Covers (offset + bytes_of x) rest end
    → Covers offset (written x ++ rest) end
covers_written x offset end rest e c =
    by_test (λ l. Covers offset (l ++ rest) end) (bytes_of x == 0) [] (x ∷ [])
    (λ z. rw (eqb-true (bytes_of x) 0 z, add-zero) at c)
    (λ z. (e, pos (bytes_of x) (eqb-false (bytes_of x) 0 z), c))

covers_shown : (q : Round) (offset end : ℕ) (rest : List Stretch) → Covers (offset + (q.bytes + q.lost)) rest end → Covers offset (shown offset q ++ rest) end
unfolding shown
covers_shown q offset end rest c =
    let g = written (good offset q.bytes q.packets) in
    let l = written (lost (offset + q.bytes) q.lost q.why) in
    rw (append_assoc g l rest)
    (covers_written (good offset q.bytes q.packets) offset end (l ++ rest) refl
    (covers_written (lost (offset + q.bytes) q.lost q.why) (offset + q.bytes) end rest refl (rw add_assoc c)))

pub covers : (limit : ℕ) (s : List ℕ) → Covers 0 (stretches limit s) (length s)
covers limit s =
    rw (← (report_all limit s), ← (zero-add (length s)))
    (by_round limit (λ offset s l. Covers offset l (offset + length s))
    (λ offset s h. omega arith)
    (λ offset s rest h c.
    let d = length-drop (round_bytes limit s) s in
    let e : offset + round_bytes limit s + length (drop (round_bytes limit s) s) ≡ offset + length s = omega (arith, round_most limit s) in
    covers_shown (round_of limit s) offset (offset + length s) rest (rw (← e) c))
    0 s)

-- ---- what is so of every stretch, from what is so of those of a round

module _ (P : Stretch → Type 0) where
  each_append : (a b : List Stretch) → Each P a → Each P b → Each P (a ++ b)
  each_append [] b p q = q
  each_append (x ∷ a) b p q = (p.0, each_append a b p.1 q)

  each-written : (x : Stretch) → (0 < bytes_of x → P x) → Each P (written x)
  each-written x p = by_test (Each P) (bytes_of x == 0) [] (x ∷ []) (λ _. tt) (λ z. (p (pos (bytes_of x) (eqb-false (bytes_of x) 0 z)), tt))

  each-shown : (offset : ℕ) (q : Round) → (0 < q.bytes → P (good offset q.bytes q.packets))
      → (0 < q.lost → P (lost (offset + q.bytes) q.lost q.why))
      → Each P (shown offset q)
  unfolding shown
  each-shown offset q g l =
      each_append (written (good offset q.bytes q.packets)) (written (lost (offset + q.bytes) q.lost q.why))
      (each-written (good offset q.bytes q.packets) g) (each-written (lost (offset + q.bytes) q.lost q.why) l)

  -- it may be shown at each start of the capture s, in terms of what is left there
  pub each_round : (limit : ℕ) (s : List ℕ)
      → ((offset : ℕ) → 0 < (round_of limit (drop offset s)).bytes
      → P (good offset (round_of limit (drop offset s)).bytes (round_of limit (drop offset s)).packets))
      → ((offset : ℕ) → 0 < (round_of limit (drop offset s)).lost
      → P (lost (offset + (round_of limit (drop offset s)).bytes) (round_of limit (drop offset s)).lost (round_of limit (drop offset s)).why))
      → Each P (stretches limit s)
  each_round limit s g l =
      rw (← (report_all limit s))
      (by_round limit (λ offset t x. drop offset s ≡ t → Each P x)
      (λ offset t h e. tt)
      (λ offset t rest h i e.
      each_append (shown offset (round_of limit t)) rest (rw (← e) (each-shown offset (round_of limit (drop offset s)) (g offset) (l offset)))
      (i (sym (drop-drop (round_bytes limit t) offset s) ∙ ap (drop (round_bytes limit t)) e)))
      0 s refl)

-- ---- "the next start is the smallest later offset"

-- before the first start there is none, and it is one, where it is not the end
abbrev First : (limit : ℕ) (s : List ℕ) → ℕ → Type 0
First limit s n = ((i : ℕ) → i < n → starts_at limit (drop i s) ≡ false) × (n < length s → starts_at limit (drop n s) ≡ true)

first-later : (limit b : ℕ) (s : List ℕ) (n : ℕ) → First limit s n → starts_at limit (b ∷ s) ≡ false → First limit (b ∷ s) (suc n)
first-later limit b s n p f = (earlier, λ h. p.1 (omega arith))
  where
    earlier : (i : ℕ) → i < suc n → starts_at limit (drop i (b ∷ s)) ≡ false
    earlier zero h = f
    earlier (suc i) h = p.0 i (omega arith)

first : (limit : ℕ) (s : List ℕ) → First limit s (to_start limit s)
unfolding to_start
first limit [] = (λ i h. absurd (omega arith), λ h. absurd (omega arith))
first limit (b ∷ s) =
    by_test (First limit (b ∷ s)) (starts_at limit (b ∷ s)) 0 (suc (to_start limit s))
    (λ t. (λ i h. absurd (omega arith), λ h. t))
    (first-later limit b s (to_start limit s) (first limit s))

-- a bad place: the search begins behind its first byte
pub lost_first : (limit : ℕ) (s : List ℕ) (offset n number : ℕ) → n ≡ suc (to_start limit (drop (offset + 1) s)) → NoEarlier limit s (lost offset n number)
lost_first limit s offset n number e =
    let u = drop (offset + 1) s in
    let f = first limit u in
    let k = to_start limit u in
    let d = length-drop (offset + 1) s in (
      λ i lo hi.
          let j : offset + 1 + (i - (offset + 1)) ≡ i = omega arith in
          let p : drop (i - (offset + 1)) u ≡ drop i s = rw (drop-drop, j) in
          rw (← p) (f.0 (i - (offset + 1)) (omega arith)),
      λ h.
          let j : offset + 1 + k ≡ offset + n = omega arith in
          let p : drop k u ≡ drop (offset + n) s = rw (drop-drop, j) in
          rw (← p) (f.1 (omega arith)),
    )

-- where a round loses bytes, the capture did not end with its run
lost_by_lem : (limit why : ℕ) (bad : List ℕ) → (why ≡ 0 → length bad ≡ 0) → 0 < lost_by limit why bad → lost_by limit why bad ≡ lost_at limit bad
unfolding lost_by
lost_by_lem limit why bad z =
    by_test (λ n. 0 < n → n ≡ lost_at limit bad) (why == 0) (length bad) (lost_at limit bad)
    (λ e h. absurd (omega (arith, z (eqb-true why 0 e))))
    (λ e h. refl)

pub round_lost : (limit : ℕ) (s : List ℕ) → 0 < (round_of limit s).lost → (round_of limit s).lost ≡ lost_at limit (drop (round_of limit s).bytes s)
unfolding round_of
round_lost limit s =
    let r = run_on limit (given s) s in
    lost_by_lem limit r.why (drop r.bytes s) (λ e. rw length-drop (omega (arith, (ran limit (given s) s).ended e)))

-- and where it loses none, it did
whole_by : (limit why bytes : ℕ) (s bad : List ℕ) → (why ≡ 0 → bytes ≡ length s) → lost_by limit why bad ≡ 0 → bytes ≡ length s
unfolding lost_by
whole_by limit why bytes s bad z =
    by_test (λ n. n ≡ 0 → bytes ≡ length s) (why == 0) (length bad) (lost_at limit bad)
    (λ e h. z (eqb-true why 0 e))
    (λ e h. absurd (omega arith))

pub round_whole : (limit : ℕ) (s : List ℕ) → (round_of limit s).lost ≡ 0 → (round_of limit s).bytes ≡ length s
unfolding round_of
round_whole limit s =
    let r = run_on limit (given s) s in
    whole_by limit r.why r.bytes s (drop r.bytes s) (ran limit (given s) s).ended

pub no_earlier : (limit : ℕ) (s : List ℕ) → Each (NoEarlier limit s) (stretches limit s)
no_earlier limit s =
    each_round (NoEarlier limit s) limit s
    (λ offset h. tt)
    (λ offset h.
    let q = round_of limit (drop offset s) in
    let p : drop 1 (drop q.bytes (drop offset s)) ≡ drop (offset + q.bytes + 1) s = rw (drop-drop, drop-drop, add_assoc) in
    lost_first limit s (offset + q.bytes) q.lost q.why (round_lost limit (drop offset s) h ∙ ap (λ (l : List ℕ). suc (to_start limit l)) p))
