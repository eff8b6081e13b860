-- The judge's test says yes to what is accepted and to nothing else. Laws of a group, and of the proposal from the middle on.
use Rattle.std.specs.Prelude.{ℕ, suc, ◌+◌, ◌-◌, ◌≤◌, ◌<◌, Bool, ◌&&◌, ◌↔◌, leb, ltb}
use Rattle.std.proofs.Math.Nat.{add-sub_cancel_left}
use Rattle.std.proofs.Common.{add-one, sym, ◌∙◌, take-append-drop, drop_of_length-le, drop-cons}
use native.Mathlib.Omega.{arith}
use Rattle.std.proofs.Math.Path.{◌≡◌, refl, ap}
use Rattle.std.proofs.Math.Bool.{true, false}
use mathlib.Core.List.{List, [], ◌∷◌, ◌++◌, flatten}
use Rattle.std.proofs.Math.ListN.{length, take, drop, get_or, length-append, length-drop}
use Rattle.std.proofs.Math.Seq.{length-take-le, take-append_seam, drop-append_seam, drop-drop, drop-length}
use Rattle.std.proofs.Math.Dec.{eqb}
use borrow.Author.Tests.{le-leb, lt-leb, lt-ltb, le-ltb, leb-true, leb-false, ltb-true, eqb-true, eqb-false}
use Rattle.refusal.specs.Said.{gives, refused, gives_same, refused_same, gives_not_refused}
use Rattle.pack.specs.Pack.{most_rows, sum, size, fits, ends, All, Accepted, grouped, accepts, judged}

-- a test that holds, or does not
pub whether : {P : Type 0} (a n : ℕ) → (a ≤ n → P) → (n < a → P) → P
whether {P} a n y z = by (leb a n) refl
  where
    by : (t : Bool) → leb a n ≡ t → P
    by true e = y (leb-true a n e)
    by false e = z (leb-false a n e)

-- a test by a difference, which no sum can spoil
pub leb_sub : (a b n : ℕ) → a ≤ n → leb b (n - a) ≡ leb (a + b) n
leb_sub a b n h =
    whether b (n - a)
    (λ l. le-leb b (n - a) l ∙ sym (le-leb (a + b) n (omega arith)))
    (λ l. lt-leb b (n - a) l ∙ sym (lt-leb (a + b) n (omega arith)))

-- ---- a group

-- the bytes of a group that had `used` bytes before these rows joined it
abbrev pub grown : ℕ → List ℕ → ℕ
grown used rows = used + sum rows + length rows

pub grown-size : (o r : ℕ) (rs : List ℕ) → grown (o + r) rs ≡ size o (r ∷ rs)
grown-size o r rs = omega arith

pub grown_more : (used r : ℕ) (rs : List ℕ) → grown (used + 1 + r) rs ≡ grown used (r ∷ rs)
grown_more used r rs = omega arith

sum-append : (g h : List ℕ) → sum (g ++ h) ≡ sum g + sum h
sum-append [] h = omega arith
sum-append (r ∷ g) h = omega (arith, sum-append g h)

-- one row more at the end of a group
pub size_snoc : (o : ℕ) (g : List ℕ) (r : ℕ) → 0 < length g → size o (g ++ (r ∷ [])) ≡ size o g + 1 + r
size_snoc o g r h = omega (arith, sum-append g (r ∷ []), length-append g (r ∷ []))

-- the rows from one up to another
module _ (rows : List ℕ) (i to : ℕ) (h : i < to) (l : to ≤ length rows) where
  pub part_more : take (to - i) (drop i rows) ≡ get_or rows i 0 ∷ take (to - (i + 1)) (drop (i + 1) rows)
  part_more =
      let e : to - i ≡ suc (to - (i + 1)) = omega arith in
      let k : i < length rows = omega arith in
      rw (e, add-one, drop-cons rows i 0 k)

  -- its first row begins the group
  pub group_begins : (o : ℕ) → grown (o + get_or rows i 0) (take (to - (i + 1)) (drop (i + 1) rows)) ≡ size o (take (to - i) (drop i rows))
  group_begins o = rw part_more (grown-size o (get_or rows i 0) (take (to - (i + 1)) (drop (i + 1) rows)))

  -- and each other joins it
  pub group_joins : (used : ℕ) → grown (used + 1 + get_or rows i 0) (take (to - (i + 1)) (drop (i + 1) rows)) ≡ grown used (take (to - i) (drop i rows))
  group_joins used = rw part_more (grown_more used (get_or rows i 0) (take (to - (i + 1)) (drop (i + 1) rows)))

pub group_ends : (rows : List ℕ) (used i to : ℕ) → to ≤ i → grown used (take (to - i) (drop i rows)) ≡ used
group_ends rows used i to h = let e : to - i ≡ 0 = omega arith in rw e (omega arith)

-- ---- the judge's test

both : (a b : Bool) → (a && b) ≡ true → (a ≡ true) × (b ≡ true)
both true b e = (refl, e)
both false b e = absurd (let z : ◌≡◌ {A = ℕ} 0 1 = cc e in omega arith)

-- the next group, of the rows from `at` on
module _ (o limit at : ℕ) (rows : List ℕ) (e : ℕ) where
  pub grouped_empty : e ≤ at → false ≡ grouped o limit at (drop at rows) e
  unfolding grouped
  grouped_empty h = simp (le-ltb at e h)

  pub grouped-past : at ≤ length rows → length rows < e → false ≡ grouped o limit at (drop at rows) e
  unfolding grouped
  grouped-past l h = simp (lt-ltb at e (omega arith), length-drop, lt-leb (e - at) (length rows - at) (omega arith))

  pub grouped-fits : at < e → e ≤ length rows → (t : Bool) → t ≡ fits o limit (take (e - at) (drop at rows)) → t ≡ grouped o limit at (drop at rows) e
  unfolding grouped
  grouped-fits h l t q = simp (lt-ltb at e h, length-drop, le-leb (e - at) (length rows - at) (omega arith)) q

  pub grouped-within : (t : Bool) → t ≡ grouped o limit at (drop at rows) e → t ≡ true → (at < e) × (e - at ≤ length rows - at)
  unfolding grouped
  grouped-within t g y =
      let p = both (ltb at e) _ (sym g ∙ y) in
      let q = both (leb (e - at) (length (drop at rows))) _ p.1 in
      (ltb-true at e p.0, rw length-drop at (leb-true (e - at) (length (drop at rows)) q.0))

-- a proposal from its number i on, where the rows before `at` are in groups
module _ (o limit : ℕ) (rows proposal : List ℕ) (at i : ℕ) where
  module _ (h : i < length proposal) (t : Bool) (g : t ≡ grouped o limit at (drop at rows) (get_or proposal i 0)) where
    pub accepts-stops : t ≡ false → false ≡ accepts o limit at (drop at rows) (drop i proposal)
    unfolding accepts
    accepts-stops f = rw (drop-cons proposal i 0 h) (simp (sym g ∙ f))

    pub accepts_turn : t ≡ true
        → (let e = get_or proposal i 0 in accepts o limit e (drop e rows) (drop (i + 1) proposal) ≡ accepts o limit at (drop at rows) (drop i proposal))
    unfolding accepts
    accepts_turn y =
        let e = get_or proposal i 0 in
        let w = grouped-within o limit at rows e t g y in
        let n : at + (e - at) ≡ e = omega arith in
        let d : drop (e - at) (drop at rows) ≡ drop e rows = drop-drop (e - at) at rows ∙ ap (λ (k : ℕ). drop k rows) n in
        rw (drop-cons proposal i 0 h, add-one) (simp (sym g ∙ y, d))

  pub accepts-ends : length proposal ≤ i → at ≤ length rows → eqb at (length rows) ≡ accepts o limit at (drop at rows) (drop i proposal)
  unfolding accepts
  accepts-ends h l = rw (drop_of_length-le proposal h) (by (eqb at (length rows)) refl)
    where
      by : (t : Bool) → eqb at (length rows) ≡ t → eqb at (length rows) ≡ accepts o limit at (drop at rows) []
      by true e = e ∙ rw (eqb-true at (length rows) e, drop-length)
      by false e =
          let k : at < length rows = omega (arith, l, eqb-false at (length rows) e) in
          e ∙ rw (drop-cons rows at 0 k)

-- `Accepted` from the middle on: the first row is number `at`
pub record From (o limit at : ℕ) (rows proposal : List ℕ) : Type 0 where
  pub groups : List (List ℕ)
  pub whole : flatten groups ≡ rows
  pub filled : All (λ (g : List ℕ). 0 < length g) groups
  pub fit : All (λ (g : List ℕ). size o g ≤ limit) groups
  pub said : ends at groups ≡ proposal

pub from_start : (o limit : ℕ) (rows proposal : List ℕ) → From o limit 0 rows proposal → Accepted o limit rows proposal
from_start o limit rows proposal f = record { groups = f.groups; whole = f.whole; filled = f.filled; fit = f.fit; said = f.said }

module _ (o limit : ℕ) where
  -- a group before others
  pub from_cons : (at : ℕ) (g rows proposal : List ℕ) → 0 < length g → size o g ≤ limit → From o limit (at + length g) rows proposal
      → From o limit at (g ++ rows) ((at + length g) ∷ proposal)
  unfolding ends flatten
  from_cons at g rows proposal n l f =
      record {
        groups = g ∷ f.groups;
        whole = ap (λ (x : List ℕ). g ++ x) f.whole;
        filled = (n, f.filled);
        fit = (l, f.fit);
        said = ap (λ (x : List ℕ). (at + length g) ∷ x) f.said;
      }

  right_cons : (at : ℕ) (rows : List ℕ) (e : ℕ) (es : List ℕ) → grouped o limit at rows e ≡ true → From o limit e (drop (e - at) rows) es
      → From o limit at rows (e ∷ es)
  unfolding grouped
  right_cons at rows e es t f =
      let p = both (ltb at e) _ t in
      let q = both (leb (e - at) (length rows)) _ p.1 in
      let first = ltb-true at e p.0 in
      let g = take (e - at) rows in
      let n : length g ≡ e - at = length-take-le (e - at) rows (leb-true (e - at) (length rows) q.0) in
      let m : at + length g ≡ e = omega arith in
      rw (take-append-drop (e - at) rows, m) at (from_cons at g (drop (e - at) rows) es (omega arith) (leb-true (size o g) limit q.1) (rw m f))

  right_from : (at : ℕ) (rows proposal : List ℕ) → accepts o limit at rows proposal ≡ true → From o limit at rows proposal
  unfolding accepts ends flatten
  right_from at [] [] t = record { groups = []; whole = refl; filled = tt; fit = tt; said = refl }
  right_from at (r ∷ rs) [] t = absurd (let z : ◌≡◌ {A = ℕ} 0 1 = cc t in omega arith)
  right_from at rows (e ∷ es) t =
      let p = both (grouped o limit at rows e) (accepts o limit e (drop (e - at) rows) es) t in
      right_cons at rows e es p.0 (right_from e (drop (e - at) rows) es p.1)

  all_from : (at : ℕ) (groups : List (List ℕ)) → All (λ (g : List ℕ). 0 < length g) groups → All (λ (g : List ℕ). size o g ≤ limit) groups
      → accepts o limit at (flatten groups) (ends at groups) ≡ true
  unfolding accepts ends flatten grouped
  all_from at [] n f = refl
  all_from at (g ∷ gs) n f =
      simp (
        add-sub_cancel_left,
        take-append_seam,
        drop-append_seam,
        length-append,
        lt-ltb at (at + length g) (omega arith),
        le-leb (length g) (length g + length (flatten gs)) (omega arith),
        le-leb (size o g) limit f.0,
      )
      (all_from (at + length g) gs n.1 f.1)

  -- The judge accepts a proposal exactly if every row is in exactly one group, no group is empty and every group fits.
  pub accepts_right : (rows proposal : List ℕ) → accepts o limit 0 rows proposal ≡ true → Accepted o limit rows proposal
  accepts_right rows proposal t = from_start o limit rows proposal (right_from 0 rows proposal t)

  pub accepts_all : (rows proposal : List ℕ) → Accepted o limit rows proposal → accepts o limit 0 rows proposal ≡ true
  accepts_all rows proposal a = rw (← a.whole, ← a.said) (all_from 0 a.groups a.filled a.fit)

  pub judged-accepts : (rows proposal : List ℕ) → length rows ≤ most_rows → (judged o limit rows proposal ≡ gives true) ↔ Accepted o limit rows proposal
  unfolding judged
  judged-accepts rows proposal h = (
    λ e. accepts_right rows proposal (gives_same (rw (le-leb (length rows) most_rows h) at e)),
    λ a. simp (le-leb (length rows) most_rows h) (ap gives (accepts_all rows proposal a)),
  )

  -- It refuses with 17 alone, and exactly where there are more than 8,192 rows.
  pub judged_refuses : (rows proposal : List ℕ) (k : ℕ) → (judged o limit rows proposal ≡ refused k) ↔ ((k ≡ 17) × (most_rows < length rows))
  unfolding judged
  judged_refuses rows proposal k = (
    λ e. whether (length rows) most_rows
        (λ l. absurd (gives_not_refused (rw (le-leb (length rows) most_rows l) at e)))
        (λ h. (refused_same (sym (rw (lt-leb (length rows) most_rows h) at e)), h)),
    λ w. simp (lt-leb (length rows) most_rows w.1) (ap refused (sym w.0)),
  )
