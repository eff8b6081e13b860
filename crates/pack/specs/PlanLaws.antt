-- The plan: it is accepted, no accepted proposal has fewer groups, and what each refusal of the planner means.
use Prim.Native.Nat.{ℕ, zero, suc, ◌+◌, ◌≤◌, ◌<◌}
use native.Mathlib.Omega.{arith}
use Rattle.std.proofs.Math.Path.{◌≡◌, refl, sym, ap}
use Rattle.std.proofs.Common.{◌∙◌, inl, inr, ⊎_elim}
use Rattle.std.specs.Prelude.{Bool, true, false, cond, ◌↔◌, ◌⊎◌, take, get_or, leb}
use mathlib.Core.List.{List, [], ◌∷◌, ◌++◌, flatten, append_assoc}
use Rattle.std.proofs.Math.ListN.{length, length-append}
use Rattle.std.proofs.Math.Seq.{take-append_seam}
use borrow.Author.Tests.{le-leb, lt-leb, lt-ltb, le-ltb}
use Rattle.refusal.specs.Said.{gives, refused, refused_same, gives_same, gives_not_refused}
use Rattle.pack.specs.Pack.{most_rows, sum, size, ends, All, Accepted, plan_from, plan, too_long, planned, leaves}
use Rattle.pack.specs.PackLaws.{whether, grown, size_snoc, From, from_start, from_cons}

module _ (o limit : ℕ) where
  -- a row fits by itself
  abbrev pub Alone : ℕ → Type 0
  Alone r = r + o ≤ limit

  -- ---- one row of the plan

  pub plan_joins : (used at r : ℕ) (rs : List ℕ) → used + 1 + r ≤ limit → plan_from o limit used at (r ∷ rs) ≡ plan_from o limit (used + 1 + r) (at + 1) rs
  unfolding plan_from
  plan_joins used at r rs h = simp (le-leb (used + 1 + r) limit h)

  pub plan_begins : (used at r : ℕ) (rs : List ℕ) → limit < used + 1 + r → plan_from o limit used at (r ∷ rs) ≡ at ∷ plan_from o limit (o + r) (at + 1) rs
  unfolding plan_from
  plan_begins used at r rs h = simp (lt-leb (used + 1 + r) limit h)

  -- ---- it is accepted

  -- a group g that is open, and the rows behind it
  open_accepted : (at : ℕ) (g : List ℕ) → 0 < length g → size o g ≤ limit → (rs : List ℕ) → All Alone rs
      → From o limit at (g ++ rs) (plan_from o limit (size o g) (at + length g) rs)
  unfolding plan_from flatten ends
  open_accepted at g n f [] a = record { groups = g ∷ []; whole = refl; filled = (n, tt); fit = (f, tt); said = refl }
  open_accepted at g n f (r ∷ rs) a =
      whether (size o g + 1 + r) limit
      (λ h.
      let e : size o (g ++ (r ∷ [])) ≡ size o g + 1 + r = size_snoc o g r n in
      let l : at + length (g ++ (r ∷ [])) ≡ at + length g + 1 = rw length-append (omega arith) in
      let q = open_accepted at (g ++ (r ∷ [])) (rw length-append (omega arith)) (rw e h) rs a.1 in
      rw (plan_joins (size o g) (at + length g) r rs h) (rw (append_assoc g (r ∷ []) rs, e, l) at q))
      (λ h.
      let e : size o (r ∷ []) ≡ o + r = omega arith in
      let q = open_accepted (at + length g) (r ∷ []) (omega arith) (omega (arith, a.0)) rs a.1 in
      rw (plan_begins (size o g) (at + length g) r rs h) (from_cons o limit at g (r ∷ rs) _ n f (rw e at q)))

  -- Where every row fits alone, the plan is accepted.
  pub plan-accepted : (rows : List ℕ) → All Alone rows → Accepted o limit rows (plan o limit rows)
  unfolding plan ends flatten
  plan-accepted [] a = record { groups = []; whole = refl; filled = tt; fit = tt; said = refl }
  plan-accepted (r ∷ rs) a =
      let e : size o (r ∷ []) ≡ o + r = omega arith in
      from_start o limit (r ∷ rs) (plan_from o limit (o + r) 1 rs) (rw e at (open_accepted 0 (r ∷ []) (omega arith) (omega (arith, a.0)) rs a.1))

  -- ---- it is the fewest

  -- how many groups the plan has, the open one counted: it matters how full that is, and not where it began
  groups_from : ℕ → List ℕ → ℕ
  groups_from used [] = 1
  groups_from used (r ∷ rs) = cond (leb (used + 1 + r) limit) (groups_from (used + 1 + r) rs) (suc (groups_from (o + r) rs))

  groups_joins : (used r : ℕ) (rs : List ℕ) → used + 1 + r ≤ limit → groups_from used (r ∷ rs) ≡ groups_from (used + 1 + r) rs
  unfolding groups_from
  groups_joins used r rs h = simp (le-leb (used + 1 + r) limit h)

  groups_begins : (used r : ℕ) (rs : List ℕ) → limit < used + 1 + r → groups_from used (r ∷ rs) ≡ suc (groups_from (o + r) rs)
  unfolding groups_from
  groups_begins used r rs h = simp (lt-leb (used + 1 + r) limit h)

  groups_length : (used at : ℕ) (rs : List ℕ) → length (plan_from o limit used at rs) ≡ groups_from used rs
  unfolding groups_from plan_from
  groups_length used at [] = refl
  groups_length used at (r ∷ rs) =
      whether (used + 1 + r) limit
      (λ h. simp (le-leb (used + 1 + r) limit h) (groups_length (used + 1 + r) (at + 1) rs))
      (λ h. simp (lt-leb (used + 1 + r) limit h) (ap suc (groups_length (o + r) (at + 1) rs)))

  -- a fuller open group gives no fewer groups, and any open group at most one more than another
  record Ahead (rs : List ℕ) : Type 0 where
    fuller : (u v : ℕ) → u ≤ v → groups_from u rs ≤ groups_from v rs
    one : (u v : ℕ) → o ≤ v → groups_from u rs ≤ suc (groups_from v rs)

  ahead : (rs : List ℕ) → Ahead rs
  unfolding groups_from
  ahead [] = record { fuller = λ u v h. omega arith; one = λ u v h. omega arith }
  ahead (r ∷ rs) = let q = ahead rs in record {
    fuller = λ u v h.
        whether (u + 1 + r) limit
        (λ j.
        whether (v + 1 + r) limit
        (λ k. omega (arith, groups_joins u r rs j, groups_joins v r rs k, q.fuller (u + 1 + r) (v + 1 + r) (omega arith)))
        (λ k. omega (arith, groups_joins u r rs j, groups_begins v r rs k, q.one (u + 1 + r) (o + r) (omega arith))))
        (λ j. omega (arith, groups_begins u r rs j, groups_begins v r rs (omega arith)));
    one = λ u v h.
        whether (v + 1 + r) limit
        (λ k.
        whether (u + 1 + r) limit
        (λ j. omega (arith, groups_joins u r rs j, groups_joins v r rs k, q.one (u + 1 + r) (v + 1 + r) (omega arith)))
        (λ j. omega (arith, groups_begins u r rs j, groups_joins v r rs k, q.fuller (o + r) (v + 1 + r) (omega arith))))
        (λ k.
        whether (u + 1 + r) limit
        (λ j. omega (arith, groups_joins u r rs j, groups_begins v r rs k, q.one (u + 1 + r) (o + r) (omega arith)))
        (λ j. omega (arith, groups_begins u r rs j, groups_begins v r rs k)));
  }

  -- rows that have room in the open group join it, in the plan too
  joins_all : (used : ℕ) (g rs : List ℕ) → grown used g ≤ limit → groups_from used (g ++ rs) ≡ groups_from (grown used g) rs
  joins_all used [] rs l = let e : used + 0 + 0 ≡ used = omega arith in rw e
  joins_all used (r ∷ g) rs l =
      let e : grown (used + 1 + r) g ≡ grown used (r ∷ g) = omega arith in
      groups_joins used r (g ++ rs) (omega arith) ∙ joins_all (used + 1 + r) g rs (omega arith) ∙ ap (λ (n : ℕ). groups_from n rs) e

  -- however full the open group is, the plan of the rows behind it begins no more groups than anybody's
  stays_ahead : (used : ℕ) (gs : List (List ℕ)) → All (λ (g : List ℕ). 0 < length g) gs → All (λ (g : List ℕ). size o g ≤ limit) gs
      → groups_from used (flatten gs) ≤ suc (length gs)
  unfolding groups_from flatten
  stays_ahead used [] n f = omega arith
  stays_ahead used ([] ∷ gs) n f = absurd (omega (arith, n.0))
  stays_ahead used ((r ∷ g) ∷ gs) n f =
      let q = stays_ahead (grown (o + r) g) gs n.1 f.1 in
      let rs = g ++ flatten gs in
      let e = joins_all (o + r) g (flatten gs) (omega (arith, f.0)) in
      whether (used + 1 + r) limit
      (λ j. omega (arith, groups_joins used r rs j, (ahead rs).one (used + 1 + r) (o + r) (omega arith), e, q))
      (λ j. omega (arith, groups_begins used r rs j, e, q))

  ends-length : (at : ℕ) (gs : List (List ℕ)) → length (ends at gs) ≡ length gs
  unfolding ends
  ends-length at [] = refl
  ends-length at (g ∷ gs) = ap suc (ends-length (at + length g) gs)

  fewest : (gs : List (List ℕ)) → All (λ (g : List ℕ). 0 < length g) gs → All (λ (g : List ℕ). size o g ≤ limit) gs
      → length (plan o limit (flatten gs)) ≤ length gs
  unfolding plan flatten
  fewest [] n f = omega arith
  fewest ([] ∷ gs) n f = absurd (omega (arith, n.0))
  fewest ((r ∷ g) ∷ gs) n f =
      let e = joins_all (o + r) g (flatten gs) (omega (arith, f.0)) in
      omega (arith, groups_length (o + r) 1 (g ++ flatten gs), e, stays_ahead (grown (o + r) g) gs n.1 f.1)

  -- No accepted proposal has fewer groups.
  pub plan_fewest : (rows proposal : List ℕ) → Accepted o limit rows proposal → length (plan o limit rows) ≤ length proposal
  plan_fewest rows proposal a =
      rw (← a.whole, ← a.said) (omega (arith, fewest a.groups a.filled a.fit, ends-length 0 a.groups))

  -- ---- a row that is too long

  -- some row plus the overhead exceeds the limit
  abbrev pub SomeTooLong : List ℕ → Type 0
  SomeTooLong rows = (i : ℕ) × (i < length rows) × (limit < get_or rows i 0 + o)

  pub too_long_at : (rows : List ℕ) → too_long o limit rows ≡ true → SomeTooLong rows
  unfolding too_long
  too_long_at [] t = absurd (let z : ◌≡◌ {A = ℕ} 0 1 = cc t in omega arith)
  too_long_at (r ∷ rs) t =
      whether (r + o) limit
      (λ h. let q = too_long_at rs (simp (le-ltb limit (r + o) h) at t) in (suc q.0, omega (arith, q.1), q.2))
      (λ h. (0, omega arith, h))

  pub alone_fine : (rows : List ℕ) → All Alone rows → too_long o limit rows ≡ false
  unfolding too_long
  alone_fine [] a = refl
  alone_fine (r ∷ rs) a = simp (le-ltb limit (r + o) a.0) (alone_fine rs a.1)

  pub fine_alone : (rows : List ℕ) → too_long o limit rows ≡ false → All Alone rows
  unfolding too_long
  fine_alone [] t = tt
  fine_alone (r ∷ rs) t =
      whether (r + o) limit
      (λ h. (h, fine_alone rs (simp (le-ltb limit (r + o) h) at t)))
      (λ h. absurd (let z : ◌≡◌ {A = ℕ} 0 1 = cc (simp (lt-ltb limit (r + o) h) at t) in omega arith))

  alone_not : (rows : List ℕ) → All Alone rows → SomeTooLong rows → ⊥
  alone_not [] a (i, l, h) = omega arith
  alone_not (r ∷ rs) a (zero, l, h) = omega (arith, a.0)
  alone_not (r ∷ rs) a (suc i, l, h) = alone_not rs a.1 (i, omega arith, h)

  pub fine_at : (rows : List ℕ) → too_long o limit rows ≡ false → (i : ℕ) → i < length rows → o + get_or rows i 0 ≤ limit
  fine_at rows t i l =
      whether (get_or rows i 0 + o) limit (λ h. omega arith) (λ h. absurd (alone_not rows (fine_alone rows t) (i, l, h)))

  fits_alone : (g : List ℕ) → o + sum g ≤ limit → All Alone g
  fits_alone [] h = tt
  fits_alone (r ∷ g) h = (omega arith, fits_alone g (omega arith))

  alone_append : (g h : List ℕ) → All Alone g → All Alone h → All Alone (g ++ h)
  alone_append [] h a b = b
  alone_append (r ∷ g) h a b = (a.0, alone_append g h a.1 b)

  groups_alone : (gs : List (List ℕ)) → All (λ (g : List ℕ). size o g ≤ limit) gs → All Alone (flatten gs)
  unfolding flatten
  groups_alone [] f = tt
  groups_alone (g ∷ gs) f = alone_append g (flatten gs) (fits_alone g (omega (arith, f.0))) (groups_alone gs f.1)

  -- Where some row is too long, nothing at all is accepted.
  pub no_proposal : (rows proposal : List ℕ) → SomeTooLong rows → Accepted o limit rows proposal → ⊥
  no_proposal rows proposal s a = alone_not rows (rw a.whole at (groups_alone a.groups a.fit)) s

  -- ---- what the planner answers, with the tests in their order

  module _ (rows d : List ℕ) where
    pub planned_many : most_rows < length rows → planned o limit rows d ≡ refused 17
    unfolding planned
    planned_many h = simp (lt-leb (length rows) most_rows h)

    abbrev Why : ℕ → Type 0
    Why k = ((k ≡ 16) × (too_long o limit rows ≡ true)) ⊎ ((k ≡ 6) × (too_long o limit rows ≡ false) × (length d < length (plan o limit rows)))

    module _ (l : length rows ≤ most_rows) where
      pub planned_long : too_long o limit rows ≡ true → planned o limit rows d ≡ refused 16
      unfolding planned
      planned_long t = simp (le-leb (length rows) most_rows l, t)

      pub planned_full : too_long o limit rows ≡ false → length d < length (plan o limit rows) → planned o limit rows d ≡ refused 6
      unfolding planned
      planned_full t h = simp (le-leb (length rows) most_rows l, t, lt-leb (length (plan o limit rows)) (length d) h)

      pub planned_groups : too_long o limit rows ≡ false → length (plan o limit rows) ≤ length d
          → planned o limit rows d ≡ gives (length (plan o limit rows))
      unfolding planned
      planned_groups t h = simp (le-leb (length rows) most_rows l, t, le-leb (length (plan o limit rows)) (length d) h)

      some_too_long : SomeTooLong rows → too_long o limit rows ≡ true
      some_too_long s = by (too_long o limit rows) refl
        where
          by : (t : Bool) → too_long o limit rows ≡ t → too_long o limit rows ≡ true
          by true e = e
          by false e = absurd (alone_not rows (fine_alone rows e) s)

      -- what a refusal with number k means
      refused_by : (k : ℕ) → planned o limit rows d ≡ refused k → Why k
      refused_by k e = by (too_long o limit rows) refl
        where
          by : (t : Bool) → too_long o limit rows ≡ t → Why k
          by true t = inl (refused_same (sym e ∙ planned_long t), t)
          by false t =
              whether (length (plan o limit rows)) (length d)
              (λ h. absurd (gives_not_refused (sym (planned_groups t h) ∙ e)))
              (λ h. inr (refused_same (sym e ∙ planned_full t h), t, h))

      -- 16 exactly when some row plus the overhead exceeds the limit.
      pub row_too_long : (planned o limit rows d ≡ refused 16) ↔ SomeTooLong rows
      row_too_long = (
        λ e. ⊎_elim (λ w. too_long_at rows w.1) (λ w. absurd (omega (arith, w.0))) (refused_by 16 e),
        λ s. planned_long (some_too_long s),
      )

      -- 6 exactly when the lent list is shorter than the number of groups, where every row fits.
      pub no_room : (planned o limit rows d ≡ refused 6) ↔ ((too_long o limit rows ≡ false) × (length d < length (plan o limit rows)))
      no_room = (
        λ e. ⊎_elim (λ w. absurd (omega (arith, w.0))) (λ w. (w.1, w.2)) (refused_by 6 e),
        λ s. planned_full s.0 s.1,
      )

    -- 17 exactly when there are more than 8,192 rows.
    pub too_many_rows : (planned o limit rows d ≡ refused 17) ↔ (most_rows < length rows)
    too_many_rows = (
      λ e. whether (length rows) most_rows (λ l. absurd (⊎_elim (λ w. omega (arith, w.0)) (λ w. omega (arith, w.0)) (refused_by l 17 e))) (λ h. h),
      planned_many,
    )

    -- where it gives a number, every row fits, and that is the number of groups
    planned_told : (n : ℕ) → planned o limit rows d ≡ gives n → (too_long o limit rows ≡ false) × (length (plan o limit rows) ≡ n)
    planned_told n e =
        whether (length rows) most_rows (λ l. by l (too_long o limit rows) refl) (λ h. absurd (gives_not_refused (sym e ∙ planned_many h)))
      where
        by : length rows ≤ most_rows → (t : Bool) → too_long o limit rows ≡ t → (too_long o limit rows ≡ false) × (length (plan o limit rows) ≡ n)
        by l true t = absurd (gives_not_refused (sym e ∙ planned_long l t))
        by l false t =
            whether (length (plan o limit rows)) (length d)
            (λ h. (t, gives_same (sym (planned_groups l t h) ∙ e)))
            (λ h. absurd (gives_not_refused (sym e ∙ planned_full l t h)))

    -- What the planner leaves in the front of the list is accepted, and no accepted proposal has fewer groups.
    pub planned_best : (n : ℕ) → planned o limit rows d ≡ gives n
        → Accepted o limit rows (take n (leaves (planned o limit rows d) (plan o limit rows) d))
        × ((proposal : List ℕ) → Accepted o limit rows proposal → n ≤ length proposal)
    planned_best n e =
        let w = planned_told n e in (
          rw (e, ← w.1, take-append_seam) (plan-accepted rows (fine_alone rows w.0)),
          λ proposal a. rw (← w.1) (plan_fewest rows proposal a),
        )

  -- ---- no rows

  no_groups : (gs : List (List ℕ)) → flatten gs ≡ [] → All (λ (g : List ℕ). 0 < length g) gs → ends 0 gs ≡ []
  unfolding ends flatten
  no_groups [] e n = refl
  no_groups (g ∷ gs) e n = absurd (omega (arith, n.0, length-append g (flatten gs), ap length e))

  -- No rows gives no groups, and that proposal alone is accepted.
  pub empty_none : (plan o limit [] ≡ []) × ((proposal : List ℕ) → Accepted o limit [] proposal ↔ (proposal ≡ []))
  unfolding plan ends flatten
  empty_none = (
    refl,
    λ proposal. (
      λ a. sym a.said ∙ no_groups a.groups a.whole a.filled,
      λ e. record { groups = []; whole = refl; filled = tt; fit = tt; said = sym e },
    ),
  )
