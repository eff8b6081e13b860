-- The planner's two walks, row by row: what is still to come, seen from any row on, gives the whole.
use Rattle.std.specs.Prelude.{ℕ, ◌+◌, ◌≤◌, ◌<◌, ◌≡◌, Bool, true, false, cond, not, length, get_or, set, leb, Result, Ok, Err}
use Rattle.std.proofs.Math.Nat.{zero-add}
use Rattle.std.proofs.Common.{add-zero, add-one, ◌∙◌, take_all, drop-cons, le-leb, lt-ltb, le-ltb}
use native.Mathlib.Omega.{arith}
use Rattle.std.proofs.Math.Path.{refl, sym, ap}
use mathlib.Core.List.{List, [], ◌∷◌}
use Rattle.std.proofs.Math.ListN.{drop, drop_of_length-le}
use Rattle.std.proofs.Math.Seq.{sets, sets-eq}
use Rattle.std.proofs.lemmas.Bool.{lt-leb}
use Rattle.refusal.specs.Said.{Said, gives, refused, check, gives_same, gives_not_refused, said_of}
use Rattle.wire.specs.Room.{patch}
use Rattle.refusal.specs.declared.Refusal.{Refusal}
use Rattle.refusal.specs.declared.Refusal.TheVariants.{NoRoom, TooManyRows}
use Rattle.pack.specs.Pack.{most_rows, plan_from, plan, too_long, planned, leaves, Plans}
use Rattle.pack.specs.PackLaws.{whether}
use Rattle.pack.specs.PlanLaws.{planned_many, planned_long, planned_full, planned_groups}

-- what a row does to an open group of `used` bytes: how many groups it ends, and the bytes of the one that it is in
abbrev pub ended_by : (limit used r : ℕ) → ℕ
ended_by limit used r = cond (leb (used + 1 + r) limit) 0 1

abbrev pub used_with : (o limit used r : ℕ) → ℕ
used_with o limit used r = cond (leb (used + 1 + r) limit) (used + 1 + r) (o + r)

-- the first walk by itself: 16, or the number of groups
abbrev pub groups_of : (o limit : ℕ) → List ℕ → Said ℕ
groups_of o limit rows = check (not (too_long o limit rows)) 16 (gives (length (plan o limit rows)))

-- the same from row `at` on, with n groups ended
abbrev pub groups_on : (o limit used n at : ℕ) → List ℕ → Said ℕ
groups_on o limit used n at rs = check (not (too_long o limit rs)) 16 (gives (n + length (plan_from o limit used at rs)))

one_more_lem : (t : Bool) (n : ℕ) → cond t n (n + 1) ≡ n + cond t 0 1
one_more_lem true n = sym (add-zero n)
one_more_lem false n = refl

module _ (o limit : ℕ) where
  pub used_within : (used r : ℕ) → o + r ≤ limit → used_with o limit used r ≤ limit
  used_within used r h =
      whether (used + 1 + r) limit
      (λ j. simp (le-leb (used + 1 + r) limit j) j)
      (λ j. simp (lt-leb (used + 1 + r) limit j) h)

  pub ended-most : (used r : ℕ) → ended_by limit used r ≤ 1
  ended-most used r =
      whether (used + 1 + r) limit
      (λ j. simp (le-leb (used + 1 + r) limit j) (omega arith))
      (λ j. simp (lt-leb (used + 1 + r) limit j) (omega arith))

  pub plan-some : (used at : ℕ) (rs : List ℕ) → 0 < length (plan_from o limit used at rs)
  unfolding plan_from
  plan-some used at [] = omega arith
  plan-some used at (r ∷ rs) =
      whether (used + 1 + r) limit
      (λ j. simp (le-leb (used + 1 + r) limit j) (plan-some (used + 1 + r) (at + 1) rs))
      (λ j. simp (lt-leb (used + 1 + r) limit j) (omega arith))

  count_turn : (used n at r : ℕ) (rs : List ℕ)
      → n + ended_by limit used r + length (plan_from o limit (used_with o limit used r) (at + 1) rs) ≡ n + length (plan_from o limit used at (r ∷ rs))
  unfolding plan_from
  count_turn used n at r rs =
      whether (used + 1 + r) limit
      (λ j. simp (le-leb (used + 1 + r) limit j) (omega arith))
      (λ j. simp (lt-leb (used + 1 + r) limit j) (omega arith))

  list_turn : (used n at r : ℕ) (rs d : List ℕ)
      → (let t = leb (used + 1 + r) limit in
      sets (cond t d (set d n at)) (cond t n (n + 1)) (plan_from o limit (used_with o limit used r) (at + 1) rs) ≡ sets d n (plan_from o limit used at (r ∷ rs)))
  unfolding plan_from
  list_turn used n at r rs d =
      whether (used + 1 + r) limit
      (λ j. simp (le-leb (used + 1 + r) limit j))
      (λ j. simp (lt-leb (used + 1 + r) limit j) (rw (add-one n)))

  -- ---- the first walk

  module _ (rows : List ℕ) where
    module _ (i : ℕ) (h : i < length rows) where
      row_here : drop i rows ≡ get_or rows i 0 ∷ drop (i + 1) rows
      row_here = rw add-one (drop-cons rows i 0 h)

      pub groups_stop : (used n : ℕ) → limit < o + get_or rows i 0 → refused 16 ≡ groups_on o limit used n i (drop i rows)
      unfolding too_long
      groups_stop used n l = rw row_here (simp (lt-ltb limit (get_or rows i 0 + o) (omega arith)))

      pub groups_turn : (used n : ℕ) → o + get_or rows i 0 ≤ limit
          → (let r = get_or rows i 0 in
          groups_on o limit (used_with o limit used r) (n + ended_by limit used r) (i + 1) (drop (i + 1) rows) ≡ groups_on o limit used n i (drop i rows))
      unfolding too_long
      groups_turn used n l =
          rw (row_here, ← (count_turn used n i (get_or rows i 0) (drop (i + 1) rows))) (simp (le-ltb limit (get_or rows i 0 + o) (omega arith)))

    pub groups_end : (used n i : ℕ) → length rows ≤ i → gives (n + 1) ≡ groups_on o limit used n i (drop i rows)
    unfolding plan_from too_long
    groups_end used n i h = rw (drop_of_length-le rows h)

    -- the first row begins the first group
    module _ (h : 0 < length rows) where
      plan-first : plan o limit rows ≡ plan_from o limit (o + get_or rows 0 0) 1 (drop 1 rows)
      unfolding plan
      plan-first = ap (plan o limit) (row_here 0 h)

      pub groups_long : limit < o + get_or rows 0 0 → refused 16 ≡ groups_of o limit rows
      unfolding too_long
      groups_long l = rw (row_here 0 h) (simp (lt-ltb limit (get_or rows 0 0 + o) (omega arith)))

      pub groups_begin : o + get_or rows 0 0 ≤ limit → groups_on o limit (o + get_or rows 0 0) 0 1 (drop 1 rows) ≡ groups_of o limit rows
      unfolding too_long
      groups_begin l =
          rw (plan-first, zero-add) (rw (row_here 0 h) (simp (le-ltb limit (get_or rows 0 0 + o) (omega arith))))

    -- ---- the second walk: n ends are written in d, and the rest of them are still to be

    module _ (d₀ : List ℕ) where
      pub record Rest (used n i : ℕ) (d : List ℕ) : Type 0 where
        pub list_so : sets d n (plan_from o limit used i (drop i rows)) ≡ sets d₀ 0 (plan o limit rows)
        pub count_so : n + length (plan_from o limit used i (drop i rows)) ≡ length (plan o limit rows)

      pub rest_begin : 0 < length rows → Rest (o + get_or rows 0 0) 0 1 d₀
      rest_begin h =
          let e = sym (plan-first h) in
          record { list_so = ap (sets d₀ 0) e; count_so = zero-add _ ∙ ap length e }

      module _ (used n i : ℕ) (d : List ℕ) (q : Rest used n i d) where
        -- there is room for one more
        pub rest-room : length (plan o limit rows) ≤ length d → n < length d
        rest-room l = omega (arith, q.count_so, plan-some used i (drop i rows))

        pub rest_turn : i < length rows → (t : Bool) (n' : ℕ) (d' : List ℕ) → t ≡ leb (used + 1 + get_or rows i 0) limit → n' ≡ cond t n (n + 1)
            → d' ≡ cond t d (set d n i) → Rest (used_with o limit used (get_or rows i 0)) n' (i + 1) d'
        rest_turn h t n' d' et en ed =
            let r = get_or rows i 0 in
            let rs = drop (i + 1) rows in
            let e = sym (row_here i h) in
            rw (en, ed, et) (record {
              list_so = list_turn used n i r rs d ∙ ap (λ (l : List ℕ). sets d n (plan_from o limit used i l)) e ∙ q.list_so;
              count_so = ap (λ (k : ℕ). k + length (plan_from o limit (used_with o limit used r) (i + 1) rs)) (one_more_lem (leb (used + 1 + r) limit) n)
                  ∙ count_turn used n i r rs
                  ∙ ap (λ (l : List ℕ). n + length (plan_from o limit used i l)) e
                  ∙ q.count_so;
            })

        -- behind the last row only its own end is left
        pub rest_end : i ≡ length rows → length (plan o limit rows) ≤ length d₀ → set d n (length rows) ≡ patch d₀ 0 (plan o limit rows)
        unfolding plan_from
        rest_end e l =
            let none : drop i rows ≡ [] = drop_of_length-le rows {i = i} (omega arith) in
            ap (set d n) (sym e)
            ∙ ap (λ (x : List ℕ). sets d n (plan_from o limit used i x)) (sym none)
            ∙ q.list_so
            ∙ sets-eq (plan o limit rows) d₀ 0 (rw zero-add l)

-- ---- the two walks together

module _ (o limit : ℕ) (rows d : List ℕ) where
  -- an answer, and the list that goes with it
  plans : (r : Result ℕ Refusal) (d' : List ℕ) (x : Said ℕ) → planned o limit rows d ≡ x → said_of r ≡ x → d' ≡ leaves x (plan o limit rows) d
      → Plans o limit rows d r d'
  plans r d' x e q p = record { said = q ∙ sym e; left = p ∙ ap (λ (y : Said ℕ). leaves y (plan o limit rows) d) (sym e) }

  groups_refused : too_long o limit rows ≡ true → groups_of o limit rows ≡ refused 16
  groups_refused t = simp t

  groups_given : too_long o limit rows ≡ false → groups_of o limit rows ≡ gives (length (plan o limit rows))
  groups_given t = simp t

  pub plans_many : most_rows < length rows → Plans o limit rows d (Err TooManyRows) d
  plans_many h = plans _ d (refused 17) (planned_many o limit rows d h) refl refl

  module _ (l : length rows ≤ most_rows) where
    pub plans_none : length rows ≡ 0 → Plans o limit rows d (Ok 0) d
    unfolding plan too_long
    plans_none e =
        let z : rows ≡ [] = sym (take_all 0 rows (omega arith)) in
        plans _ d (gives 0)
        (rw z (planned_groups o limit [] d (omega arith) refl (omega arith))) refl (rw z)

    module _ (r : Result ℕ Refusal) (c : said_of r ≡ groups_of o limit rows) where
      -- what the first walk tells
      pub walk_groups : (n : ℕ) → r ≡ Ok n → (too_long o limit rows ≡ false) × (n ≡ length (plan o limit rows))
      walk_groups n e = by (too_long o limit rows) refl
        where
          by : (t : Bool) → too_long o limit rows ≡ t → (too_long o limit rows ≡ false) × (n ≡ length (plan o limit rows))
          by true t = absurd (gives_not_refused (sym (ap said_of e) ∙ c ∙ groups_refused t))
          by false t = (t, gives_same (sym (ap said_of e) ∙ c ∙ groups_given t))

      pub plans_full : (n : ℕ) → r ≡ Ok n → length d < n → Plans o limit rows d (Err NoRoom) d
      plans_full n e h =
          let w = walk_groups n e in
          plans _ d (refused 6) (planned_full o limit rows d l w.0 (omega (arith, w.1))) refl refl

      pub plans_done : (n : ℕ) → r ≡ Ok n → n ≤ length d → (d' : List ℕ) → d' ≡ patch d 0 (plan o limit rows) → Plans o limit rows d (Ok n) d'
      plans_done n e h d' p =
          let w = walk_groups n e in
          plans _ d' (gives (length (plan o limit rows))) (planned_groups o limit rows d l w.0 (omega (arith, w.1))) (ap gives w.1) p

      pub plans_stop : (k : Refusal) → r ≡ Err k → Plans o limit rows d (Err k) d
      plans_stop k e = by (too_long o limit rows) refl
        where
          by : (t : Bool) → too_long o limit rows ≡ t → Plans o limit rows d (Err k) d
          by true t = plans _ d (refused 16) (planned_long o limit rows d l t) (sym (ap said_of e) ∙ c ∙ groups_refused t) refl
          by false t = absurd (gives_not_refused (sym (groups_given t) ∙ sym c ∙ ap said_of e))
