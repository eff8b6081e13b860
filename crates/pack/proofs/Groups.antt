-- What the tests of a row and of a group mean to the judge and to the planner's two walks.
use Rattle.refusal.specs.Number.{number}
use Rattle.refusal.specs.declared.Refusal.{Refusal}
use Rattle.refusal.specs.declared.Refusal.TheVariants.{RowTooLong}
use Rattle.std.specs.Prelude.{◌≡◌, ℕ, ◌+◌, ◌-◌, ◌≤◌, ◌<◌, List, length, take, drop, set, get_or, true, false, Option, Some, None, SomeIff, Err, refl}
use Rattle.std.specs.Option.{is_some, ok_or}
use Rattle.std.proofs.Common.{sym, ◌∙◌, ap, arith, add-zero, le-leb, length-take, length-drop}
use Rattle.std.proofs.Math.Seq.{take-length}
use Rattle.std.proofs.lemmas.Grind.{get_or_after_one}
use Rattle.std.proofs.lemmas.Bool.{lt-leb}
use Rattle.pack.specs.Pack.{size, grouped}
use Rattle.pack.specs.PackLaws.{whether, grouped_empty, grouped-past, grouped-fits, grouped-within, accepts-stops, accepts_turn, accepts-ends}
use Rattle.pack.specs.WalkLaws.{plan-some, groups_on, groups_long, groups_begin, groups_stop, groups_turn, groups_end, Rest, rest_turn, rest_end}
use Rattle.pack.specs.WalkLaws.{plans_many, plans_none, walk_groups, plans_full, plans_done, plans_stop}
use Rattle.pack.specs.PlanLaws.{fine_at}

-- ---- the judge

-- a part of the rows is the next group exactly if it has rows and they fit
pub bytes_grouped : (o limit at end : ℕ) (rows g : List ℕ) (h : Option ℕ) → at ≤ end → end ≤ length rows → g ≡ take (end - at) (drop at rows)
    → SomeIff h ((0 < length g) × (size o g ≤ limit)) (size o g) → is_some h ≡ grouped o limit at (drop at rows) end
bytes_grouped o limit at end rows g (Some n) a e s (p, q) =
    let k : length g ≡ end - at = ap length s ∙ simp (length-take, length-drop) (omega arith) in
    grouped-fits o limit at rows end (omega (arith, p.0)) e true (rw (← s) (sym (le-leb (size o g) limit p.1)))
bytes_grouped o limit at end rows g None a e s n =
    let k : length g ≡ end - at = ap length s ∙ simp (length-take, length-drop) (omega arith) in
    whether end at
    (λ l. grouped_empty o limit at rows end l)
    (λ l. grouped-fits o limit at rows end l e false (rw (← s)
    (whether (size o g) limit (λ f. absurd (n (omega arith, f))) (λ f. sym (lt-leb (size o g) limit f)))))

-- ---- the walks

-- the rows behind the first
module _ (rows : List ℕ) (h : 0 < length rows) where
  abbrev others : List ℕ
  others = take (length rows - 1) (drop 1 rows)

  pub other : (k : ℕ) → get_or others k 0 ≡ get_or rows (k + 1) 0
  other k = let e : length rows - 1 ≡ length (drop 1 rows) = rw length-drop in let f : 1 + k ≡ k + 1 = omega arith in rw (e, take-length, get_or_after_one, f)

  pub length-others : length others ≡ length rows - 1
  length-others = rw (length-take, length-drop) (omega arith)

-- a row that does not open a group
pub unopened : (o : Option ℕ) (e : Refusal) → Err e ≡ ok_or o RowTooLong → (number e ≡ 16) × (o ≡ None)
unopened None e w = let k : e ≡ RowTooLong = cc in (ap number k, refl)
unopened (Some n) e w = absurd (cc)

module _ (o limit : ℕ) (rows : List ℕ) (i used n : ℕ) (h : i < length rows) where
  pub groups_joins : o + get_or rows i 0 ≤ limit → used + 1 + get_or rows i 0 ≤ limit
      → groups_on o limit (used + 1 + get_or rows i 0) n (i + 1) (drop (i + 1) rows) ≡ groups_on o limit used n i (drop i rows)
  groups_joins l j = simp (le-leb (used + 1 + get_or rows i 0) limit j, add-zero) at (groups_turn o limit rows i h used n l)

  pub groups_opens : o + get_or rows i 0 ≤ limit → limit < used + 1 + get_or rows i 0
      → groups_on o limit (o + get_or rows i 0) (n + 1) (i + 1) (drop (i + 1) rows) ≡ groups_on o limit used n i (drop i rows)
  groups_opens l j = simp (lt-leb (used + 1 + get_or rows i 0) limit j) at (groups_turn o limit rows i h used n l)

  module _ (d₀ d : List ℕ) (q : Rest o limit rows d₀ used n i d) where
    pub rest_joins : used + 1 + get_or rows i 0 ≤ limit → Rest o limit rows d₀ (used + 1 + get_or rows i 0) n (i + 1) d
    rest_joins j =
        let e = le-leb (used + 1 + get_or rows i 0) limit j in
        simp e at (rest_turn o limit rows d₀ used n i d q h true n d (sym e) refl refl)

    pub rest_opens : limit < used + 1 + get_or rows i 0 → Rest o limit rows d₀ (o + get_or rows i 0) (n + 1) (i + 1) (set d n i)
    rest_opens j =
        let e = lt-leb (used + 1 + get_or rows i 0) limit j in
        simp e at (rest_turn o limit rows d₀ used n i d q h false (n + 1) (set d n i) (sym e) refl refl)

-- ---- what the functions stand on

pub ruleset second = (plan-some, fine_at, rest_end)

pub ruleset first = (other, length-others, unopened, groups_long, groups_begin, groups_stop, groups_joins, groups_opens, groups_end)

pub ruleset group = (bytes_grouped, grouped_empty, grouped-past)

pub ruleset proposal = (grouped-within, accepts-stops, accepts_turn, accepts-ends)

pub ruleset planner = (plans_many, plans_none, walk_groups, plans_stop)
