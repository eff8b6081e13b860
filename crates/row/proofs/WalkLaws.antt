-- One column of a row, and those behind it.
use Rattle.std.specs.Prelude.{Result, Ok, Err}
use mathlib.Core.Path.{◌≡◌, refl, sym, ap, ◌∙◌}
use mathlib.Core.List.{List, [], ◌∷◌, ◌++◌}
use Prim.Native.Nat.{ℕ, zero, suc, ◌+◌, ◌-◌, ◌*◌, ◌≤◌, ◌<◌}
use native.Mathlib.Omega.{arith}
use native.Mathlib.Nat.{add-zero, zero-add, mul-zero, mul-one}
use native.Mathlib.Decide.{ℕ_discrete}
use native.Mathlib.Numerals.{add-one}
use lib.ListN.{length, get_or, drop, set}
use lib.Seq.{sets, sets-eq}
use borrow.Author.Tests.{eq-eqb, ne_eqb, le-leb, lt-leb}
use Rattle.refusal.specs.Said.{Said, gives, refused, said_of}
use Rattle.refusal.specs.Number.{number}
use Rattle.refusal.specs.declared.Refusal.{Refusal}
use Rattle.wire.specs.LenEnc.{within}
use Rattle.value.specs.Kinds.{kind_of}
use Rattle.value.specs.Read.{skip_at, end_in}
use Rattle.value.specs.Steps.{step_of, led_body, skip_fixed, skip_led}
use Rattle.row.specs.Nulls.{null_bit}
use Rattle.row.specs.Walk.{Walk, col_at, onward, walk, over, Passed}
use Rattle.row.specs.RowLaws.{bit_few, col_within}

module _ (s map : List ℕ) (off : ℕ) (ts : List ℕ) where
  -- a column by its step, and by whether it has a value
  module _ (i at there step : ℕ) (h : there ≡ 1 - null_bit map off i) (e : step ≡ step_of (kind_of (get_or ts i 0))) where
    pub col_null : there ≡ 0 → gives at ≡ col_at s map off ts i at
    unfolding col_at
    col_null z = simp (eq-eqb (null_bit map off i) 1 (omega (arith, bit_few map off i)))

    col_value : (there ≡ 0 → ⊥) → skip_at s at (get_or ts i 0) ≡ col_at s map off ts i at
    unfolding col_at
    col_value n = simp (ne_eqb (null_bit map off i) 1 (λ o. n (omega (arith, o))))

    pub col_led : (there ≡ 0 → ⊥) → 8 < step → (x : Said ℕ) → x ≡ end_in (led_body step s at) → x ≡ col_at s map off ts i at
    col_led n l x q = q ∙ sym (skip_led s at (get_or ts i 0) step e l) ∙ col_value n

    col_fixed : at ≤ length s → step ≤ 8 → (x : Said ℕ) → x ≡ end_in (within s at (step * there)) → x ≡ col_at s map off ts i at
    col_fixed w l x q = elim (ℕ_discrete there 0) [
      | yes z ↦
          let none : step * there ≡ 0 = rw (z, mul-zero) refl in
          q ∙ ap (λ (k : ℕ). end_in (within s at k)) none ∙ simp (add-zero, le-leb at (length s) w) (col_null z)
      | no n ↦
          let one : there ≡ 1 = omega (arith, h, n) in
          let all : step * there ≡ step = rw (one, mul-one) refl in
          q ∙ ap (λ (k : ℕ). end_in (within s at k)) all ∙ sym (skip_fixed s at (get_or ts i 0) step e w l) ∙ col_value n
    ]

    pub col_there : step ≤ 8 → at + step * there ≤ length s → gives (at + step * there) ≡ col_at s map off ts i at
    col_there l f = col_fixed (omega arith) l _ (simp (le-leb (at + step * there) (length s) f))

    pub col_short : at ≤ length s → step ≤ 8 → length s < at + step * there → refused 8 ≡ col_at s map off ts i at
    col_short a l f = col_fixed a l _ (simp (lt-leb (at + step * there) (length s) f))

  -- a column that starts within the bytes ends within them
  pub col_next : (i at m : ℕ) (r : Result ℕ Refusal) → said_of r ≡ col_at s map off ts i at → r ≡ Ok m → at ≤ length s → m ≤ length s
  col_next i at m r e q w = col_within s map off ts i at m w (sym e ∙ ap said_of q)

  -- no column is left
  pub walk_none : (i at n : ℕ) → n ≤ i → walk s map off ts i at (n - i) ≡ record { starts = []; ends = gives at }
  unfolding walk
  walk_none i at n h = let e : n - i ≡ 0 = omega arith in rw e

  module _ (i at n : ℕ) (h : i < n) where
    walk_more : walk s map off ts i at (n - i) ≡ onward at (λ m. walk s map off ts (i + 1) m (n - (i + 1))) (col_at s map off ts i at)
    unfolding walk
    walk_more = let e : n - i ≡ suc (n - (i + 1)) = omega arith in rw e

    pub walk_turn : (m : ℕ) → gives m ≡ col_at s map off ts i at → walk s map off ts i at (n - i) ≡
        (let w = walk s map off ts (i + 1) m (n - (i + 1)) in record { starts = at ∷ w.starts; ends = w.ends })
    walk_turn m e = walk_more ∙ ap (onward at (λ j. walk s map off ts (i + 1) j (n - (i + 1)))) (sym e)

    pub walk-stop : (k : ℕ) → refused k ≡ col_at s map off ts i at → walk s map off ts i at (n - i) ≡ record { starts = at ∷ []; ends = refused k }
    walk-stop k e = walk_more ∙ ap (onward at (λ j. walk s map off ts (i + 1) j (n - (i + 1)))) (sym e)

  length_by : (at n : ℕ) (x : Said ℕ) (rest : ℕ → Walk) → ((j : ℕ) → length (rest j).starts ≤ n) → length (onward at rest x).starts ≤ suc n
  length_by at n (gives j) rest ih = omega (arith, ih j)
  length_by at n (refused k) rest ih = omega arith

  pub starts_length : (i at n : ℕ) → length (walk s map off ts i at n).starts ≤ n
  unfolding walk
  starts_length i at zero = omega arith
  starts_length i at (suc n) = length_by at n (col_at s map off ts i at) (λ j. walk s map off ts (i + 1) j n) (λ j. starts_length (i + 1) j n)

-- ---- a pass: the rest of the walk from column i on, and the stores it still makes, give the whole

module _ (s map : List ℕ) (off : ℕ) (ts : List ℕ) (from : ℕ) where
  abbrev pub whole : Walk
  whole = walk s map off ts 0 from (length ts)

  abbrev rest : (at i : ℕ) → Walk
  rest at i = walk s map off ts i at (length ts - i)

  -- come to column i at a place, the walk still ends as the whole does
  pub record Ending (at i : ℕ) : Type 0 where
    pub ends_so : (rest at i).ends ≡ whole.ends

  -- and a list still gets the starts that the whole has
  pub record Listing (d₀ d : List ℕ) (at i : ℕ) : Type 0 where
    pub list_so : sets d i (rest at i).starts ≡ sets d₀ 0 whole.starts

  all_over : (d : List ℕ) → length ts ≤ length d → sets d 0 whole.starts ≡ over whole.starts d
  all_over d h =
      sets-eq whole.starts d 0 (omega (arith, starts_length s map off ts 0 from (length ts)))
      ∙ ap (λ (k : ℕ). whole.starts ++ drop k d) (zero-add (length whole.starts))

  module _ (at i : ℕ) (q : Ending at i) where
    pub pass-ends : length ts ≤ i → gives at ≡ whole.ends
    pass-ends h = sym (ap (λ (x : Walk). x.ends) (walk_none s map off ts i at (length ts) h)) ∙ q.ends_so

    pub pass-lists : length ts ≤ i → (d₀ d : List ℕ) → length ts ≤ length d₀ → Listing d₀ d at i → Passed whole d₀ (Ok at) d
    pass-lists h d₀ d l p = record {
      said = pass-ends h;
      left = ap (λ (x : Walk). sets d i x.starts) (sym (walk_none s map off ts i at (length ts) h)) ∙ p.list_so ∙ all_over d₀ l;
    }

    module _ (h : i < length ts) (r : Result ℕ Refusal) (col : said_of r ≡ col_at s map off ts i at) where
      turned : (m : ℕ) → r ≡ Ok m → rest at i ≡ (let w = rest m (i + 1) in record { starts = at ∷ w.starts; ends = w.ends })
      turned m e = walk_turn s map off ts i at (length ts) h m (sym (ap said_of e) ∙ col)

      stopped : (k : Refusal) → r ≡ Err k → rest at i ≡ record { starts = at ∷ []; ends = refused (number k) }
      stopped k e = walk-stop s map off ts i at (length ts) h (number k) (sym (ap said_of e) ∙ col)

      pub ending_turn : (m : ℕ) → r ≡ Ok m → Ending m (i + 1)
      ending_turn m e = record { ends_so = sym (ap (λ (x : Walk). x.ends) (turned m e)) ∙ q.ends_so }

      pub pass-stops : (k : Refusal) → r ≡ Err k → refused (number k) ≡ whole.ends
      pass-stops k e = sym (ap (λ (x : Walk). x.ends) (stopped k e)) ∙ q.ends_so

      module _ (d₀ d : List ℕ) (p : Listing d₀ d at i) where
        pub listing_turn : (m : ℕ) → r ≡ Ok m → Listing d₀ (set d i at) m (i + 1)
        listing_turn m e = record { list_so = (rw add-one refl) ∙ sym (ap (λ (x : Walk). sets d i x.starts) (turned m e)) ∙ p.list_so }

        pub listing-stops : (k : Refusal) → length ts ≤ length d₀ → r ≡ Err k → Passed whole d₀ (Err k) (set d i at)
        listing-stops k l e = record {
          said = pass-stops k e;
          left = sym (ap (λ (x : Walk). sets d i x.starts) (stopped k e)) ∙ p.list_so ∙ all_over d₀ l;
        }
