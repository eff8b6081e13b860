-- What holds of every row and parameter list, read or refused. A host may lean on these and on nothing of the code.
use Rattle.wire.specs.declared.Text.{Text}
use Rattle.wire.specs.declared.Parsed.{Parsed}
use Rattle.std.specs.Prelude.{◌≡◌, Bool, true, false, cond, List, [], ◌∷◌, ◌++◌, length, get_or, take, drop, leb, ltb, eqb, Option, Some, None}
use Rattle.std.proofs.Math.Path.{refl}
use Rattle.std.proofs.Common.{sym, ap, ◌∙◌, arith, add-zero, zero-add, eq-eqb, ne_eqb, leb-true, take_at, drop_at}
use Prim.Native.Nat.{ℕ, zero, suc, ◌+◌, ◌≤◌, ◌<◌}
use Rattle.std.proofs.Math.ListN.{get_or-append}
use Rattle.refusal.specs.Said.{Said, gives, refused, and_then, gives_same, gives_not_refused}
use Rattle.value.specs.Kinds.{kind_of}
use Rattle.value.specs.Read.{body_of, end_in, typed, skip_at, bin_at}
use Rattle.value.specs.ValueLaws.{body_end, next_skip}
use Rattle.value.specs.declared.Value.{Value}
use Rattle.value.specs.declared.Kind.{Kind}
use Rattle.row.specs.Nulls.{null_bit, null_count, map_size}
use Rattle.row.specs.Walk.{Walk, col_at, onward, walk, over}
use Rattle.row.specs.Row.{RowEnd, columns_of, stopped, ended, values_of, listed, row_of, params_of}
use Rattle.row.specs.declared.Columns.{Columns}

-- ---- words for them

-- the bitmap, behind lead bytes
abbrev pub map_of : (s : List ℕ) (lead off : ℕ) (ts : List ℕ) → List ℕ
map_of s lead off ts = take (map_size (length ts) off) (drop lead s)

-- the starts of n columns, and behind them where the last one ends
abbrev pub edges : List ℕ → ℕ → ℕ → List ℕ
edges starts used n = take n starts ++ used ∷ []

-- the place behind a value
abbrev pub next_of : Said (Parsed Value) → Said ℕ
next_of v = and_then v (λ g. gives g.next)

-- ---- one bit, and the count

pub bit_few : (map : List ℕ) (off i : ℕ) → null_bit map off i ≤ 1
unfolding null_bit
bit_few map off i = omega arith

pub count_few : (map : List ℕ) (off n : ℕ) → null_count map off n ≤ n
unfolding null_count
count_few map off zero = omega arith
count_few map off (suc n) = omega (arith, count_few map off n, bit_few map off n)

-- ---- one value: its reader goes on to where the walk goes on to, whatever the sign

-- a value that starts within the bytes ends within them
pub skip_within : (s : List ℕ) (at t m : ℕ) → at ≤ length s → skip_at s at t ≡ gives m → m ≤ length s
unfolding skip_at
skip_within s at t m h e = by_kind (kind_of t) e
  where
    by_body : (k : Kind) (b : Said Text) → body_of k s at ≡ b → end_in b ≡ gives m → m ≤ length s
    by_body k (gives p) q e = omega (arith, h, body_end k s at p q, gives_same e)
    by_body k (refused n) q e = absurd (gives_not_refused (sym e))

    by_kind : (o : Option Kind) → typed o (λ k. end_in (body_of k s at)) ≡ gives m → m ≤ length s
    by_kind (Some k) e = by_body k (body_of k s at) refl e
    by_kind None e = absurd (gives_not_refused (sym e))

-- ---- a walk that ends: each column goes on to the next one's start

module _ (s map : List ℕ) (off : ℕ) (ts : List ℕ) where
  first_by : (at used : ℕ) (rest : ℕ → Walk) (x : Said ℕ) → get_or ((onward at rest x).starts ++ used ∷ []) 0 0 ≡ at
  first_by at used rest (gives m) = refl
  first_by at used rest (refused k) = refl

  walk_first : (i at n used : ℕ) → (walk s map off ts i at n).ends ≡ gives used → get_or ((walk s map off ts i at n).starts ++ used ∷ []) 0 0 ≡ at
  unfolding walk
  walk_first i at zero used e = cc e
  walk_first i at (suc n) used e = first_by at used (λ m. walk s map off ts (i + 1) m n) (col_at s map off ts i at)

  all_by : (at n used : ℕ) (rest : ℕ → Walk) (x : Said ℕ) → ((m : ℕ) → (rest m).ends ≡ gives used → length (rest m).starts ≡ n)
      → (onward at rest x).ends ≡ gives used → length (onward at rest x).starts ≡ suc n
  all_by at n used rest (gives m) ih e = ap suc (ih m e)
  all_by at n used rest (refused k) ih e = absurd (gives_not_refused (sym e))

  pub walk_all : (i at n used : ℕ) → (walk s map off ts i at n).ends ≡ gives used → length (walk s map off ts i at n).starts ≡ n
  unfolding walk
  walk_all i at zero used e = refl
  walk_all i at (suc n) used e = all_by at n used (λ m. walk s map off ts (i + 1) m n) (col_at s map off ts i at) (λ m. walk_all (i + 1) m n used) e

  goes_by : (i at n used j : ℕ) (rest : ℕ → Walk) (x : Said ℕ) → col_at s map off ts i at ≡ x
      → ((m : ℕ) → (rest m).ends ≡ gives used → get_or ((rest m).starts ++ used ∷ []) 0 0 ≡ m)
      → ((m k : ℕ) → (rest m).ends ≡ gives used → k < n → col_at s map off ts (i + 1 + k) (get_or (rest m).starts k 0) ≡ gives
      (get_or ((rest m).starts ++ used ∷ []) (k + 1) 0))
      → (onward at rest x).ends ≡ gives used → j < suc n
      → col_at s map off ts (i + j) (get_or (onward at rest x).starts j 0) ≡ gives (get_or ((onward at rest x).starts ++ used ∷ []) (j + 1) 0)
  goes_by i at n used zero rest (gives m) c first ih e h = rw (add-zero, c) (ap gives (sym (first m e)))
  goes_by i at n used (suc j) rest (gives m) c first ih e h =
      let q : i + suc j ≡ i + 1 + j = omega arith in
      let r : suc j + 1 ≡ suc (j + 1) = omega arith in
      rw (q, r) (ih m j e (omega arith))
  goes_by i at n used j rest (refused k) c first ih e h = absurd (gives_not_refused (sym e))

  pub walk-goes : (i at n used j : ℕ) → (walk s map off ts i at n).ends ≡ gives used → j < n
      → col_at s map off ts (i + j) (get_or (walk s map off ts i at n).starts j 0) ≡ gives (get_or ((walk s map off ts i at n).starts ++ used ∷ []) (j + 1) 0)
  unfolding walk
  walk-goes i at zero used j e h = absurd (omega arith)
  walk-goes i at (suc n) used j e h =
      goes_by i at n used j (λ m. walk s map off ts (i + 1) m n) (col_at s map off ts i at) refl (λ m. walk_first (i + 1) m n used)
      (λ m k. walk-goes (i + 1) m n used k) e h

  -- and the last one ends within the bytes
  col_by : (i at m : ℕ) (b : Bool) → at ≤ length s → cond b (gives at) (skip_at s at (get_or ts i 0)) ≡ gives m → m ≤ length s
  col_by i at m true h e = rw (← gives_same e) h
  col_by i at m false h e = skip_within s at (get_or ts i 0) m h e

  pub col_within : (i at m : ℕ) → at ≤ length s → col_at s map off ts i at ≡ gives m → m ≤ length s
  unfolding col_at
  col_within i at m h e = col_by i at m (eqb (null_bit map off i) 1) h e

  ends_by : (i at used : ℕ) (rest : ℕ → Walk) (x : Said ℕ) → at ≤ length s → col_at s map off ts i at ≡ x
      → ((m : ℕ) → m ≤ length s → (rest m).ends ≡ gives used → used ≤ length s) → (onward at rest x).ends ≡ gives used → used ≤ length s
  ends_by i at used rest (gives m) h c ih e = ih m (col_within i at m h c) e
  ends_by i at used rest (refused k) h c ih e = absurd (gives_not_refused (sym e))

  walk-within : (i at n used : ℕ) → at ≤ length s → (walk s map off ts i at n).ends ≡ gives used → used ≤ length s
  unfolding walk
  walk-within i at zero used h e = rw (← gives_same e) h
  walk-within i at (suc n) used h e =
      ends_by i at used (λ m. walk s map off ts (i + 1) m n) (col_at s map off ts i at) h refl (λ m. walk-within (i + 1) m n used) e

-- ---- an outcome: what is so of it, read or refused

pub record Sound (s : List ℕ) (lead off : ℕ) (ts d : List ℕ) (e : RowEnd) : Type 0 where
  -- "A refused writer, value, row or record reader changes no byte, number or cursor"
  pub untouched : (k : ℕ) → e.said ≡ refused k → e.starts ≡ d
  -- "what lies past the written part of any lent list stays"
  pub past_stays : drop (length ts) e.starts ≡ drop (length ts) d
  pub few_nulls : (c : Columns) → e.said ≡ gives c → c.nulls ≤ length ts
  pub used_within : (c : Columns) → e.said ≡ gives c → c.used ≤ length s
  -- column 0 starts behind the bitmap, and each column goes on to the next one's start, the last to the bytes used
  pub begins : (c : Columns) → e.said ≡ gives c → get_or (edges e.starts c.used (length ts)) 0 0 ≡ lead + map_size (length ts) off
  pub goes_on : (c : Columns) → e.said ≡ gives c → (j : ℕ) → j < length ts
      → col_at s (map_of s lead off ts) off ts j (get_or e.starts j 0) ≡ gives (get_or (edges e.starts c.used (length ts)) (j + 1) 0)

module _ (s : List ℕ) (lead off : ℕ) (ts d : List ℕ) where
  sound_if : (t : Bool) (x y : RowEnd) → Sound s lead off ts d x → Sound s lead off ts d y → Sound s lead off ts d (cond t x y)
  sound_if true x y p q = p
  sound_if false x y p q = q

  sound_stopped : (k : ℕ) → Sound s lead off ts d (stopped k d)
  sound_stopped k = record {
    untouched = λ j e. refl;
    past_stays = refl;
    few_nulls = λ c e. absurd (gives_not_refused (sym e));
    used_within = λ c e. absurd (gives_not_refused (sym e));
    begins = λ c e. absurd (gives_not_refused (sym e));
    goes_on = λ c e. absurd (gives_not_refused (sym e));
  }

  sound_fits : (t : Bool) (x y : RowEnd) → (t ≡ true → Sound s lead off ts d x) → Sound s lead off ts d y → Sound s lead off ts d (cond t x y)
  sound_fits true x y p q = p refl
  sound_fits false x y p q = q

  module _ (fits : lead + map_size (length ts) off ≤ length s) (w : Walk)
      (is : w ≡ walk s (map_of s lead off ts) off ts 0 (lead + map_size (length ts) off) (length ts)) where
    abbrev map : List ℕ
    map = map_of s lead off ts

    ends : (used : ℕ) → gives used ≡ w.ends → (walk s map off ts 0 (lead + map_size (length ts) off) (length ts)).ends ≡ gives used
    ends used e = sym (e ∙ ap (λ (x : Walk). x.ends) is)

    all : (used : ℕ) → gives used ≡ w.ends → length w.starts ≡ length ts
    all used e = ap (λ (x : Walk). length x.starts) is ∙ walk_all s map off ts 0 (lead + map_size (length ts) off) (length ts) used (ends used e)

    used_is : (nulls used : ℕ) (c : Columns) → gives (columns_of nulls used) ≡ gives c → (c.nulls ≡ nulls) × (c.used ≡ used)
    used_is nulls used c e = let q : columns_of nulls used ≡ c = cc e in (ap (λ (x : Columns). x.nulls) (sym q), ap (λ (x : Columns). x.used) (sym q))

    edges_are : (used : ℕ) → gives used ≡ w.ends → edges (over w.starts d) used (length ts) ≡ w.starts ++ used ∷ []
    edges_are used e = ap (λ (l : List ℕ). l ++ used ∷ []) (take_at w.starts (drop (length w.starts) d) (length ts) (all used e))

    sound_ended : (x : Said ℕ) → x ≡ w.ends → Sound s lead off ts d (ended (null_count map off (length ts)) x w.starts d)
    sound_ended (refused k) e = sound_stopped k
    sound_ended (gives used) e = record {
      untouched = λ k q. absurd (gives_not_refused q);
      past_stays = drop_at w.starts (drop (length w.starts) d) (length ts) (all used e) ∙ ap (λ (n : ℕ). drop n d) (all used e);
      few_nulls = λ c q. rw (used_is (null_count map off (length ts)) used c q).0 (count_few map off (length ts));
      used_within = λ c q. rw (used_is (null_count map off (length ts)) used c q).1
          (walk-within s map off ts 0 (lead + map_size (length ts) off) (length ts) used fits (ends used e));
      begins = λ c q. rw ((used_is (null_count map off (length ts)) used c q).1, edges_are used e, is)
          (walk_first s map off ts 0 (lead + map_size (length ts) off) (length ts) used (ends used e));
      goes_on = λ c q j h. rw (
        (used_is (null_count map off (length ts)) used c q).1,
        edges_are used e,
        get_or-append w.starts
            (drop (length w.starts) d) 0 j (rw (all used e) h),
        is,
      )
          (rw zero-add at (walk-goes s map off ts 0 (lead + map_size (length ts) off) (length ts) used j (ends used e) h));
    }

  sound_values : Sound s lead off ts d (values_of s lead off ts d)
  unfolding values_of
  sound_values =
      let w = walk s (map_of s lead off ts) off ts 0 (lead + map_size (length ts) off) (length ts) in
      sound_fits (leb (lead + map_size (length ts) off) (length s)) _ _
      (λ t. sound_ended (leb-true (lead + map_size (length ts) off) (length s) t) w refl w.ends refl) (sound_stopped 8)

  sound_listed : (us : List ℕ) (e : RowEnd) → Sound s lead off ts d e → Sound s lead off ts d (listed ts us d e)
  sound_listed us e q =
      sound_if (eqb (length ts) 0) _ _ (sound_stopped 13)
      (sound_if (ltb 4096 (length ts)) _ _ (sound_stopped 13)
      (sound_if (eqb (length ts) (length us)) _ _ (sound_if (ltb (length d) (length ts)) _ _ (sound_stopped 6) q) (sound_stopped 13)))

-- ---- the two entries

pub row_sound : (s ts us d : List ℕ) → Sound s 1 2 ts d (row_of s ts us d)
unfolding row_of
row_sound s ts us d =
    sound_listed s 1 2 ts d us _
    (sound_if s 1 2 ts d (eqb (length s) 0) _ _ (sound_stopped s 1 2 ts d 8)
    (sound_if s 1 2 ts d (eqb (get_or s 0 0) 0) _ _ (sound_values s 1 2 ts d) (sound_stopped s 1 2 ts d 12)))

pub params_sound : (s ts us d : List ℕ) → Sound s 0 0 ts d (params_of s ts us d)
unfolding params_of
params_sound s ts us d = sound_listed s 0 0 ts d us _ (sound_values s 0 0 ts d)

-- in a row or list that is read, the value of every column that is not NULL is there: its reader, whatever the sign, goes
-- from the column's start on to the next one's
module _ (s : List ℕ) (lead off : ℕ) (ts d : List ℕ) (e : RowEnd) (sound : Sound s lead off ts d e) (c : Columns) (read : e.said ≡ gives c)
    (j : ℕ) (h : j < length ts) where
  pub value_there : (null_bit (map_of s lead off ts) off j ≡ 1 → ⊥) → (u : Bool)
      → next_of (bin_at s (get_or e.starts j 0) (get_or ts j 0) u) ≡ gives (get_or (edges e.starts c.used (length ts)) (j + 1) 0)
  unfolding col_at
  value_there some u =
      next_skip s (get_or e.starts j 0) (get_or ts j 0) u ∙ (simp (ne_eqb (null_bit (map_of s lead off ts) off j) 1 some) at (sound.goes_on c read j h))

  -- a NULL column: "its start is where the next value would start"
  pub null_there : null_bit (map_of s lead off ts) off j ≡ 1 → get_or e.starts j 0 ≡ get_or (edges e.starts c.used (length ts)) (j + 1) 0
  unfolding col_at
  null_there null = gives_same (simp (eq-eqb (null_bit (map_of s lead off ts) off j) 1 null) at (sound.goes_on c read j h))
