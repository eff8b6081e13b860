-- The outcomes of a row, each from what the code has tested.
use Rattle.std.specs.Prelude.{Result, Ok, Err}
use mathlib.Core.Path.{◌≡◌, refl, sym, ap, ◌∙◌}
use mathlib.Core.Bool.{Bool, true, false, cond}
use mathlib.Core.List.{List}
use Prim.Native.Nat.{ℕ, ◌+◌, ◌≤◌, ◌<◌}
use borrow.Author.Tests.{le-leb, lt-leb, eq-eqb, ne_eqb, ltb-false}
use lib.ListN.{length, take, drop, get_or}
use lib.Dec.{eqb, ltb}
use Rattle.refusal.specs.Number.{number}
use Rattle.refusal.specs.Said.{Said, gives, refused, gives_not_refused, said_of}
use Rattle.refusal.specs.declared.Refusal.{Refusal}
use Rattle.refusal.specs.declared.Refusal.TheVariants as N
use Rattle.row.specs.Nulls.{null_count, map_size}
use Rattle.row.specs.Walk.{Walk, walk, Passed}
use Rattle.row.specs.declared.Columns.{Columns}
use Rattle.row.specs.Row.{RowEnd, Rowed, columns_of, stopped, ended, values_of, listed, lists_at, row_of, params_of}

-- an outcome that a definition has by cases
rowed_at : (e e' : RowEnd) (r : Result Columns Refusal) (d : List ℕ) → e ≡ e' → Rowed e' r d → Rowed e r d
rowed_at e e' r d p q = record { said = q.said ∙ ap (λ (x : RowEnd). x.said) (sym p); left = q.left ∙ ap (λ (x : RowEnd). x.starts) (sym p) }

rowed_refused : (k : Refusal) (d : List ℕ) → Rowed (stopped (number k) d) (Err k) d
rowed_refused k d = record { said = refl; left = refl }

-- ---- a bitmap and the values behind it

module _ (s : List ℕ) (lead off : ℕ) (ts d : List ℕ) (size : ℕ) (is-size : size ≡ map_size (length ts) off) where
  pub values_short : length s < lead + size → Rowed (values_of s lead off ts d) (Err N.Short) d
  unfolding values_of
  values_short h = rowed_at _ _ _ _ (rw (← is-size) (simp (lt-leb (lead + size) (length s) h))) (rowed_refused N.Short d)

  module _ (fits : lead + size ≤ length s) (map : List ℕ) (is : map ≡ take size (drop lead s)) where
    abbrev pub cols : Walk
    cols = walk s map off ts 0 (lead + size) (length ts)

    values_walk : values_of s lead off ts d ≡ ended (null_count map off (length ts)) cols.ends cols.starts d
    unfolding values_of
    values_walk = rw (is, ← is-size) (simp (le-leb (lead + size) (length s) fits))

    -- what both passes say
    pub values_read : (used nulls : ℕ) (d' : List ℕ) → Passed cols d (Ok used) d' → nulls ≡ null_count map off (length ts)
        → Rowed (values_of s lead off ts d) (Ok (columns_of nulls used)) d'
    values_read used nulls d' w c = rowed_at _ _ _ _ (values_walk ∙ rw (← w.said, ← c) refl) (record { said = refl; left = w.left })

    pub values_stop : (k : Refusal) → refused (number k) ≡ cols.ends → Rowed (values_of s lead off ts d) (Err k) d
    values_stop k e = rowed_at _ _ _ _ (values_walk ∙ rw (← e) refl) (rowed_refused k d)

-- ---- the tests of the lists

-- what they come to, where the rest would end so
abbrev list_end : List ℕ → RowEnd → Said ℕ → RowEnd
list_end d e (gives n) = e
list_end d e (refused k) = stopped k d

lists_by : (d : List ℕ) (e : RowEnd) (n : ℕ) (a b c f : Bool)
    → cond a (stopped 13 d) (cond b (stopped 13 d) (cond c (cond f (stopped 6 d) e) (stopped 13 d)))
    ≡ list_end d e (cond a (refused 13) (cond b (refused 13) (cond c (cond f (refused 6) (gives n)) (refused 13))))
lists_by d e n true b c f = refl
lists_by d e n false true c f = refl
lists_by d e n false false true true = refl
lists_by d e n false false true false = refl
lists_by d e n false false false f = refl

lists_end : (ts us d : List ℕ) (e : RowEnd) → listed ts us d e ≡ list_end d e (lists_at (length ts) (length us) (length d))
unfolding lists_at
lists_end ts us d e = lists_by d e (length ts) (eqb (length ts) 0) (ltb 4096 (length ts)) (eqb (length ts) (length us)) (ltb (length d) (length ts))

fine_by : (n t l : ℕ) (a b c f : Bool) → ltb 4096 t ≡ b → ltb l t ≡ f
    → gives n ≡ cond a (refused 13) (cond b (refused 13) (cond c (cond f (refused 6) (gives t)) (refused 13))) → (t ≤ 4096) × (t ≤ l)
fine_by n t l true b c f p q e = absurd (gives_not_refused e)
fine_by n t l false true c f p q e = absurd (gives_not_refused e)
fine_by n t l false false true true p q e = absurd (gives_not_refused e)
fine_by n t l false false true false p q e = (ltb-false 4096 t p, ltb-false l t q)
fine_by n t l false false false f p q e = absurd (gives_not_refused e)

pub lists_fine : (r : Result ℕ Refusal) (n t u l : ℕ) → said_of r ≡ lists_at t u l → r ≡ Ok n → (t ≤ 4096) × (t ≤ l)
unfolding lists_at
lists_fine r n t u l e h = fine_by n t l (eqb t 0) (ltb 4096 t) (eqb t u) (ltb l t) refl refl (sym (ap said_of h) ∙ e)

module _ (s ts us d : List ℕ) (l : Result ℕ Refusal) (e : said_of l ≡ lists_at (length ts) (length us) (length d)) where
  lists_are : (x : RowEnd) (l' : Result ℕ Refusal) → l ≡ l' → listed ts us d x ≡ list_end d x (said_of l')
  lists_are x l' h = lists_end ts us d x ∙ ap (list_end d x) (sym e ∙ ap said_of h)

  module _ (k : Refusal) (bad : l ≡ Err k) where
    pub row_lists : Rowed (row_of s ts us d) (Err k) d
    unfolding row_of
    row_lists = rowed_at _ _ _ _ (lists_are _ (Err k) bad) (rowed_refused k d)

    pub params_lists : Rowed (params_of s ts us d) (Err k) d
    unfolding params_of
    params_lists = rowed_at _ _ _ _ (lists_are _ (Err k) bad) (rowed_refused k d)

  module _ (n : ℕ) (good : l ≡ Ok n) where
    pub params_values : (r : Result Columns Refusal) (d' : List ℕ) → Rowed (values_of s 0 0 ts d) r d' → Rowed (params_of s ts us d) r d'
    unfolding params_of
    params_values r d' q = rowed_at _ _ _ _ (lists_are _ (Ok n) good) q

    pub row_empty : length s ≡ 0 → Rowed (row_of s ts us d) (Err N.Short) d
    unfolding row_of
    row_empty h = rowed_at _ _ _ _ (lists_are _ (Ok n) good ∙ simp (eq-eqb (length s) 0 h)) (rowed_refused N.Short d)

    pub row_lead : (length s ≡ 0 → ⊥) → (get_or s 0 0 ≡ 0 → ⊥) → Rowed (row_of s ts us d) (Err N.BadRow) d
    unfolding row_of
    row_lead h b = rowed_at _ _ _ _ (lists_are _ (Ok n) good ∙ simp (ne_eqb (length s) 0 h, ne_eqb (get_or s 0 0) 0 b)) (rowed_refused N.BadRow d)

    pub row_values : (length s ≡ 0 → ⊥) → get_or s 0 0 ≡ 0 → (r : Result Columns Refusal) (d' : List ℕ) → Rowed (values_of s 1 2 ts d) r d' → Rowed (row_of s ts us d) r d'
    unfolding row_of
    row_values h b r d' q = rowed_at _ _ _ _ (lists_are _ (Ok n) good ∙ simp (ne_eqb (length s) 0 h, eq-eqb (get_or s 0 0) 0 b)) q
