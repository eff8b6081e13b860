-- Binary rows and parameter lists, by 01's "Values". s the bytes, ts the types, us the signs, d the lent list of starts.
use Rattle.refusal.specs.declared.Refusal.{Refusal}
use Rattle.std.specs.Prelude.{ℕ, ◌+◌, ◌≡◌, cond, List, length, get_or, take, drop, leb, ltb, eqb, Result}
use Rattle.refusal.specs.Said.{Said, gives, refused, said_of}
use Rattle.row.specs.Nulls.{null_count, map_size}
use Rattle.row.specs.Walk.{walk, over}
use Rattle.row.specs.declared.Columns.{Columns}

-- the answer: "the NULL count and bytes used". The one place that makes it
abbrev pub columns_of : ℕ → ℕ → Columns
columns_of nulls used = record { nulls = nulls; used = used }

-- an answer, and what the list of starts holds then: written where every column is right, and else as it was
pub record RowEnd : Type 0 where
  pub said : Said Columns
  pub starts : List ℕ

abbrev pub stopped : ℕ → List ℕ → RowEnd
stopped k d = record { said = refused k; starts = d }

abbrev pub ended : ℕ → Said ℕ → List ℕ → List ℕ → RowEnd
ended nulls (gives used) l d = record { said = gives (columns_of nulls used); starts = over l d }
ended nulls (refused k) l d = stopped k d

-- a bitmap behind lead bytes, "8 on a short bitmap, then values in column order"
unfoldable pub values_of : (s : List ℕ) (lead off : ℕ) (ts d : List ℕ) → RowEnd
values_of s lead off ts d =
    let w = map_size (length ts) off in
    let map = take w (drop lead s) in
    let cols = walk s map off ts 0 (lead + w) (length ts) in
    cond (leb (lead + w) (length s)) (ended (null_count map off (length ts)) cols.ends cols.starts d) (stopped 8 d)

-- "0 or more than 4,096 columns, or type and sign lists of unequal length": 13; "6 for a list under n"
abbrev pub listed : (ts us d : List ℕ) → RowEnd → RowEnd
listed ts us d e =
    cond (eqb (length ts) 0) (stopped 13 d)
    (cond (ltb 4096 (length ts)) (stopped 13 d)
    (cond (eqb (length ts) (length us)) (cond (ltb (length d) (length ts)) (stopped 6 d) e) (stopped 13 d)))

-- the same tests by their numbers alone: how many columns the lists are for
unfoldable pub lists_at : ℕ → ℕ → ℕ → Said ℕ
lists_at types signs starts =
    cond (eqb types 0) (refused 13)
    (cond (ltb 4096 types) (refused 13)
    (cond (eqb types signs) (cond (ltb starts types) (refused 6) (gives types)) (refused 13)))

-- "Order: 13, 6 for a list under n, 8 on an empty row, 12, 8 on a short bitmap, then values in column order"
unfoldable pub row_of : (s ts us d : List ℕ) → RowEnd
row_of s ts us d =
    listed ts us d
    (cond (eqb (length s) 0) (stopped 8 d)
    (cond (eqb (get_or s 0 0) 0) (values_of s 1 2 ts d) (stopped 12 d)))

-- "A parameter list has no byte 0 in front"
unfoldable pub params_of : (s ts us d : List ℕ) → RowEnd
params_of s ts us d = listed ts us d (values_of s 0 0 ts d)

-- what a call answers and leaves
pub record Rowed (e : RowEnd) (r : Result Columns Refusal) (d : List ℕ) : Type 0 where
  pub said : said_of r ≡ e.said
  pub left : d ≡ e.starts
