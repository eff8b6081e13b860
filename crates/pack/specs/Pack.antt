-- Rows packed into statements, by the request of that name: a planner and a judge. A row is its length, a proposal a list of numbers.
use Rattle.refusal.specs.declared.Refusal.{Refusal}
use Rattle.std.specs.Prelude.{ℕ, ◌+◌, ◌-◌, ◌≤◌, ◌<◌, ◌≡◌, Bool, true, false, cond, not, ◌&&◌, ◌||◌, length, take, drop, leb, ltb, Result}
use mathlib.Core.List.{List, [], ◌∷◌, flatten}
use Rattle.refusal.specs.Said.{Said, gives, refused, check, said_of}
use Rattle.wire.specs.Room.{patch}

-- "row lengths (u32, up to 8,192 of them)"
abbrev pub most_rows : ℕ
most_rows = 8192

abbrev pub sum : List ℕ → ℕ
sum [] = 0
sum (r ∷ rs) = r + sum rs

-- "a fixed overhead per statement, one separator byte between rows": the bytes of a statement of these rows
abbrev pub size : (overhead : ℕ) → List ℕ → ℕ
size o rows = o + sum rows + (length rows - 1)

-- "a limit": whether one statement holds these rows
abbrev pub fits : (overhead limit : ℕ) → List ℕ → Bool
fits o limit rows = leb (size o rows) limit

-- ---- a proposal: "a list of numbers, each the row after a group's last", of any length and content

-- what a list of groups is proposed by, if its first row is number `at`
unfoldable pub ends : (at : ℕ) → List (List ℕ) → List ℕ
ends at [] = []
ends at (g ∷ gs) = (at + length g) ∷ ends (at + length g) gs

-- of every one in a list
abbrev pub All : {A : Type 0} → (A → Type 0) → List A → Type 0
All P [] = Unit {0}
All P (a ∷ l) = P a × All P l

-- "accepts a proposal exactly if every row is in exactly one group, no group is empty and every group fits", the rows "keeping order"
pub record Accepted (o limit : ℕ) (rows proposal : List ℕ) : Type 0 where
  pub groups : List (List ℕ)
  pub whole : flatten groups ≡ rows
  pub filled : All (λ (g : List ℕ). 0 < length g) groups
  pub fit : All (λ (g : List ℕ). size o g ≤ limit) groups
  pub said : ends 0 groups ≡ proposal

-- ---- the judge

-- the same as a test: the rows that are left begin with row `at`, and the next group is said to end before row e
unfoldable pub grouped : (o limit at : ℕ) (rows : List ℕ) (e : ℕ) → Bool
grouped o limit at rows e = ltb at e && (leb (e - at) (length rows) && fits o limit (take (e - at) rows))

unfoldable pub accepts : (o limit at : ℕ) (rows proposal : List ℕ) → Bool
accepts o limit at [] [] = true
accepts o limit at (r ∷ rs) [] = false
accepts o limit at rows (e ∷ es) = grouped o limit at rows e && accepts o limit e (drop (e - at) rows) es

-- "The judge answers 17 too; a row that is too long is simply a no"
unfoldable pub judged : (o limit : ℕ) (rows proposal : List ℕ) → Said Bool
judged o limit rows proposal = check (leb (length rows) most_rows) 17 (gives (accepts o limit 0 rows proposal))

-- ---- the planner

-- a row joins the open group, which has `used` bytes and so far ends before row `at`, while it fits; else it begins the next
unfoldable pub plan_from : (o limit used at : ℕ) → List ℕ → List ℕ
plan_from o limit used at [] = at ∷ []
plan_from o limit used at (r ∷ rs) =
    cond (leb (used + 1 + r) limit) (plan_from o limit (used + 1 + r) (at + 1) rs) (at ∷ plan_from o limit (o + r) (at + 1) rs)

-- "where to cut, keeping order"; "No rows gives no groups"
unfoldable pub plan : (o limit : ℕ) → List ℕ → List ℕ
plan o limit [] = []
plan o limit (r ∷ rs) = plan_from o limit (o + r) 1 rs

-- "some row plus the overhead exceeds the limit"
unfoldable pub too_long : (o limit : ℕ) → List ℕ → Bool
too_long o limit [] = false
too_long o limit (r ∷ rs) = ltb limit (r + o) || too_long o limit rs

-- "order 17, 16, 6": the number of groups, or the refusal's; 6 "exactly when the lent list is shorter than the number of groups"
unfoldable pub planned : (o limit : ℕ) (rows d : List ℕ) → Said ℕ
planned o limit rows d =
    check (leb (length rows) most_rows) 17
    (check (not (too_long o limit rows)) 16
    (check (leb (length (plan o limit rows)) (length d)) 6 (gives (length (plan o limit rows)))))

-- the lent list then: the ends in its front, what lies past them as it was; "and then nothing is written"
abbrev pub leaves : Said ℕ → (ends d : List ℕ) → List ℕ
leaves (gives n) p d = patch d 0 p
leaves (refused k) p d = d

-- what a call of the planner answers and leaves
pub record Plans (o limit : ℕ) (rows d : List ℕ) (r : Result ℕ Refusal) (d' : List ℕ) : Type 0 where
  pub said : said_of r ≡ planned o limit rows d
  pub left : d' ≡ leaves (planned o limit rows d) (plan o limit rows) d
