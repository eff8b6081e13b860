-- What a line does, over any units (chunks here; frames in W13): it loses, repeats or moves whole ones.
use Rattle.std.specs.Prelude.{ℕ, ◌+◌, ◌<◌, ◌≡◌, ◌≢◌, List, [], ◌∷◌, ◌++◌, length, get_or}

-- the bytes that arrive: unit number j of those written, cs, for each j of a in turn. Any list a is a line: what is not in it is
-- lost, what is twice in it is repeated, what stands elsewhere is moved
unfoldable pub arrived : List (List ℕ) → List ℕ → List ℕ
arrived cs [] = []
arrived cs (j ∷ a) = get_or cs j [] ++ arrived cs a

-- every arrival was written
abbrev pub Real : List (List ℕ) → List ℕ → Type 0
Real cs a = (j : ℕ) → j < length a → get_or a j 0 < length cs

-- none is out of its place
abbrev pub InPlace : List ℕ → Type 0
InPlace a = (j : ℕ) → j < length a → get_or a j 0 ≡ j

-- "the first arrival out of its place is fewer than 256 places off": it is arrival i
pub record Misplaced (a : List ℕ) (i : ℕ) : Type 0 where
  pub arrives : i < length a
  pub before : (j : ℕ) → j < i → get_or a j 0 ≡ j
  pub off : get_or a i 0 ≢ i
  pub late : get_or a i 0 < i + 256
  pub early : i < get_or a i 0 + 256
