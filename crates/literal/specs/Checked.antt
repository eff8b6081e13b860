-- The checker, as one walk over the input: what the bytes mean, or the place of the first byte that no literal could continue with, or the
-- end. Grammar says what a literal is, and MemberLaws that this says yes for those alone.
use Rattle.literal.specs.declared.Bad.{Bad}
use Rattle.std.specs.Prelude.{ℕ, ◌+◌, ◌≡◌, Bool, cond, false, List, [], ◌∷◌, ◌++◌, length, eqb, leb, Result, Ok, Err}
use Rattle.refusal.specs.Number.{number}
use Rattle.wire.specs.Room.{patch}
use Rattle.escape.specs.Quote.{quote, backslash}
use Rattle.escape.specs.Meaning.{escape_means}

pub data Verdict : Type 0 where
  means : List ℕ → Verdict
  bad : ℕ → Verdict

-- a verdict on what stands behind n bytes that mean bs
abbrev pub also : ℕ → List ℕ → Verdict → Verdict
also n bs (means cs) = means (bs ++ cs)
also n bs (bad place) = bad (n + place)

-- behind the opening quote, places counted from there. A quote closes the literal if it is the last byte, and stands for one if another
-- follows it; a backslash escapes the byte behind it, unless NO_BACKSLASH_ESCAPES is on. A byte alone that closes nothing: the end
unfoldable pub inside : (no_backslash : Bool) → List ℕ → Verdict
inside no_backslash [] = bad 0
inside no_backslash (b ∷ []) = cond (eqb b quote) (means []) (bad 1)
inside no_backslash (b ∷ c ∷ s) =
    cond (eqb b quote) (cond (eqb c quote) (also 2 (quote ∷ []) (inside no_backslash s)) (bad 1))
    (cond (cond no_backslash false (eqb b backslash)) (also 2 (escape_means c) (inside no_backslash s))
    (also 1 (b ∷ []) (inside no_backslash (c ∷ s))))

unfoldable pub checked : (no_backslash : Bool) → List ℕ → Verdict
checked no_backslash [] = bad 0
checked no_backslash (b ∷ s) = cond (eqb b quote) (also 1 [] (inside no_backslash s)) (bad 0)

-- ---- what an entry answers

-- how many bytes the literal means; or the number of the refusal, with a place
pub data Judged : Type 0 where
  fine : ℕ → Judged
  refused : (number place : ℕ) → Judged

abbrev pub said : Result ℕ Bad → Judged
said (Ok n) = fine n
said (Err b) = refused (number b.why) b.place

-- "15, bad literal, with the place"
abbrev pub counted : Verdict → Judged
counted (means bs) = fine (length bs)
counted (bad place) = refused 15 place

-- "tested before 6"; no room is at no place of the input: 0
abbrev pub answered : Verdict → List ℕ → Judged
answered (means bs) d = cond (leb (length bs) (length d)) (fine (length bs)) (refused 6 0)
answered (bad place) d = refused 15 place

-- the buffer: the bytes that the literal means at its front, and behind them what was there; a refused call changes no byte
abbrev pub leaves : Verdict → List ℕ → List ℕ
leaves (means bs) d = cond (leb (length bs) (length d)) (patch d 0 bs) d
leaves (bad place) d = d

-- an entry's answer, and what it leaves in the buffer
pub record Meant (v : Verdict) (d : List ℕ) (r : Result ℕ Bad) (d' : List ℕ) : Type 0 where
  pub tells : said r ≡ answered v d
  pub left : d' ≡ leaves v d
