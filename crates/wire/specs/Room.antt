-- What a writer of some bytes answers, and what it leaves in a lent buffer. Every writer of every room has this one contract.
use Rattle.refusal.specs.declared.Refusal.{Refusal}
use Rattle.std.specs.Prelude.{ℕ, ◌+◌, ◌^◌, ◌≡◌, cond, List, ◌++◌, length, take, drop, leb, ltb, Result}
use Rattle.refusal.specs.Said.{Said, gives, check, said_of}

-- the buffer d with bs at a place: "what lies past the written part of any lent buffer stays", and what lies before it
abbrev pub patch : List ℕ → ℕ → List ℕ → List ℕ
patch d at bs = take at d ++ bs ++ drop (at + length bs) d

-- the bytes bs written at a place of d; where they don't fit, 6 and no byte changed
pub record Wrote (bs d : List ℕ) (at : ℕ) (r : Result ℕ Refusal) (d' : List ℕ) : Type 0 where
  pub said : said_of r ≡ check (leb (at + length bs) (length d)) 6 (gives (at + length bs))
  pub left : d' ≡ cond (leb (at + length bs) (length d)) (patch d at bs) d

-- how many bytes bs are, for a caller who asks before it writes them; where no usize holds the number, no buffer holds them: 6
abbrev pub length_of : List ℕ → Said ℕ
length_of bs = check (ltb (length bs) (2 ^ 64)) 6 (gives (length bs))
