-- What the verdict on a literal is to C: a status, the number of bytes meant, which is written on 0 alone, and the place, on 15 alone.
use Rattle.std.specs.Prelude.{◌≡◌, ℕ, cond, ◌==◌}
use Rattle.literal.specs.Checked.{Judged, fine, refused}

abbrev pub judged_status : Judged → ℕ
judged_status (fine n) = 0
judged_status (refused number place) = number

abbrev pub judged_len : Judged → ℕ → ℕ
judged_len (fine n) old = n
judged_len (refused number place) old = old

-- 6 is at no place of the input, so it leaves the place as it was
abbrev pub judged_place : Judged → ℕ → ℕ
judged_place (fine n) old = old
judged_place (refused number place) old = cond (number == 15) place old

pub record Judges (j : Judged) (oldLen oldPlace r len' place' : ℕ) : Type 0 where
  pub status : r ≡ judged_status j
  pub len : len' ≡ judged_len j oldLen
  pub place : place' ≡ judged_place j oldPlace
