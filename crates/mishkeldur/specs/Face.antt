-- How an answer crosses to C: a status, and lent numbers that hold what was given.
use Rattle.std.specs.Prelude.{◌≡◌, ℕ, ◌+◌, Bool, true, false, cond, List, length, ◌==◌, nat_le}
use Rattle.refusal.specs.Said.{Said, gives, refused}
use Rattle.wire.specs.Room.{patch}

-- "Status: 0 done, else the number of the refusal"
abbrev pub status : {A : Type 0} → Said A → ℕ
status (gives a) = 0
status (refused n) = n

-- what a lent number holds then: f of what was given, and on a refusal what it held
abbrev pub holds : {A B : Type 0} → Said A → (A → B) → B → B
holds (gives a) f x = f a
holds (refused n) f x = x

-- a flag from C: 0 is no, any other number is yes; and to C: 0 or 1
abbrev pub flag : ℕ → Bool
flag n = cond (n == 0) false true

abbrev pub flag_no : Bool → ℕ
flag_no b = cond b 1 0

-- the bytes bs written at a place of d: the status, the buffer then, and the place behind them in a lent number, which held old
pub record Puts (bs d : List ℕ) (at old r : ℕ) (d' : List ℕ) (next' : ℕ) : Type 0 where
  pub status : r ≡ cond (nat_le (at + length bs) (length d)) 0 6
  pub left : d' ≡ cond (nat_le (at + length bs) (length d)) (patch d at bs) d
  pub next : next' ≡ cond (nat_le (at + length bs) (length d)) (at + length bs) old
