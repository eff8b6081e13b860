-- What the writers of the quoted form promise each other: what bytes become stands at a place, and something has to follow.
use Rattle.std.specs.Prelude.{ℕ, ◌+◌, ◌-◌, ◌%◌, ◌≤◌, ◌<◌, ◌≡◌, Bool, cond, List, ◌++◌, length, take, drop, get_or, eqb}
use Rattle.wire.specs.Room.{patch}
use Rattle.escape.specs.Quote.{behind, body}
use Rattle.escape.specs.declared.Step.{Step}

-- ---- lists to look up what stands behind the backslash

-- that byte, or a point where a byte stands for itself
abbrev pub mark_of : ℕ → ℕ
mark_of b = cond (eqb (behind b) 0) 0x2E (behind b)

-- a list of the marks of all bytes
pub record Marks (l : List ℕ) : Type 0 where
  pub long : length l ≡ 256
  pub right : (b : ℕ) → b < 256 → get_or l b 0 ≡ mark_of b

-- a short list: those that get a backslash, each at its slot, with what stands behind it 32 places on. No other byte finds itself there
pub record Slots (l : List ℕ) : Type 0 where
  pub long : length l ≡ 64
  pub listed : (b : ℕ) → (behind b ≡ 0 → ⊥) → (get_or l (b % 32) 0 ≡ b) × (get_or l (b % 32 + 32) 0 ≡ behind b)
  pub unlisted : (b : ℕ) → behind b ≡ 0 → get_or l (b % 32) 0 ≡ b → ⊥

-- ---- writing

-- the first byte of what a byte becomes in backslash mode, and how many there are
abbrev pub lead_of : ℕ → Bool → ℕ × ℕ
lead_of b escapes = cond escapes (0x5C, 2) (b, 1)

-- xs stands at a place of d, and the byte behind it may be overwritten: with anything behind it, x, that is not empty, the buffer is as if
-- only xs and x had been written
pub record Leads (xs d : List ℕ) (at : ℕ) (d' : List ℕ) : Type 0 where
  pub then : (x : List ℕ) → 0 < length x → at + (length xs + length x) ≤ length d → patch d' (at + length xs) x ≡ patch d at (xs ++ x)

-- what the bytes bs become stands so at a place, and r is the place behind
pub record Leading (m : Bool) (bs d : List ℕ) (at r : ℕ) (d' : List ℕ) : Type 0 where
  pub place : r ≡ at + length (body m bs)
  pub leads : Leads (body m bs) d at d'

-- a turn, from a step on: it comes to a later byte, and has written what those between become
pub record Came (m : Bool) (bs d : List ℕ) (s t : Step) (d' : List ℕ) : Type 0 where
  pub on : s.from < t.from
  pub within : t.from ≤ length bs
  pub leading : Leading m (take (t.from - s.from) (drop s.from bs)) d s.next t.next d'
