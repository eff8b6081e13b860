-- Any two results that a contract of this room allows are equal.
use Rattle.wire.specs.declared.Parsed.{Parsed}
use Rattle.refusal.specs.declared.Refusal.{Refusal}
use Rattle.std.specs.Prelude.{Result, ℤ}
use mathlib.Core.Path.{◌≡◌, sym, ◌∙◌}
use mathlib.Core.List.{List}
use Prim.Native.Nat.{ℕ}
use Rattle.refusal.specs.Said.{said_of, said_same}
use Rattle.duration.specs.Time.{time_at}
use Rattle.duration.specs.Duration.{duration_of, duration_at}
use Rattle.duration.specs.declared.Time.{Time}

-- `read_time`
pub read_time : (s : List ℕ) (at : ℕ) (a b : Result (Parsed Time) Refusal) → said_of a ≡ time_at s at → said_of b ≡ time_at s at → a ≡ b
read_time s at a b e f = said_same a b (e ∙ sym f)

-- `duration_of`
pub duration_of_lem : (t : Time) (a b : Result ℤ Refusal) → said_of a ≡ duration_of t → said_of b ≡ duration_of t → a ≡ b
duration_of_lem t a b e f = said_same a b (e ∙ sym f)

-- `read_duration`
pub read_duration : (s : List ℕ) (at : ℕ) (a b : Result (Parsed ℤ) Refusal) → said_of a ≡ duration_at s at → said_of b ≡ duration_at s at → a ≡ b
read_duration s at a b e f = said_same a b (e ∙ sym f)
