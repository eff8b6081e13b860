-- The signed duration, by 01's "Duration", in microseconds.
use Rattle.wire.specs.declared.Parsed.{Parsed}
use Rattle.std.specs.Prelude.{ℕ, ◌+◌, ◌*◌, Bool, cond, List, ℤ, pos, neg_ℤ, leb}
use Rattle.refusal.specs.Said.{Said, gives, check, and_then}
use Rattle.duration.specs.Time.{time_at}
use Rattle.duration.specs.declared.Time.{Time}

-- the largest size: "a duration's size exceeds 9,223,372,036,854,775,807 microseconds" is 11
abbrev pub most : ℕ
most = 9223372036854775807

-- "((days·24 + hours)·60 + minutes)·60 + seconds"
abbrev pub seconds_of : Time → ℕ
seconds_of t = ((t.days * 24 + t.hours) * 60 + t.minutes) * 60 + t.seconds

-- "times 1,000,000, plus microseconds inside the sign. Fields are taken as they stand"
abbrev pub size_of : Time → ℕ
size_of t = seconds_of t * 1000000 + t.micros

-- "sign times" a size
abbrev pub signed : Bool → ℕ → ℤ
signed neg n = cond neg (neg_ℤ (pos n)) (pos n)

unfoldable pub duration_of : Time → Said ℤ
duration_of t = check (leb (size_of t) most) 11 (gives (signed t.neg (size_of t)))

-- the duration of the TIME value at a place: the value's refusal, then the duration's
unfoldable pub duration_at : List ℕ → ℕ → Said (Parsed ℤ)
duration_at s at = and_then (time_at s at) (λ t. and_then (duration_of t.value) (λ z. gives (record { value = z; next = t.next })))
