-- The binary TIME value, by 01's "Values".
use Rattle.wire.specs.declared.Parsed.{Parsed}
use Rattle.std.specs.Prelude.{ℕ, ◌+◌, List, eqb}
use Rattle.refusal.specs.Said.{Said, gives, and_then}
use Rattle.wire.specs.Fields.{since, just}
use Rattle.wire.specs.LenEnc.{byte_str_at, part_of}
use Rattle.duration.specs.declared.Time.{Time}

-- "Time: 8 or more gives sign (negative only for byte 1), days (4), hour, minute, second; exactly 12 microseconds"
unfoldable pub time_of : List ℕ → Time
time_of b = record {
  neg = eqb (since 8 b 0 1) 1;
  days = since 8 b 1 4;
  hours = since 8 b 5 1;
  minutes = since 8 b 6 1;
  seconds = since 8 b 7 1;
  micros = just 12 b 8 4;
}

-- a length byte, and "all bytes the length names are used up"; 8 where they are not there
unfoldable pub time_at : List ℕ → ℕ → Said (Parsed Time)
time_at s at = and_then (byte_str_at s at) (λ b. gives (record { value = time_of (part_of s b.at b.len); next = b.at + b.len }))
