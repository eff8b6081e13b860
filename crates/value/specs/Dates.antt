-- Dates and times (01, "Values"): what the bytes behind the length byte mean, and the bytes they are written in.
use Rattle.std.specs.Prelude.{ℕ, ◌+◌, cond, List, [], ◌∷◌, ◌++◌, take, eqb}
use Rattle.wire.specs.Le.{le_bytes}
use Rattle.wire.specs.Fields.{since, just}
use Rattle.duration.specs.declared.Time.{Time}
use Rattle.value.specs.declared.Date.{Date}

-- "4 or more gives year (2), month, day; 7 or more hour, minute, second; exactly 11 microseconds (4)"
unfoldable pub date_of : List ℕ → Date
date_of b = record {
  year = since 4 b 0 2;
  month = since 4 b 2 1;
  day = since 4 b 3 1;
  hour = since 7 b 4 1;
  minutes = since 7 b 5 1;
  seconds = since 7 b 6 1;
  micros = just 11 b 7 4;
}

-- all the fields, in their places
abbrev pub date_fields : Date → List ℕ
date_fields d = le_bytes 2 d.year ++ (d.month ∷ d.day ∷ d.hour ∷ d.minutes ∷ d.seconds ∷ []) ++ le_bytes 4 d.micros

-- a sign byte, and the fields
abbrev pub time_fields : Time → List ℕ
time_fields t = (cond t.neg 1 0 ∷ []) ++ le_bytes 4 t.days ++ (t.hours ∷ t.minutes ∷ t.seconds ∷ []) ++ le_bytes 4 t.micros

-- "the document's lengths, 0, 4, 7, 11 and 0, 8, 12, the shortest that loses nothing": what is left out is zero
unfoldable pub date_length : Date → ℕ
date_length d =
    cond (eqb d.micros 0)
    (cond (eqb (d.hour + d.minutes + d.seconds) 0) (cond (eqb (d.year + d.month + d.day) 0) 0 4) 7)
    11

-- "except that negative zero time writes length 0 and loses its sign"
unfoldable pub time_length : Time → ℕ
time_length t = cond (eqb t.micros 0) (cond (eqb (t.days + t.hours + t.minutes + t.seconds) 0) 0 8) 12

-- the length, and so many bytes of the fields
abbrev pub date_bytes : Date → List ℕ
date_bytes d = date_length d ∷ take (date_length d) (date_fields d)

abbrev pub time_bytes : Time → List ℕ
time_bytes t = time_length t ∷ take (time_length t) (time_fields t)
