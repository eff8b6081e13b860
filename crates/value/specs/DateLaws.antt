-- Laws of dates and times: how long they are written, and that the fields written are the fields read.
use Rattle.std.specs.Prelude.{◌≡◌, refl, Bool, true, false, cond, [], ◌∷◌, ℕ, ◌+◌, ◌≤◌, ◌<◌, eqb, length, take}
use Rattle.std.proofs.Common.{arith, eqb-true, length-append, length-take}
use Rattle.wire.specs.Le.{le_of, le_bytes}
use Rattle.wire.specs.LeLaws.{le_length}
use Rattle.wire.specs.Fields.{since, just}
use Rattle.duration.specs.Time.{time_of}
use Rattle.duration.specs.declared.Time.{Time}
use Rattle.value.specs.Dates.{date_of, date_fields, date_length, time_fields, time_length}
use Rattle.value.specs.declared.Date.{Date}

-- ---- lengths

cond_le : (b : Bool) (x y n : ℕ) → x ≤ n → y ≤ n → cond b x y ≤ n
cond_le true x y n h l = h
cond_le false x y n h l = l

pub date_len_le : (d : Date) → date_length d ≤ 11
unfolding date_length
date_len_le d =
    cond_le (eqb d.micros 0) _ 11 11
    (cond_le (eqb (d.hour + d.minutes + d.seconds) 0) _ 7 11 (cond_le (eqb (d.year + d.month + d.day) 0) 0 4 11 (omega arith) (omega arith))
    (omega arith))
    (omega arith)

pub time_len_le : (t : Time) → time_length t ≤ 12
unfolding time_length
time_len_le t =
    cond_le (eqb t.micros 0) _ 12 12 (cond_le (eqb (t.days + t.hours + t.minutes + t.seconds) 0) 0 8 12 (omega arith) (omega arith)) (omega arith)

pub date_body : (d : Date) → length (take (date_length d) (date_fields d)) ≡ date_length d
date_body d =
    let f : length (date_fields d) ≡ 11 = simp (length-append, le_length) in
    simp length-take (omega (arith, f, date_len_le d))

pub time_body : (t : Time) → length (take (time_length t) (time_fields t)) ≡ time_length t
time_body t =
    let f : length (time_fields t) ≡ 12 = simp (length-append, le_length) in
    simp length-take (omega (arith, f, time_len_le t))

-- ---- the fields written are the fields read

-- a date of fields that fit their types
pub record DateFits (d : Date) : Type 0 where
  pub year : d.year < 65536
  pub micros : d.micros < 4294967296

dated : (d : Date) {y m a h i s u : ℕ} → y ≡ d.year → m ≡ d.month → a ≡ d.day → h ≡ d.hour → i ≡ d.minutes → s ≡ d.seconds → u ≡ d.micros
    → record { year = y; month = m; day = a; hour = h; minutes = i; seconds = s; micros = u } ≡ d
dated d e f g h i j k = rw (e, f, g, h, i, j, k)

date_by : (d : Date) → DateFits d → (a b c : Bool) → eqb d.micros 0 ≡ a → eqb (d.hour + d.minutes + d.seconds) 0 ≡ b → eqb
    (d.year + d.month + d.day) 0 ≡ c
    → date_of (take (cond a (cond b (cond c 0 4) 7) 11) (date_fields d)) ≡ d
unfolding date_of since just le_of le_bytes
date_by d l false b c e f g =
    let y = l.year in
    let u = l.micros in
    dated d (omega arith) (omega arith) (omega arith) (omega arith) (omega arith) (omega arith) (omega arith)
date_by d l true false c e f g =
    let y = l.year in
    let m = eqb-true d.micros 0 e in
    dated d (omega arith) (omega arith) (omega arith) (omega arith) (omega arith) (omega arith) (omega arith)
date_by d l true true false e f g =
    let y = l.year in
    let m = eqb-true d.micros 0 e in
    let h = eqb-true (d.hour + d.minutes + d.seconds) 0 f in
    dated d (omega arith) (omega arith) (omega arith) (omega arith) (omega arith) (omega arith) (omega arith)
date_by d l true true true e f g =
    let m = eqb-true d.micros 0 e in
    let h = eqb-true (d.hour + d.minutes + d.seconds) 0 f in
    let y = eqb-true (d.year + d.month + d.day) 0 g in
    dated d (omega arith) (omega arith) (omega arith) (omega arith) (omega arith) (omega arith) (omega arith)

pub date_fields_back : (d : Date) → DateFits d → date_of (take (date_length d) (date_fields d)) ≡ d
unfolding date_length
date_fields_back d l = date_by d l (eqb d.micros 0) (eqb (d.hour + d.minutes + d.seconds) 0) (eqb (d.year + d.month + d.day) 0) refl refl refl

-- a time of fields that fit their types
pub record TimeFits (t : Time) : Type 0 where
  pub days : t.days < 4294967296
  pub micros : t.micros < 4294967296

-- what comes back of a time: "negative zero time .. loses its sign"
abbrev pub time_back : Time → Time
time_back t =
    record {
      neg = cond (eqb (time_length t) 0) false
          t.neg;
      days = t.days;
      hours = t.hours;
      minutes = t.minutes;
      seconds = t.seconds;
      micros = t.micros;
    }

timed : (t : Time) (n : Bool) {n' : Bool} {d h i s u : ℕ} → n' ≡ n → d ≡ t.days → h ≡ t.hours → i ≡ t.minutes → s ≡ t.seconds → u ≡ t.micros
    → ◌≡◌ {A = Time} (record { neg = n'; days = d; hours = h; minutes = i; seconds = s; micros = u })
    (record { neg = n; days = t.days; hours = t.hours; minutes = t.minutes; seconds = t.seconds; micros = t.micros })
timed t n e f g h i j = rw (e, f, g, h, i, j)

sign_back : (b : Bool) → eqb (le_of (cond b 1 0 ∷ [])) 1 ≡ b
unfolding le_of
sign_back true = refl
sign_back false = refl

time_by : (t : Time) → TimeFits t → (a b : Bool) → eqb t.micros 0 ≡ a → eqb (t.days + t.hours + t.minutes + t.seconds) 0 ≡ b
    → time_of (take (cond a (cond b 0 8) 12) (time_fields t))
    ≡ record {
      neg = cond (eqb (cond a (cond b 0 8) 12) 0) false
          t.neg;
      days = t.days;
      hours = t.hours;
      minutes = t.minutes;
      seconds = t.seconds;
      micros = t.micros;
    }
unfolding time_of since just le_of le_bytes
time_by t l false b e f =
    let d = l.days in
    let u = l.micros in
    timed t t.neg (sign_back t.neg) (omega arith) (omega arith) (omega arith) (omega arith) (omega arith)
time_by t l true false e f =
    let d = l.days in
    let u = eqb-true t.micros 0 e in
    timed t t.neg (sign_back t.neg) (omega arith) (omega arith) (omega arith) (omega arith) (omega arith)
time_by t l true true e f =
    let d = eqb-true (t.days + t.hours + t.minutes + t.seconds) 0 f in
    let u = eqb-true t.micros 0 e in
    timed t false refl (omega arith) (omega arith) (omega arith) (omega arith) (omega arith)

pub time_fields_back : (t : Time) → TimeFits t → time_of (take (time_length t) (time_fields t)) ≡ time_back t
unfolding time_length
time_fields_back t l = time_by t l (eqb t.micros 0) (eqb (t.days + t.hours + t.minutes + t.seconds) 0) refl refl
