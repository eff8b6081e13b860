-- What is written is read back, at any place before any tail; a value takes the bytes that it needs; a reader goes on where
-- a skip does. Each law has the column types that bring the value back and the sign they are read with.
use Rattle.wire.specs.declared.Text.{Text}
use Rattle.wire.specs.declared.Parsed.{Parsed}
use Rattle.refusal.specs.declared.Refusal.{Refusal}
use Rattle.std.specs.Prelude.{◌≡◌, refl, Bool, true, false, ℕ, ◌+◌, ◌-◌, ◌≤◌, ◌<◌, ◌^◌, max, leb, ltb, ℤ, pos, negsuc, Float, take, drop, Result, Option, Some, None}
use Rattle.std.proofs.Math.Path.{sym, ap}
use Rattle.std.proofs.Common.{◌∙◌, arith, add-zero, take_at, drop_at, length-take-le, get_or-drop, drop-drop}
use mathlib.Core.List.{List, ◌∷◌, ◌++◌, append_assoc}
use borrow.Author.Tests.{lt-ltb, le-ltb, le-leb, lt-leb}
use Rattle.std.proofs.Math.Dec.{T}
use Rattle.std.specs.Int.Signed.{mag}
use Rattle.std.specs.Float.{nan, Format}
use Rattle.std.specs.Float.Ieee.{binary32, binary64, fits, is_nan, nan_bits, to_bits}
use Rattle.std.specs.Float.Ieee.Bits.{nan_bits_is, nan_bits_above, of_bits-to_bits, to_bits-lt}
use Rattle.std.proofs.Math.ListN.{length, get_or, length-append, length-drop}
use Rattle.refusal.specs.Said.{Said, gives, refused, check, and_then, said_of, gives_same}
use Rattle.wire.specs.Le.{le_of, le_at, le_bytes}
use Rattle.wire.specs.LeLaws.{le_length}
use Rattle.wire.specs.LenEnc.{byte_str_at, str_bytes, len_bytes, part_of}
use Rattle.wire.specs.LenEncLaws.{le_back, str_back, part_back, part_fits, within-fits, str_within, byte_str_within}
use Rattle.wire.specs.Room.{Wrote, length_of}
use Rattle.wire.specs.RoomLaws.{wrote_left}
use Rattle.duration.specs.Time.{time_of}
use Rattle.duration.specs.declared.Time.{Time}
use Rattle.value.specs.Kinds.{kind_of}
use Rattle.value.specs.Numbers.{twos, pattern_of, plain_of, int_of, float_of, double_of}
use Rattle.value.specs.Dates.{date_of, date_fields, date_length, time_fields, time_length}
use Rattle.value.specs.DateLaws.{date_body, time_body, DateFits, TimeFits, time_back, date_fields_back, time_fields_back}
use Rattle.value.specs.Read.{body_of, means_of, value_in, fixed, kind_at, typed, bin_at, end_in, skip_at}
use Rattle.value.specs.Write.{value_bytes}
use Rattle.value.specs.declared.Date.{Date}
use Rattle.value.specs.declared.Kind.{Kind}
use Rattle.value.specs.declared.Kind.TheVariants as K
use Rattle.value.specs.declared.Value.{Value}
use Rattle.value.specs.declared.Value.TheVariants as Of

-- a value that was read, and the place behind it
abbrev pub read : Value → ℕ → Said (Parsed Value)
read v n = gives (record { value = v; next = n })

-- ---- where a value ends

-- within the bytes, or where it starts if it has none
pub body_end : (k : Kind) (s : List ℕ) (at : ℕ) (p : Text) → body_of k s at ≡ gives p → p.at + p.len ≤ max at (length s)
body_end K.Str s at p e = omega (arith, str_within s at p e)
body_end K.One s at p e = omega (arith, within-fits s at 1 p e)
body_end K.Two s at p e = omega (arith, within-fits s at 2 p e)
body_end K.Four s at p e = omega (arith, within-fits s at 4 p e)
body_end K.Eight s at p e = omega (arith, within-fits s at 8 p e)
body_end K.Single s at p e = omega (arith, within-fits s at 4 p e)
body_end K.Wide s at p e = omega (arith, within-fits s at 8 p e)
body_end K.Nil s at p e =
    let q : record { at = at; len = 0 } ≡ p = gives_same e in
    rw (← q) (omega arith)
body_end K.Day s at p e = omega (arith, byte_str_within s at p e)
body_end K.Clock s at p e = omega (arith, byte_str_within s at p e)

-- ---- where a reader goes on

-- whatever the sign: where the skip does, with the same refusals
pub next_skip : (s : List ℕ) (at t : ℕ) (u : Bool) → and_then (bin_at s at t u) (λ g. gives g.next) ≡ skip_at s at t
unfolding bin_at skip_at
next_skip s at t u = by_kind (kind_of t)
  where
    by_body : (b : Said Text) (f : ℕ → ℕ → Value) → and_then (value_in f b) (λ g. gives g.next) ≡ end_in b
    by_body (gives p) f = refl
    by_body (refused k) f = refl

    by_kind : (k : Option Kind) → and_then (typed k (λ j. kind_at j u s at)) (λ g. gives g.next) ≡ typed k (λ j. end_in (body_of j s at))
    by_kind (Some k) = by_body (body_of k s at) (means_of k u s)
    by_kind None = refl

-- ---- a value takes the bytes that it needs

needed_by : (bs : List ℕ) (n : ℕ) (b : Bool) → gives n ≡ check b 6 (gives (length bs)) → n ≡ length bs
needed_by bs n true e = cc e
needed_by bs n false e = let z : ◌≡◌ {A = ℕ} 0 1 = cc e in absurd (omega arith)

-- what `bin_len` answers is what `serialize` goes on by, and what must be there
pub takes_needed : (src : List ℕ) (v : Value) (n : ℕ) (d : List ℕ) (at : ℕ) (r : Result ℕ Refusal) (d' : List ℕ) → gives n ≡ length_of (value_bytes src v)
    → Wrote (value_bytes src v) d at r d' → said_of r ≡ check (leb (at + n) (length d)) 6 (gives (at + n))
takes_needed src v n d at r d' e w = rw (needed_by (value_bytes src v) n (ltb (length (value_bytes src v)) (2 ^ 64)) e) w.said

-- ---- numbers

-- two's complement there and back
pub twos_back : (z : ℤ) → mag z < 9223372036854775808 → twos 9223372036854775808 (pattern_of z) ≡ z
unfolding twos
twos_back (pos n) h = simp (lt-ltb n 9223372036854775808 h)
twos_back (negsuc k) h =
    let e : 9223372036854775808 + 9223372036854775808 - 1 - (18446744073709551615 - k) ≡ k = omega arith in
    simp (le-ltb (18446744073709551615 - k) 9223372036854775808 (omega arith)) (ap negsuc e)

pattern_lt : (z : ℤ) → mag z < 9223372036854775808 → pattern_of z < 18446744073709551616
pattern_lt (pos n) h = omega arith
pattern_lt (negsuc k) h = omega arith

-- a float's bits are no NaN's, unless it is the NaN
bits_held : (f : Format) (x : Float) → T (fits f x) → is_nan x ≡ false → nan_bits f (to_bits f x) ≡ false
bits_held f x h e = nan_bits_is f (to_bits f x) ∙ ap is_nan (of_bits-to_bits f x h) ∙ e

quiet_single : nan_bits binary32 0x7FC0_0000 ≡ true
quiet_single = nan_bits_above binary32 0x7FC0_0000

quiet_wide : nan_bits binary64 0x7FF8_0000_0000_0000 ≡ true
quiet_wide = nan_bits_above binary64 0x7FF8_0000_0000_0000

-- ---- at any place, before any tail
module _ (s : List ℕ) (at : ℕ) (src t : List ℕ) where
  -- k bytes of a number are there, and are the number
  room : (k v : ℕ) → 1 ≤ k → drop at s ≡ le_bytes k v ++ t → at + k ≤ length s
  room k v l e = omega (arith, length-drop at s, ap length e, length-append (le_bytes k v) t, le_length k v)

  number : (k v : ℕ) → v < 256 ^ k → drop at s ≡ le_bytes k v ++ t → le_at s at k ≡ v
  number k v h e = ap le_of (ap (take k) e ∙ take_at (le_bytes k v) t k (le_length k v)) ∙ le_back k v h

  pub fixed_back : (k v : ℕ) (f : ℕ → ℕ → Value) → 1 ≤ k → v < 256 ^ k → drop at s ≡ le_bytes k v ++ t → fixed s at k f ≡ read (f k v) (at + k)
  fixed_back k v f l h e =
      simp (le-leb (at + k) (length s) (room k v l e)) (ap (λ (x : ℕ). read (f k x) (at + k)) (number k v h e))

  -- NULL, by type 6
  pub null_back : (u : Bool) → bin_at s at 6 u ≡ read Of.NULL at
  unfolding bin_at kind_of
  null_back u = ap (read Of.NULL) (add-zero at)

  -- Int, by type 8, signed
  pub int_back : (z : ℤ) → mag z < 9223372036854775808 → drop at s ≡ value_bytes src (Of.Int z) ++ t → bin_at s at 8 false ≡ read (Of.Int z) (at + 8)
  unfolding bin_at kind_of value_bytes int_of
  int_back z h e = fixed_back 8 (pattern_of z) (int_of false) (omega arith) (pattern_lt z h) e ∙ ap (λ (y : ℤ). read (Of.Int y) (at + 8)) (twos_back z h)

  -- UInt, by type 8, unsigned: the signed kind below 2^63, the unsigned from there on
  uint_plain : (n : ℕ) → n < 18446744073709551616 → drop at s ≡ value_bytes src (Of.UInt n) ++ t → bin_at s at 8 true ≡ read (plain_of n) (at + 8)
  unfolding bin_at kind_of value_bytes int_of
  uint_plain n h e = fixed_back 8 n (int_of true) (omega arith) h e

  pub uint_back : (n : ℕ) → 9223372036854775808 ≤ n → n < 18446744073709551616 → drop at s ≡ value_bytes src (Of.UInt n) ++ t
      → bin_at s at 8 true ≡ read (Of.UInt n) (at + 8)
  uint_back n l h e = Rattle.value.specs.ValueLaws.uint_plain s at src t n h e ∙ simp (lt-leb n 9223372036854775807 (omega arith))

  pub uint_as_int : (n : ℕ) → n < 9223372036854775808 → drop at s ≡ value_bytes src (Of.UInt n) ++ t
      → bin_at s at 8 true ≡ read (Of.Int (pos n)) (at + 8)
  uint_as_int n h e = Rattle.value.specs.ValueLaws.uint_plain s at src t n (omega arith) e ∙ simp (le-leb n 9223372036854775807 (omega arith))

  -- Float, by type 4: any f32 that is no NaN; a NaN's pattern; and a caller's own NaN, which has the quiet pattern
  single : (n : ℕ) (u : Bool) → n < 4294967296 → drop at s ≡ le_bytes 4 n ++ t → bin_at s at 4 u ≡ read (float_of n) (at + 4)
  unfolding bin_at kind_of
  single n u h e = fixed_back 4 n (λ (k x : ℕ). float_of x) (omega arith) h e

  pub float_back : (x : Float) (u : Bool) → T (fits binary32 x) → is_nan x ≡ false → drop at s ≡ value_bytes src (Of.Float x) ++ t
      → bin_at s at 4 u ≡ read (Of.Float x) (at + 4)
  unfolding value_bytes float_of
  float_back x u h i e =
      single (to_bits binary32 x) u (to_bits-lt binary32 x h) e
      ∙ simp (bits_held binary32 x h i) (ap (λ (y : Float). read (Of.Float y) (at + 4)) (of_bits-to_bits binary32 x h))

  pub nan_float_back : (n : ℕ) (u : Bool) → n < 4294967296 → nan_bits binary32 n ≡ true → drop at s ≡ value_bytes src (Of.NanFloat n) ++ t
      → bin_at s at 4 u ≡ read (Of.NanFloat n) (at + 4)
  unfolding value_bytes float_of
  nan_float_back n u h i e = single n u h e ∙ simp i

  pub own_nan_float : (u : Bool) → drop at s ≡ value_bytes src (Of.Float nan) ++ t → bin_at s at 4 u ≡ read (Of.NanFloat 0x7FC0_0000) (at + 4)
  unfolding value_bytes float_of to_bits
  own_nan_float u e = single 0x7FC0_0000 u (omega arith) e ∙ simp quiet_single

  -- Double, by type 5
  wide : (n : ℕ) (u : Bool) → n < 18446744073709551616 → drop at s ≡ le_bytes 8 n ++ t → bin_at s at 5 u ≡ read (double_of n) (at + 8)
  unfolding bin_at kind_of
  wide n u h e = fixed_back 8 n (λ (k x : ℕ). double_of x) (omega arith) h e

  pub double_back : (x : Float) (u : Bool) → T (fits binary64 x) → is_nan x ≡ false → drop at s ≡ value_bytes src (Of.Double x) ++ t
      → bin_at s at 5 u ≡ read (Of.Double x) (at + 8)
  unfolding value_bytes double_of
  double_back x u h i e =
      wide (to_bits binary64 x) u (to_bits-lt binary64 x h) e
      ∙ simp (bits_held binary64 x h i) (ap (λ (y : Float). read (Of.Double y) (at + 8)) (of_bits-to_bits binary64 x h))

  pub nan_double_back : (n : ℕ) (u : Bool) → n < 18446744073709551616 → nan_bits binary64 n ≡ true → drop at s ≡ value_bytes src (Of.NanDouble n) ++ t
      → bin_at s at 5 u ≡ read (Of.NanDouble n) (at + 8)
  unfolding value_bytes double_of
  nan_double_back n u h i e = wide n u h e ∙ simp i

  pub own_nan_double : (u : Bool) → drop at s ≡ value_bytes src (Of.Double nan) ++ t → bin_at s at 5 u ≡ read (Of.NanDouble 0x7FF8_0000_0000_0000) (at + 8)
  unfolding value_bytes double_of to_bits
  own_nan_double u e = wide 0x7FF8_0000_0000_0000 u (omega arith) e ∙ simp quiet_wide

  -- Bytes, by any of the string types: the part that is answered is the bytes
  pub str_value : (bs : List ℕ) (T : ℕ) (u : Bool) → kind_of T ≡ Some K.Str → length bs < 2 ^ 64 → drop at s ≡ str_bytes bs ++ t
      → bin_at s at T u ≡ read (Of.Bytes (at + length (len_bytes (length bs))) (length bs)) (at + length (str_bytes bs))
  unfolding bin_at
  str_value bs T u k h e =
      let n : at + length (len_bytes (length bs)) + length bs ≡ at + length (str_bytes bs) = simp length-append (omega arith) in
      ap (λ (o : Option Kind). typed o (λ j. kind_at j u s at)) k
      ∙ ap (value_in Of.Bytes) (str_back s at t bs h e)
      ∙ ap (read (Of.Bytes (at + length (len_bytes (length bs))) (length bs))) n

  pub bytes_back : (from len T : ℕ) (u : Bool) → kind_of T ≡ Some K.Str → length (part_of src from len) < 2 ^ 64
      → drop at s ≡ value_bytes src (Of.Bytes from len) ++ t
      → (bin_at s at T u
      ≡ read (Of.Bytes (at + length (len_bytes (length (part_of src from len)))) (length (part_of src from len)))
      (at + length (value_bytes src (Of.Bytes from len))))
      × (part_of s (at + length (len_bytes (length (part_of src from len)))) (length (part_of src from len)) ≡ part_of src from len)
  unfolding value_bytes
  bytes_back from len T u k h e = (str_value (part_of src from len) T u k h e, part_back s at (part_of src from len) t e)

  -- a length byte and so many bytes
  counted : (n : ℕ) (bs : List ℕ) → length bs ≡ n → drop at s ≡ (n ∷ bs) ++ t → byte_str_at s at ≡ gives (record { at = at + 1; len = n })
  unfolding byte_str_at
  counted n bs l e =
      let lead : get_or s at 0 ≡ n = sym (ap (λ (i : ℕ). get_or s i 0) (add-zero at)) ∙ sym (get_or-drop at s 0 0) ∙ ap (λ (x : List ℕ). get_or x 0 0) e in
      let fit : at + 1 + n ≤ length s = omega (arith, length-drop at s, ap length e, length-append (n ∷ bs) t) in
      simp (lt-ltb at (length s) (omega arith), lead, le-leb (at + 1 + n) (length s) fit)

  counted_part : (n : ℕ) (bs : List ℕ) → length bs ≡ n → drop at s ≡ (n ∷ bs) ++ t → part_of s (at + 1) n ≡ bs
  counted_part n bs l e =
      let fit : at + 1 + n ≤ length s = omega (arith, length-drop at s, ap length e, length-append (n ∷ bs) t) in
      part_fits s (at + 1) n fit ∙ ap (take n) (sym (drop-drop 1 at s) ∙ ap (drop 1) e) ∙ take_at bs t n l

  -- Date, by any of the date types
  pub date_back : (d : Date) (T : ℕ) (u : Bool) → kind_of T ≡ Some K.Day → DateFits d → drop at s ≡ value_bytes src (Of.Date d) ++ t
      → bin_at s at T u ≡ read (Of.Date d) (at + 1 + date_length d)
  unfolding bin_at value_bytes
  date_back d T u k l e =
      ap (λ (o : Option Kind). typed o (λ j. kind_at j u s at)) k
      ∙ ap (value_in (means_of K.Day u s)) (counted (date_length d) (take (date_length d) (date_fields d)) (date_body d) e)
      ∙ ap (λ (x : Date). read (Of.Date x) (at + 1 + date_length d))
      (ap date_of (counted_part (date_length d) (take (date_length d) (date_fields d)) (date_body d) e) ∙ date_fields_back d l)

  -- Time, by type 11: all of it, but for the sign of zero
  pub time_back_lem : (x : Time) (u : Bool) → TimeFits x → drop at s ≡ value_bytes src (Of.Time x) ++ t
      → bin_at s at 11 u ≡ read (Of.Time (time_back x)) (at + 1 + time_length x)
  unfolding bin_at kind_of value_bytes
  time_back_lem x u l e =
      ap (value_in (means_of K.Clock u s)) (counted (time_length x) (take (time_length x) (time_fields x)) (time_body x) e)
      ∙ ap (λ (y : Time). read (Of.Time y) (at + 1 + time_length x))
      (ap time_of (counted_part (time_length x) (take (time_length x) (time_fields x)) (time_body x) e) ∙ time_fields_back x l)

-- a value that was written stands at its place, before what stood behind it
pub written_there : (bs d : List ℕ) (at : ℕ) (r : Result ℕ Refusal) (d' : List ℕ) → Wrote bs d at r d' → at + length bs ≤ length d
    → drop at d' ≡ bs ++ drop (at + length bs) d
written_there bs d at r d' w h =
    ap (drop at) (wrote_left w h ∙ append_assoc (take at d) bs (drop (at + length bs) d))
    ∙ drop_at (take at d) (bs ++ drop (at + length bs) d) at (length-take-le at d (omega arith))
