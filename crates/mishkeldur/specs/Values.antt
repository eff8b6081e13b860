-- What a value, a session record and a variable are to C.
use Rattle.wire.specs.declared.Text.{Text}
use Rattle.std.specs.Prelude.{ℕ, Bool, cond, List, ℤ, ◌==◌, to_bits}
use Rattle.std.specs.Float.{binary32, binary64}
use Rattle.wire.specs.LenEnc.{part_of}
use Rattle.duration.specs.declared.Time.{Time}
use Rattle.value.specs.Dates.{date_of}
use Rattle.value.specs.declared.Date.{Date}
use Rattle.value.specs.declared.Value.{Value}
use Rattle.value.specs.declared.Value.TheVariants as Of
use Rattle.row.specs.declared.Side.{Side}
use Rattle.row.specs.declared.Side.TheVariants.{ServerSide, ClientSide}
use Rattle.session.specs.Record.{Found, end, pair}
use Rattle.session.specs.declared.SystemVariable.{SystemVariable}
use Rattle.session.specs.declared.SessionStateChange.{SessionStateChange}
use Rattle.session.specs.declared.SessionStateChange.TheVariants as Change

-- ---- a value: its kind, and in the lent numbers what that kind has; the others stay

abbrev pub kind_no : Value → ℕ
kind_no Of.NULL = 0
kind_no (Of.Bytes at len) = 1
kind_no (Of.Int z) = 2
kind_no (Of.UInt n) = 3
kind_no (Of.Float x) = 4
kind_no (Of.NanFloat n) = 4
kind_no (Of.Double x) = 5
kind_no (Of.NanDouble n) = 5
kind_no (Of.Date d) = 6
kind_no (Of.Time t) = 7

-- a signed integer
abbrev pub integer_of : Value → ℤ → ℤ
integer_of (Of.Int z) old = z
integer_of Of.NULL old = old
integer_of (Of.Bytes at len) old = old
integer_of (Of.UInt n) old = old
integer_of (Of.Float x) old = old
integer_of (Of.NanFloat n) old = old
integer_of (Of.Double x) old = old
integer_of (Of.NanDouble n) old = old
integer_of (Of.Date d) old = old
integer_of (Of.Time t) old = old

-- an unsigned integer, and a float by its bits, NaN included
abbrev pub bits_of : Value → ℕ → ℕ
bits_of (Of.UInt n) old = n
bits_of (Of.Float x) old = to_bits binary32 x
bits_of (Of.NanFloat n) old = n
bits_of (Of.Double x) old = to_bits binary64 x
bits_of (Of.NanDouble n) old = n
bits_of Of.NULL old = old
bits_of (Of.Bytes at len) old = old
bits_of (Of.Int z) old = old
bits_of (Of.Date d) old = old
bits_of (Of.Time t) old = old

-- a string's place and length
abbrev pub place_of : Value → ℕ → ℕ
place_of (Of.Bytes at len) old = at
place_of Of.NULL old = old
place_of (Of.Int z) old = old
place_of (Of.UInt n) old = old
place_of (Of.Float x) old = old
place_of (Of.NanFloat n) old = old
place_of (Of.Double x) old = old
place_of (Of.NanDouble n) old = old
place_of (Of.Date d) old = old
place_of (Of.Time t) old = old

abbrev pub len_of : Value → ℕ → ℕ
len_of (Of.Bytes at len) old = len
len_of Of.NULL old = old
len_of (Of.Int z) old = old
len_of (Of.UInt n) old = old
len_of (Of.Float x) old = old
len_of (Of.NanFloat n) old = old
len_of (Of.Double x) old = old
len_of (Of.NanDouble n) old = old
len_of (Of.Date d) old = old
len_of (Of.Time t) old = old

-- ---- dates and times by their fields

-- the date in the bytes behind a length byte
abbrev pub date_in : List ℕ → Text → Date
date_in s p = date_of (part_of s p.at p.len)

abbrev pub date_from : (year month day hour minutes seconds micros : ℕ) → Date
date_from year month day hour minutes seconds micros =
    record { year = year; month = month; day = day; hour = hour; minutes = minutes; seconds = seconds; micros = micros }

abbrev pub time_from : Bool → (days hours minutes seconds micros : ℕ) → Time
time_from neg days hours minutes seconds micros =
    record { neg = neg; days = days; hours = hours; minutes = minutes; seconds = seconds; micros = micros }

-- ---- whose bitmap: a row's, or that of parameters

abbrev pub side_of : Bool → Side
side_of params = cond params ClientSide ServerSide

-- ---- a session record: a string's place and length, and whether it is tracked; what its type has not stays

abbrev pub text_place : SessionStateChange → ℕ → ℕ
text_place (Change.Schema t) old = t.at
text_place (Change.Gtids t) old = t.at
text_place (Change.TransactionCharacteristics t) old = t.at
text_place (Change.TransactionState t) old = t.at
text_place (Change.Unsupported t) old = t.at
text_place Change.SystemVariables old = old
text_place (Change.IsTracked b) old = old

abbrev pub text_len : SessionStateChange → ℕ → ℕ
text_len (Change.Schema t) old = t.len
text_len (Change.Gtids t) old = t.len
text_len (Change.TransactionCharacteristics t) old = t.len
text_len (Change.TransactionState t) old = t.len
text_len (Change.Unsupported t) old = t.len
text_len Change.SystemVariables old = old
text_len (Change.IsTracked b) old = old

abbrev pub tracked_no : SessionStateChange → ℕ → ℕ
tracked_no (Change.IsTracked b) old = cond b 1 0
tracked_no Change.SystemVariables old = old
tracked_no (Change.Schema t) old = old
tracked_no (Change.Gtids t) old = old
tracked_no (Change.TransactionCharacteristics t) old = old
tracked_no (Change.TransactionState t) old = old
tracked_no (Change.Unsupported t) old = old

-- the change that a type, a text and a flag make; the text is all of the n bytes lent
unfoldable pub change_of : (kind n : ℕ) → Bool → SessionStateChange
change_of kind n tracked =
    cond (kind == 0) Change.SystemVariables
    (cond (kind == 1) (Change.Schema (record { at = 0; len = n }))
    (cond (kind == 2) (Change.IsTracked tracked)
    (cond (kind == 3) (Change.Gtids (record { at = 0; len = n }))
    (cond (kind == 4) (Change.TransactionCharacteristics (record { at = 0; len = n }))
    (cond (kind == 5) (Change.TransactionState (record { at = 0; len = n }))
    (Change.Unsupported (record { at = 0; len = n })))))))

-- ---- a variable: whether there is one, and a number of it, where there is

abbrev pub found_no : Found → ℕ
found_no end = 0
found_no (pair v) = 1

abbrev pub of_pair : Found → (SystemVariable → ℕ) → ℕ → ℕ
of_pair end f old = old
of_pair (pair v) f old = f v
