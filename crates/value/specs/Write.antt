-- The bytes that a value is written in (01, "Values"). src is what a `Bytes` points into.
use Rattle.std.specs.Prelude.{ℕ, List, []}
use Rattle.std.specs.Float.{binary32, binary64}
use Rattle.std.specs.Float.Ieee.{to_bits}
use Rattle.wire.specs.Le.{le_bytes}
use Rattle.wire.specs.LenEnc.{str_bytes, part_of}
use Rattle.value.specs.Numbers.{pattern_of}
use Rattle.value.specs.Dates.{date_bytes, time_bytes}
use Rattle.value.specs.declared.Value.{Value}
use Rattle.value.specs.declared.Value.TheVariants as Of

-- "NULL nothing, a string with its length, both integer kinds eight bytes, floats their bits"
unfoldable pub value_bytes : List ℕ → Value → List ℕ
value_bytes src Of.NULL = []
value_bytes src (Of.Bytes at len) = str_bytes (part_of src at len)
value_bytes src (Of.Int z) = le_bytes 8 (pattern_of z)
value_bytes src (Of.UInt n) = le_bytes 8 n
value_bytes src (Of.Float x) = le_bytes 4 (to_bits binary32 x)
value_bytes src (Of.NanFloat n) = le_bytes 4 n
value_bytes src (Of.Double x) = le_bytes 8 (to_bits binary64 x)
value_bytes src (Of.NanDouble n) = le_bytes 8 n
value_bytes src (Of.Date d) = date_bytes d
value_bytes src (Of.Time t) = time_bytes t
