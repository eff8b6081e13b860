-- What the bytes of a number mean, and the bytes that a number is written in: integers over the width, floats by their bits.
use Rattle.std.specs.Prelude.{ℕ, ◌+◌, ◌*◌, ◌-◌, ◌^◌, Bool, cond, leb, ltb, ℤ, pos, negsuc}
use Rattle.std.specs.Float.{binary32, binary64}
use Rattle.std.specs.Float.Ieee.{of_bits, nan_bits}
use Rattle.value.specs.declared.Value.{Value}
use Rattle.value.specs.declared.Value.TheVariants as Of

-- two's complement: the number of a pattern x at the width whose sign bit weighs half; negsuc k is -(k+1)
unfoldable pub twos : ℕ → ℕ → ℤ
twos half x = cond (ltb x half) (pos x) (negsuc (half + half - 1 - x))

-- the other way round, at 64 bits
abbrev pub pattern_of : ℤ → ℕ
pattern_of (pos n) = n
pattern_of (negsuc k) = 18446744073709551615 - k

-- "the unsigned kind only above 9,223,372,036,854,775,807"
abbrev pub plain_of : ℕ → Value
plain_of x = cond (leb x 9223372036854775807) (Of.Int (pos x)) (Of.UInt x)

-- "Integers are two's complement unless the column is unsigned": the number x of k bytes
unfoldable pub int_of : Bool → ℕ → ℕ → Value
int_of unsigned k x = cond unsigned (plain_of x) (Of.Int (twos (2 ^ (8 * k - 1)) x))

-- "Floats keep their bits, NaN included": a NaN's bits stand in a case of their own
unfoldable pub float_of : ℕ → Value
float_of n = cond (nan_bits binary32 n) (Of.NanFloat n) (Of.Float (of_bits binary32 n))

unfoldable pub double_of : ℕ → Value
double_of n = cond (nan_bits binary64 n) (Of.NanDouble n) (Of.Double (of_bits binary64 n))
