-- Numbers: two's complement over the width, and floats by their bits over the format.
use mathlib.Core.Path.{◌≡◌, refl, ap, ◌∙◌}
use mathlib.Core.Bool.{true, false}
use Prim.Native.Nat.{ℕ, ◌+◌, ◌*◌, ◌-◌, ◌≤◌, ◌<◌, ◌^◌, ◌%◌}
use native.Mathlib.Omega.{arith}
use native.Mathlib.Nat.{one-mul}
use borrow.Author.Tests.{lt-ltb, le-ltb}
use Rattle.std.proofs.lemmas.Bool.{false≢true}
use lib.Pow.{pow_mono, pow-add, shl_exact}
use lib.Ieee.{Float, nan, inf, fin, Format, ones, hid, top, is_nan, nan_bits, to_bits, binary32, binary64}
use lib.Ieee.Bits.{nan_bits_above}

-- ---- two's complement

module _ (k : ℕ) (lo : 1 ≤ k) (hi : k ≤ 8) where
  -- 1 << (8k - 1) at 64 bits is the weight of the sign bit
  pub half_shl : 1 * 2 ^ (8 * k - 1) % 2 ^ 64 ≡ 2 ^ (8 * k - 1)
  half_shl = shl_exact {a = 1} 1 (8 * k - 1) 64 (omega arith) (omega arith) ∙ one-mul (2 ^ (8 * k - 1))

  pub half_fits : 2 ^ (8 * k - 1) ≤ 2 ^ 63
  half_fits = pow_mono {i = 8 * k - 1} {j = 63} (omega arith)

  pub half_twice : 2 ^ (8 * k) ≡ 2 ^ (8 * k - 1) + 2 ^ (8 * k - 1)
  half_twice =
      let e : 8 * k ≡ (8 * k - 1) + 1 = omega arith in
      let d : 2 ^ (8 * k - 1 + 1) ≡ 2 ^ (8 * k - 1) + 2 ^ (8 * k - 1) = rw pow-add (omega arith) in
      ap (λ (n : ℕ). 2 ^ n) e ∙ d

-- ---- floats

module _ (f : Format) (n : ℕ) where
  pub is_nan_lem : ones f * hid f < n % top f → nan_bits f n ≡ true
  is_nan_lem h = nan_bits_above f n ∙ lt-ltb _ _ h

  pub is_number : n % top f ≤ ones f * hid f → nan_bits f n ≡ false
  is_number h = nan_bits_above f n ∙ le-ltb _ _ h

-- a NaN has one pattern, the quiet one
nan_pattern : (f : Format) (x : Float) → is_nan x ≡ true → to_bits f x ≡ to_bits f nan
unfolding is_nan
nan_pattern f nan h = refl
nan_pattern f (inf s) h = absurd (false≢true h)
nan_pattern f (fin s m e) h = absurd (false≢true h)

pub nan_single : (x : Float) → is_nan x ≡ true → to_bits binary32 x ≡ 0x7FC0_0000
unfolding to_bits
nan_single x h = nan_pattern binary32 x h

pub nan_double : (x : Float) → is_nan x ≡ true → to_bits binary64 x ≡ 0x7FF8_0000_0000_0000
unfolding to_bits
nan_double x h = nan_pattern binary64 x h
