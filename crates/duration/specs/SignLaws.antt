-- Signed numbers made by negation of a bounded size, over the width: -k and -1 - k.
use Rattle.std.specs.Prelude.{◌≡◌, refl, ℕ, zero, suc, ◌-◌, ◌<◌, ◌^◌, true, false, ℤ, pos, negsuc, neg_ℤ, ◌-ℤ◌}
use Rattle.std.proofs.Common.{sym, ap, ◌∙◌, subst, zero-add, arith, le-ltb, ltb-true, to_z-of_z}
use Rattle.std.proofs.Math.IntN.{+ℤ_idl}
use Rattle.std.specs.Int.Signed.{lt_z, mag}
use Rattle.std.specs.Int.{Width, w64}
use mir.Val.{hbits, SFits, to_z, of_z}
use Rattle.std.proofs.Math.Facts.{to_z_pos}

one_below : (k : ℕ) → negsuc 0 -ℤ pos k ≡ negsuc k
one_below zero = refl
one_below (suc k) = ap (λ (n : ℕ). negsuc (suc n)) (zero-add k)

module _ (w : Width) (k : ℕ) (h : k < 2 ^ hbits w) where
  neg_fits : (k : ℕ) → k < 2 ^ hbits w → SFits w (neg_ℤ (pos k))
  neg_fits zero l = record { sfits = l }
  neg_fits (suc k) l = record { sfits = omega arith }

  -- -1 - k
  minus_one : negsuc 0 -ℤ to_z w k ≡ negsuc k
  minus_one = ap (λ (z : ℤ). negsuc 0 -ℤ z) (to_z_pos w h) ∙ one_below k

  pub minus_one_fits : SFits w (negsuc 0 -ℤ to_z w k)
  minus_one_fits = subst (SFits w) (sym minus_one) (record { sfits = h })

  pub minus_one_is : to_z w (of_z w (negsuc 0 -ℤ to_z w k)) ≡ negsuc k
  minus_one_is = to_z-of_z minus_one_fits ∙ minus_one

  -- -k, which MIR has as 0 - k
  minus : pos 0 -ℤ to_z w k ≡ neg_ℤ (pos k)
  minus = +ℤ_idl (neg_ℤ (to_z w k)) ∙ ap neg_ℤ (to_z_pos w h)

  pub minus_fits : SFits w (pos 0 -ℤ to_z w k)
  minus_fits = subst (SFits w) (sym minus) (neg_fits k h)

  pub minus_is : to_z w (of_z w (pos 0 -ℤ to_z w k)) ≡ neg_ℤ (pos k)
  minus_is = to_z-of_z minus_fits ∙ minus

-- ---- the other way round, at 64 bits: a test z < 0, and the size that is left

-- -1 - z of a negative z
below : (k : ℕ) → negsuc 0 -ℤ negsuc k ≡ pos k
below k = let e : suc k - 1 ≡ k = omega arith in simp (le-ltb (suc k) 1 (omega arith)) (ap pos e)

less_zero : {A : Type 0} (n : ℕ) → lt_z (pos n) (pos 0) ≡ true → A
less_zero n h = absurd (omega (arith, ltb-true n 0 h))

module _ (z : ℤ) (f : mag z < 9223372036854775808) where
  same : to_z w64 (of_z w64 z) ≡ z
  same = to_z-of_z {w = w64} (record { sfits = f })

  -- a negative number: what -1 - z is, and what it tells of z
  module _ (h : lt_z (to_z w64 (of_z w64 z)) (pos 0) ≡ true) where
    below_by : (y : ℤ) → lt_z y (pos 0) ≡ true → negsuc 0 -ℤ y ≡ pos (mag y)
    below_by (pos n) e = less_zero n e
    below_by (negsuc k) e = below k

    below_size : negsuc 0 -ℤ to_z w64 (of_z w64 z) ≡ pos (mag z)
    below_size = rw same (below_by z (rw same at h))

    pub below_fits : SFits w64 (negsuc 0 -ℤ to_z w64 (of_z w64 z))
    below_fits = subst (SFits w64) (sym below_size) (record { sfits = f })

    pub below_is : to_z w64 (of_z w64 (negsuc 0 -ℤ to_z w64 (of_z w64 z))) ≡ pos (mag z)
    below_is = to_z-of_z below_fits ∙ below_size

    negative_by : (y : ℤ) → lt_z y (pos 0) ≡ true → y ≡ negsuc (mag y)
    negative_by (pos n) e = less_zero n e
    negative_by (negsuc k) e = refl

    pub negative_is : z ≡ negsuc (mag z)
    negative_is = negative_by z (rw same at h)

  -- one that is not
  module _ (h : lt_z (to_z w64 (of_z w64 z)) (pos 0) ≡ false) where
    positive_by : (y : ℤ) → lt_z y (pos 0) ≡ false → y ≡ pos (mag y)
    positive_by (pos n) e = refl
    positive_by (negsuc k) e = let o : ◌≡◌ {A = ℕ} 0 1 = cc in absurd (omega arith)

    pub positive_is : z ≡ pos (mag z)
    positive_is = positive_by z (rw same at h)

    pub plain_is : to_z w64 (of_z w64 z) ≡ pos (mag z)
    plain_is = same ∙ positive_is
