-- How a walk goes over a column's values: by a number for each type, where a case for each would cost it a jump.
use Rattle.wire.specs.declared.Text.{Text}
use Rattle.std.specs.Prelude.{◌≡◌, cond, List, ℕ, ◌+◌, ◌≤◌, ◌<◌, eqb, length, get_or, Option, Some, None}
use Rattle.std.proofs.Math.Path.{refl, ap}
use Rattle.std.proofs.Common.{◌∙◌, arith, add-zero, le-leb}
use Rattle.refusal.specs.Said.{Said, refused}
use Rattle.wire.specs.LenEnc.{str_at, byte_str_at, within}
use Rattle.value.specs.Kinds.{kind_of}
use Rattle.value.specs.Read.{body_of, end_in, typed, skip_at}
use Rattle.value.specs.declared.Kind.{Kind}
use Rattle.value.specs.declared.Kind.TheVariants as K

-- up to 8 the value is so many bytes; by 9 a length byte leads it, and by 10 a length-encoded length; by 11 there is none
abbrev pub step_of : Option Kind → ℕ
step_of (Some K.Str) = 10
step_of (Some K.One) = 1
step_of (Some K.Two) = 2
step_of (Some K.Four) = 4
step_of (Some K.Eight) = 8
step_of (Some K.Single) = 4
step_of (Some K.Wide) = 8
step_of (Some K.Nil) = 0
step_of (Some K.Day) = 9
step_of (Some K.Clock) = 9
step_of None = 11

-- a list of the steps, by the types' codes
pub record Steps (l : List ℕ) : Type 0 where
  pub right : (t : ℕ) → t < 256 → get_or l t 0 ≡ step_of (kind_of t)

-- the bytes of a value that is not of a fixed size
abbrev pub led_body : ℕ → List ℕ → ℕ → Said Text
led_body step s at = cond (eqb step 9) (byte_str_at s at) (cond (eqb step 10) (str_at s at) (refused 10))

-- ---- a walk by steps goes where the skip does

fixed-body : (k : Option Kind) (s : List ℕ) (at : ℕ) → at ≤ length s → step_of k ≤ 8 → typed k (λ j. body_of j s at) ≡ within s at (step_of k)
fixed-body (Some K.Str) s at h l = absurd (omega arith)
fixed-body (Some K.One) s at h l = refl
fixed-body (Some K.Two) s at h l = refl
fixed-body (Some K.Four) s at h l = refl
fixed-body (Some K.Eight) s at h l = refl
fixed-body (Some K.Single) s at h l = refl
fixed-body (Some K.Wide) s at h l = refl
fixed-body (Some K.Nil) s at h l = simp (le-leb (at + 0) (length s) (rw add-zero h))
fixed-body (Some K.Day) s at h l = absurd (omega arith)
fixed-body (Some K.Clock) s at h l = absurd (omega arith)
fixed-body None s at h l = absurd (omega arith)

led-body : (k : Option Kind) (s : List ℕ) (at : ℕ) → 8 < step_of k → typed k (λ j. body_of j s at) ≡ led_body (step_of k) s at
led-body (Some K.Str) s at l = refl
led-body (Some K.One) s at l = absurd (omega arith)
led-body (Some K.Two) s at l = absurd (omega arith)
led-body (Some K.Four) s at l = absurd (omega arith)
led-body (Some K.Eight) s at l = absurd (omega arith)
led-body (Some K.Single) s at l = absurd (omega arith)
led-body (Some K.Wide) s at l = absurd (omega arith)
led-body (Some K.Nil) s at l = absurd (omega arith)
led-body (Some K.Day) s at l = refl
led-body (Some K.Clock) s at l = refl
led-body None s at l = refl

-- the end of what the kind leads to
end-typed : (k : Option Kind) (f : Kind → Said Text) → typed k (λ j. end_in (f j)) ≡ end_in (typed k f)
end-typed (Some k) f = refl
end-typed None f = refl

module _ (s : List ℕ) (at t step : ℕ) (e : step ≡ step_of (kind_of t)) where
  pub skip_fixed : at ≤ length s → step ≤ 8 → skip_at s at t ≡ end_in (within s at step)
  unfolding skip_at
  skip_fixed h l = end-typed (kind_of t) (λ j. body_of j s at) ∙ ap end_in (fixed-body (kind_of t) s at h (rw (← e) l)) ∙ rw (← e) refl

  pub skip_led : 8 < step → skip_at s at t ≡ end_in (led_body step s at)
  unfolding skip_at
  skip_led l = end-typed (kind_of t) (λ j. body_of j s at) ∙ ap end_in (led-body (kind_of t) s at (rw (← e) l)) ∙ rw (← e) refl
