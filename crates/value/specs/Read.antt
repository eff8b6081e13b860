-- A value at a place of the bytes (01, "Values"): first its extent, with all refusals, and then what its bytes mean.
use Rattle.wire.specs.declared.Text.{Text}
use Rattle.wire.specs.declared.Parsed.{Parsed}
use Rattle.std.specs.Prelude.{ℕ, ◌+◌, Bool, cond, List, length, get_or, ltb, eqb, Option, Some, None}
use Rattle.refusal.specs.Said.{Said, gives, refused, check, and_then}
use Rattle.wire.specs.Le.{le_at}
use Rattle.wire.specs.LenEnc.{str_at, byte_str_at, within, part_of}
use Rattle.duration.specs.Time.{time_of}
use Rattle.value.specs.Kinds.{kind_of}
use Rattle.value.specs.Numbers.{int_of, float_of, double_of}
use Rattle.value.specs.Dates.{date_of}
use Rattle.value.specs.declared.Value.{Value}
use Rattle.value.specs.declared.Value.TheVariants as Of
use Rattle.value.specs.declared.Kind.{Kind}
use Rattle.value.specs.declared.Kind.TheVariants as K

-- the bytes of a value of each kind: their place, behind a length if it has one, and how many they are; or the refusal
abbrev pub body_of : Kind → List ℕ → ℕ → Said Text
body_of K.Str s at = str_at s at
body_of K.One s at = within s at 1
body_of K.Two s at = within s at 2
body_of K.Four s at = within s at 4
body_of K.Eight s at = within s at 8
body_of K.Single s at = within s at 4
body_of K.Wide s at = within s at 8
body_of K.Nil s at = gives (record { at = at; len = 0 })
body_of K.Day s at = byte_str_at s at
body_of K.Clock s at = byte_str_at s at

-- what n bytes at p mean in each kind
abbrev pub means_of : Kind → Bool → List ℕ → ℕ → ℕ → Value
means_of K.Str u s p n = Of.Bytes p n
means_of K.One u s p n = int_of u n (le_at s p n)
means_of K.Two u s p n = int_of u n (le_at s p n)
means_of K.Four u s p n = int_of u n (le_at s p n)
means_of K.Eight u s p n = int_of u n (le_at s p n)
means_of K.Single u s p n = float_of (le_at s p n)
means_of K.Wide u s p n = double_of (le_at s p n)
means_of K.Nil u s p n = Of.NULL
means_of K.Day u s p n = Of.Date (date_of (part_of s p n))
means_of K.Clock u s p n = Of.Time (time_of (part_of s p n))

-- a meaning and the place behind it: the one place that makes a reader's answer
abbrev pub got_value : (ℕ → ℕ → Value) → Text → Parsed Value
got_value means p = record { value = means p.at p.len; next = p.at + p.len }

abbrev pub value_in : (ℕ → ℕ → Value) → Said Text → Said (Parsed Value)
value_in means body = and_then body (λ p. gives (got_value means p))

-- a number of k bytes, and what it means at that width
abbrev pub fixed : List ℕ → ℕ → ℕ → (ℕ → ℕ → Value) → Said (Parsed Value)
fixed s at k means = value_in (λ p n. means n (le_at s p n)) (within s at k)

-- the value of a kind at a place
abbrev pub kind_at : Kind → Bool → List ℕ → ℕ → Said (Parsed Value)
kind_at k unsigned s at = value_in (means_of k unsigned s) (body_of k s at)

-- what the kind of a column's type leads to; 10 for a type that the document does not list
abbrev pub typed : {A : Type 0} → Option Kind → (Kind → Said A) → Said A
typed (Some k) f = f k
typed None f = refused 10

-- "Binary, type tested first (10)": the value at a place, in a column of type t, unsigned or not
unfoldable pub bin_at : List ℕ → ℕ → ℕ → Bool → Said (Parsed Value)
bin_at s at t unsigned = typed (kind_of t) (λ k. kind_at k unsigned s at)

-- the place behind it, for who walks over it
abbrev pub end_in : Said Text → Said ℕ
end_in body = and_then body (λ p. gives (p.at + p.len))

unfoldable pub skip_at : List ℕ → ℕ → ℕ → Said ℕ
skip_at s at t = typed (kind_of t) (λ k. end_in (body_of k s at))

-- "Text: 0xFB is NULL; else a length-encoded string", 8 on empty input
unfoldable pub text_at : List ℕ → ℕ → Said (Parsed Value)
text_at s at =
    check (ltb at (length s)) 8
    (cond (eqb (get_or s at 0) 0xFB) (gives (record { value = Of.NULL; next = at + 1 })) (value_in Of.Bytes (str_at s at)))
