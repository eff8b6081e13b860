-- A bool as a byte to C, and the date at a place.
use Rattle.wire.specs.declared.Text.{Text}
use Rattle.wire.specs.declared.Parsed.{Parsed}
use Rattle.std.proofs.Common.{◌≡◌, ℕ, ◌+◌, Bool, true, false, List, sym, refl, ap}
use mir.Val.{bool_byte}
use Rattle.refusal.specs.Said.{Said, gives, refused, gives_not_refused, refused_same}
use Rattle.wire.specs.LenEnc.{byte_str_at, part_of}
use Rattle.value.specs.Kinds.{kind_of}
use Rattle.value.specs.Read.{bin_at, value_in}
use Rattle.value.specs.Dates.{date_of}
use Rattle.value.specs.declared.Value.{Value}
use Rattle.value.specs.declared.Value.TheVariants as Of
use Rattle.mishkeldur.specs.Face.{flag_no}
use Rattle.mishkeldur.specs.Values.{date_in}

-- a bool as a byte
pub flag_no_lem : (b : Bool) → bool_byte b ≡ flag_no b
flag_no_lem true = refl
flag_no_lem false = refl

-- ---- the date at a place: type 12 reads nothing but dates, out of the bytes behind the length byte

abbrev pub placed : Said Text → Text
placed (gives p) = p
placed (refused k) = record { at = 0; len = 0 }

date_by : (s : List ℕ) (g : Parsed Value) (r : Said Text) → gives g ≡ value_in (λ p n. Of.Date (date_of (part_of s p n))) r
    → (r ≡ gives (placed r)) × (g.value ≡ Of.Date (date_in s (placed r))) × (g.next ≡ (placed r).at + (placed r).len)
date_by s g (gives p) e =
    let f : g ≡ record { value = Of.Date (date_in s p); next = p.at + p.len } = cc e in
    (refl, ap (λ (x : Parsed Value). x.value) f, ap (λ (x : Parsed Value). x.next) f)
date_by s g (refused k) e = absurd (gives_not_refused e)

pub date_given : (s : List ℕ) (at : ℕ) (g : Parsed Value) → gives g ≡ bin_at s at 12 false
    → (byte_str_at s at ≡ gives (placed (byte_str_at s at))) × (g.value ≡ Of.Date (date_in s (placed (byte_str_at s at))))
    × (g.next ≡ (placed (byte_str_at s at)).at + (placed (byte_str_at s at)).len)
unfolding bin_at kind_of
date_given s at g e = date_by s g (byte_str_at s at) e

refused_by : (s : List ℕ) (k : ℕ) (r : Said Text) → refused k ≡ value_in (λ p n. Of.Date (date_of (part_of s p n))) r → r ≡ refused k
refused_by s k (gives p) e = absurd (gives_not_refused (sym e))
refused_by s k (refused n) e = ap refused (sym (refused_same e))

pub date_refused : (s : List ℕ) (at k : ℕ) → refused k ≡ bin_at s at 12 false → byte_str_at s at ≡ refused k
unfolding bin_at kind_of
date_refused s at k e = refused_by s k (byte_str_at s at) e
