-- Each contract determines all: any two results that it allows are equal.
use Rattle.refusal.specs.Said.{said_of, said_same}
use Rattle.refusal.specs.declared.Refusal.{Refusal}
use Rattle.std.specs.Prelude.{Result}
use Prim.Native.Nat.{ℕ}
use mathlib.Core.Path.{◌≡◌, sym, ◌∙◌}
use mathlib.Core.Bool.{Bool}
use mathlib.Core.List.{List}
use Rattle.wire.specs.Room.{Wrote, length_of}
use Rattle.wire.specs.RoomLaws.{wrote_same}
use Rattle.escape.specs.Quote.{quoted}

-- `escaped_len`
pub escaped_len_unique : (m : Bool) (bs : List ℕ) (r q : Result ℕ Refusal) → said_of r ≡ length_of (quoted m bs) → said_of q ≡ length_of (quoted m bs) → r ≡ q
escaped_len_unique m bs r q e f = said_same r q (e ∙ sym f)

-- `escaped`
pub escaped_unique : (m : Bool) (bs d : List ℕ) (at : ℕ) (r q : Result ℕ Refusal) (d₁ d₂ : List ℕ)
    → Wrote (quoted m bs) d at r d₁ → Wrote (quoted m bs) d at q d₂ → (r ≡ q) × (d₁ ≡ d₂)
escaped_unique m bs d at r q d₁ d₂ w v = wrote_same w v
