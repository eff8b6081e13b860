-- Any two answers that the contracts allow are equal, and so are the buffers they leave.
use Rattle.wire.specs.declared.Parsed.{Parsed}
use Rattle.refusal.specs.declared.Refusal.{Refusal}
use Rattle.std.specs.Prelude.{Result, Option}
use mathlib.Core.Path.{◌≡◌, sym, ◌∙◌}
use mathlib.Core.Bool.{Bool}
use mathlib.Core.List.{List}
use Prim.Native.Nat.{ℕ}
use Rattle.refusal.specs.Said.{said_of, said_same}
use Rattle.wire.specs.Room.{Wrote, length_of}
use Rattle.wire.specs.RoomLaws.{wrote_same}
use Rattle.value.specs.Kinds.{kind_of}
use Rattle.value.specs.Read.{bin_at, text_at, skip_at}
use Rattle.value.specs.Write.{value_bytes}
use Rattle.value.specs.declared.Kind.{Kind}
use Rattle.value.specs.declared.Value.{Value}

pub kind_of_unique : (t : ℕ) (r q : Option Kind) → r ≡ kind_of t → q ≡ kind_of t → r ≡ q
kind_of_unique t r q e f = e ∙ sym f

pub deserialize_bin_unique : (s : List ℕ) (at t : ℕ) (u : Bool) (r q : Result (Parsed Value) Refusal) → said_of r ≡ bin_at s at t u → said_of q ≡ bin_at s at t u → r ≡ q
deserialize_bin_unique s at t u r q e f = said_same r q (e ∙ sym f)

pub deserialize_text_unique : (s : List ℕ) (at : ℕ) (r q : Result (Parsed Value) Refusal) → said_of r ≡ text_at s at → said_of q ≡ text_at s at → r ≡ q
deserialize_text_unique s at r q e f = said_same r q (e ∙ sym f)

pub skip_unique : (s : List ℕ) (at t : ℕ) (r q : Result ℕ Refusal) → said_of r ≡ skip_at s at t → said_of q ≡ skip_at s at t → r ≡ q
skip_unique s at t r q e f = said_same r q (e ∙ sym f)

pub serialize_unique : (src : List ℕ) (v : Value) (d : List ℕ) (at : ℕ) (r q : Result ℕ Refusal) (a b : List ℕ)
    → Wrote (value_bytes src v) d at r a → Wrote (value_bytes src v) d at q b → (r ≡ q) × (a ≡ b)
serialize_unique src v d at r q a b e f = wrote_same e f

pub bin_len_unique : (src : List ℕ) (v : Value) (r q : Result ℕ Refusal) → said_of r ≡ length_of (value_bytes src v) → said_of q ≡ length_of (value_bytes src v) → r ≡ q
bin_len_unique src v r q e f = said_same r q (e ∙ sym f)
