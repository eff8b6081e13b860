-- Each contract determines all: any two results that it allows are equal.
use Rattle.refusal.specs.declared.Refusal.{Refusal}
use Rattle.std.specs.Prelude.{Result, Ok, Err, Option, Some, None}
use Prim.Native.Nat.{ℕ}
use mathlib.Core.Path.{◌≡◌, refl, sym, ap, ◌∙◌}
use mathlib.Core.List.{List}
use Rattle.refusal.specs.Number.{number_same}
use Rattle.refusal.specs.Said.{refused_same, said_of, said_same}
use Rattle.wire.specs.Room.{Wrote}
use Rattle.wire.specs.RoomLaws.{wrote_same}
use Rattle.session.specs.Record.{record_at, variable_said, variable_at, record_bytes, pair_bytes}
use Rattle.session.specs.declared.SystemVariable.{SystemVariable}
use Rattle.session.specs.declared.SessionStateChange.{SessionStateChange}
use Rattle.session.specs.declared.Record.{Record}

variable_same : (r q : Result (Option SystemVariable) Refusal) → variable_said r ≡ variable_said q → r ≡ q
variable_same (Ok None) (Ok None) e = refl
variable_same (Ok None) (Ok (Some q)) e = cc e
variable_same (Ok None) (Err q) e = cc e
variable_same (Ok (Some r)) (Ok None) e = cc e
variable_same (Ok (Some r)) (Ok (Some q)) e = ap (λ (v : SystemVariable). Ok (Some v)) (cc e)
variable_same (Ok (Some r)) (Err q) e = cc e
variable_same (Err r) (Ok None) e = cc e
variable_same (Err r) (Ok (Some q)) e = cc e
variable_same (Err r) (Err q) e = ap Err (number_same r q (refused_same e))

-- `read_record`
pub read_record_unique : (s : List ℕ) (kind : ℕ) (r q : Result Record Refusal) → said_of r ≡ record_at s kind → said_of q ≡ record_at s kind → r ≡ q
read_record_unique s kind r q e f = said_same r q (e ∙ sym f)

-- `next_variable`
pub next_variable_unique : (s : List ℕ) (at : ℕ) (r q : Result (Option SystemVariable) Refusal) → variable_said r ≡ variable_at s at → variable_said q ≡ variable_at s at → r ≡ q
next_variable_unique s at r q e f = variable_same r q (e ∙ sym f)

-- `put_record`
pub put_record_unique : (src d : List ℕ) (at : ℕ) (change : SessionStateChange) (r q : Result ℕ Refusal) (d₁ d₂ : List ℕ)
    → Wrote (record_bytes src change) d at r d₁ → Wrote (record_bytes src change) d at q d₂ → (r ≡ q) × (d₁ ≡ d₂)
put_record_unique src d at change r q d₁ d₂ w v = wrote_same w v

-- `put_variable`
pub put_variable_unique : (name value d : List ℕ) (at : ℕ) (r q : Result ℕ Refusal) (d₁ d₂ : List ℕ)
    → Wrote (pair_bytes name value) d at r d₁ → Wrote (pair_bytes name value) d at q d₂ → (r ≡ q) × (d₁ ≡ d₂)
put_variable_unique name value d at r q d₁ d₂ w v = wrote_same w v
