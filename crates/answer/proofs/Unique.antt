-- Each contract determines all: any two results that it allows are equal.
use Rattle.refusal.specs.declared.Refusal.{Refusal}
use Rattle.std.specs.Prelude.{Result, Ok, Err, Option, Some, None}
use Prim.Native.Nat.{ℕ}
use mathlib.Core.Path.{◌≡◌, refl, sym, ap, ◌∙◌}
use mathlib.Core.Bool.{Bool}
use mathlib.Core.List.{List}
use Rattle.refusal.specs.Number.{number_same}
use Rattle.refusal.specs.Said.{refused_same, said_of, said_same}
use Rattle.wire.specs.Room.{Wrote}
use Rattle.wire.specs.RoomLaws.{wrote_same}
use Rattle.answer.specs.Answer.{answer_at}
use Rattle.answer.specs.Records.{next_said, next_at, handed_record}
use Rattle.answer.specs.Written.{ok_bytes, WroteErr, eof_bytes, record_on_wire}
use Rattle.session.specs.declared.Record.{Record}
use Rattle.answer.specs.declared.Answered.{Answered}
use Rattle.answer.specs.declared.Handed.{Handed}

next_same : (r q : Result (Option Handed) Refusal) → next_said r ≡ next_said q → r ≡ q
next_same (Ok None) (Ok None) e = refl
next_same (Ok None) (Ok (Some q)) e = cc e
next_same (Ok None) (Err q) e = cc e
next_same (Ok (Some r)) (Ok None) e = cc e
next_same (Ok (Some r)) (Ok (Some q)) e = ap (λ (v : Handed). Ok (Some v)) (cc e)
next_same (Ok (Some r)) (Err q) e = cc e
next_same (Err r) (Ok None) e = cc e
next_same (Err r) (Ok (Some q)) e = cc e
next_same (Err r) (Err q) e = ap Err (number_same r q (refused_same e))

-- `read_answer`
pub read_answer_unique : (s : List ℕ) (tracking : Bool) (r q : Result Answered Refusal) → said_of r ≡ answer_at s tracking → said_of q ≡ answer_at s tracking → r ≡ q
read_answer_unique s tracking r q e f = said_same r q (e ∙ sym f)

-- `next_record`
pub next_record_unique : (s : List ℕ) (at limit : ℕ) (r q : Result (Option Handed) Refusal) → next_said r ≡ next_at s at limit → next_said q ≡ next_at s at limit → r ≡ q
next_record_unique s at limit r q e f = next_same r q (e ∙ sym f)

-- `read_handed`
pub read_handed_unique : (s : List ℕ) (h : Handed) (r q : Result Record Refusal) → said_of r ≡ handed_record s h → said_of q ≡ handed_record s h → r ≡ q
read_handed_unique s h r q e f = said_same r q (e ∙ sym f)

-- `put_ok`
pub put_ok_unique : (rows id status warnings : ℕ) (message records d : List ℕ) (tracking : Bool) (at : ℕ) (r q : Result ℕ Refusal) (d₁ d₂ : List ℕ)
    → Wrote (ok_bytes rows id status warnings message records tracking) d at r d₁ → Wrote (ok_bytes rows id status warnings message records tracking) d at q d₂
    → (r ≡ q) × (d₁ ≡ d₂)
put_ok_unique rows id status warnings message records d tracking at r q d₁ d₂ w v = wrote_same w v

-- `put_err`
pub put_err_unique : (code : ℕ) (state message d : List ℕ) (at : ℕ) (r q : Result ℕ Refusal) (d₁ d₂ : List ℕ)
    → WroteErr code state message d at r d₁ → WroteErr code state message d at q d₂ → (r ≡ q) × (d₁ ≡ d₂)
put_err_unique code state message d at r q d₁ d₂ w v = (said_same r q (w.said ∙ sym v.said), w.left ∙ sym v.left)

-- `put_eof`
pub put_eof_unique : (warnings status : ℕ) (d : List ℕ) (at : ℕ) (r q : Result ℕ Refusal) (d₁ d₂ : List ℕ)
    → Wrote (eof_bytes warnings status) d at r d₁ → Wrote (eof_bytes warnings status) d at q d₂ → (r ≡ q) × (d₁ ≡ d₂)
put_eof_unique warnings status d at r q d₁ d₂ w v = wrote_same w v

-- `put_record`
pub put_record_unique : (src d : List ℕ) (at kind : ℕ) (r q : Result ℕ Refusal) (d₁ d₂ : List ℕ)
    → Wrote (record_on_wire src kind) d at r d₁ → Wrote (record_on_wire src kind) d at q d₂ → (r ≡ q) × (d₁ ≡ d₂)
put_record_unique src d at kind r q d₁ d₂ w v = wrote_same w v
