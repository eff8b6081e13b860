-- The table of document 01, "Refusal numbers".
use Rattle.std.specs.Prelude.{ℕ, ◌≡◌, refl, cond, eqb}
use Rattle.std.proofs.Common.{sym, ap, ◌∙◌}
use Rattle.refusal.specs.declared.Refusal.{Refusal}
use Rattle.refusal.specs.declared.Refusal.TheVariants.{BadLimit, TooLarge, OutOfSync, BadFrameHeader, Packed, NoRoom, Closed, Short, BadLead}
use Rattle.refusal.specs.declared.Refusal.TheVariants.{BadType, OutOfRange, BadRow, BadColumns, BadPacket, BadLiteral, RowTooLong, TooManyRows}

abbrev pub number : Refusal → ℕ
number BadLimit = 1
number TooLarge = 2
number OutOfSync = 3
number BadFrameHeader = 4
number Packed = 5
number NoRoom = 6
number Closed = 7
number Short = 8
number BadLead = 9
number BadType = 10
number OutOfRange = 11
number BadRow = 12
number BadColumns = 13
number BadPacket = 14
number BadLiteral = 15
number RowTooLong = 16
number TooManyRows = 17

-- ---- its law: no two refusals have one number

named : ℕ → Refusal
named n =
    cond (eqb n 1) BadLimit
    (cond (eqb n 2) TooLarge
    (cond (eqb n 3) OutOfSync
    (cond (eqb n 4) BadFrameHeader
    (cond (eqb n 5) Packed
    (cond (eqb n 6) NoRoom
    (cond (eqb n 7) Closed
    (cond (eqb n 8) Short
    (cond (eqb n 9) BadLead
    (cond (eqb n 10) BadType
    (cond (eqb n 11) OutOfRange
    (cond (eqb n 12) BadRow
    (cond (eqb n 13) BadColumns
    (cond (eqb n 14) BadPacket
    (cond (eqb n 15) BadLiteral
    (cond (eqb n 16) RowTooLong TooManyRows)))))))))))))))

named-number : (r : Refusal) → named (number r) ≡ r
unfolding named
named-number BadLimit = refl
named-number TooLarge = refl
named-number OutOfSync = refl
named-number BadFrameHeader = refl
named-number Packed = refl
named-number NoRoom = refl
named-number Closed = refl
named-number Short = refl
named-number BadLead = refl
named-number BadType = refl
named-number OutOfRange = refl
named-number BadRow = refl
named-number BadColumns = refl
named-number BadPacket = refl
named-number BadLiteral = refl
named-number RowTooLong = refl
named-number TooManyRows = refl

pub number_same : (r q : Refusal) → number r ≡ number q → r ≡ q
number_same r q e = sym (named-number r) ∙ ap named e ∙ named-number q
