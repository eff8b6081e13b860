-- OK, ERR and EOF packets of protocol 4.1 (MySQL's document, "OK_Packet", "ERR_Packet", "EOF_Packet"; request W1). s is the whole
-- packet, and tracking says whether session tracking was agreed.
use Rattle.std.specs.Prelude.{ℕ, ◌+◌, ◌-◌, ◌/◌, ◌%◌, Bool, cond, List, length, get_or, ltb, eqb}
use Rattle.refusal.specs.Said.{Said, gives, refused, check, and_then}
use Rattle.wire.specs.Le.{num_at}
use Rattle.wire.specs.LenEnc.{len_at, str_at, within}
use Rattle.wire.specs.declared.Text.{Text}
use Rattle.answer.specs.declared.Packet.{Packet}
use Rattle.answer.specs.declared.Packet.TheVariants as P
use Rattle.answer.specs.declared.Answered.{Answered}
use Rattle.answer.specs.declared.Texts.{Texts}

abbrev pub text : ℕ → ℕ → Text
text at len = record { at = at; len = len }

-- from a place to the end of the packet
abbrev pub rest_of : List ℕ → ℕ → Text
rest_of s at = text at (length s - at)

abbrev pub answered : Packet → ℕ → Answered
answered packet used = record { packet = packet; used = used }

-- ---- OK: 00, affected rows, last insert id, status, warnings, message, records

-- "status bit 0x4000"
abbrev pub tracks : ℕ → Bool
tracks status = eqb (status / 0x4000 % 2) 1

abbrev pub texts : Text → Text → Texts
texts message records = record { message = message; records = records }

-- "if so the message has a length"; with the bit the records follow as one length-encoded part, and without it there are none
abbrev pub tracked_texts : List ℕ → ℕ → Bool → Said Texts
tracked_texts s at more =
    and_then (str_at s at) (λ m.
    cond more
    (and_then (str_at s (m.at + m.len)) (λ p. gives (texts m p)))
    (gives (texts m (text (m.at + m.len) 0))))

-- "(nothing left: no message, no records), else it runs to the end"
unfoldable pub texts_at : List ℕ → ℕ → Bool → Bool → Said Texts
texts_at s at tracking more =
    cond tracking
    (cond (ltb at (length s)) (tracked_texts s at more) (gives (texts (text at 0) (text at 0))))
    (gives (texts (rest_of s at) (text (length s) 0)))

-- the fields, and the end of the records, or of the message where there are none
abbrev pub ok_of : ℕ → ℕ → ℕ → ℕ → Texts → Answered
ok_of rows id status warnings t =
    answered
    (P.Ok
    (record { affected_rows = rows; last_insert_id = id; status = status; warnings = warnings; message = t.message; records = t.records }))
    (t.records.at + t.records.len)

-- from the status on
unfoldable pub ok_rest : List ℕ → Bool → ℕ → ℕ → ℕ → Said Answered
ok_rest s tracking rows id at =
    and_then (num_at s at 2) (λ status.
    and_then (num_at s status.next 2) (λ warnings.
    and_then (texts_at s warnings.next tracking (tracks status.value)) (λ t.
    gives (ok_of rows id status.value warnings.value t))))

unfoldable pub ok_at : List ℕ → Bool → Said Answered
ok_at s tracking =
    and_then (len_at s 1) (λ rows.
    and_then (len_at s rows.next) (λ id.
    ok_rest s tracking rows.value id.value id.next))

-- ---- ERR: FF, "error code, `#` and five-byte SQL state", and the message to the end; 14 for "an ERR without `#`"

abbrev pub err_of : List ℕ → ℕ → Text → Answered
err_of s code state =
    answered (P.Err (record { code = code; state = state; message = rest_of s (state.at + state.len) })) (length s)

unfoldable pub err_at : List ℕ → Said Answered
err_at s =
    and_then (num_at s 1 2) (λ code.
    and_then (num_at s code.next 1) (λ mark.
    check (eqb mark.value 0x23) 14
    (and_then (within s mark.next 5) (λ state. gives (err_of s code.value state)))))

-- ---- EOF: FE, warnings, status

unfoldable pub eof_at : List ℕ → Said Answered
eof_at s =
    and_then (num_at s 1 2) (λ warnings.
    and_then (num_at s warnings.next 2) (λ status.
    gives (answered (P.Eof (record { warnings = warnings.value; status = status.value })) status.next)))

-- ---- all three

-- "for a header byte of none of the three, 0xFE in 9 bytes or more": 14
abbrev pub by_header : List ℕ → Bool → ℕ → Said Answered
by_header s tracking header =
    cond (eqb header 0x00) (ok_at s tracking)
    (cond (eqb header 0xFF) (err_at s)
    (cond (eqb header 0xFE) (check (ltb (length s) 9) 14 (eof_at s)) (refused 14)))

-- "8 for an empty packet"
unfoldable pub answer_at : List ℕ → Bool → Said Answered
answer_at s tracking = check (ltb 0 (length s)) 8 (by_header s tracking (get_or s 0 0))
