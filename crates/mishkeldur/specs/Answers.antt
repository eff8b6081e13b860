-- What an OK, ERR or EOF packet, a session record of an OK packet, and the writing of an ERR packet are to C.
use Rattle.std.specs.Prelude.{◌≡◌, ℕ, ◌+◌, cond, List, [], ◌∷◌, length, ◌==◌, nat_le}
use Rattle.refusal.specs.Said.{Said, check}
use Rattle.wire.specs.Room.{patch}
use Rattle.answer.specs.Records.{Found, end, one}
use Rattle.answer.specs.Written.{err_bytes}
use Rattle.answer.specs.declared.Handed.{Handed}
use Rattle.answer.specs.declared.Packet.{Packet}
use Rattle.answer.specs.declared.Packet.TheVariants as P
use Rattle.answer.specs.declared.Answered.{Answered}

-- ---- a packet: a list of eleven numbers, 0 where the kind has no such field

-- header byte, used, status, warnings, affected rows, last insert id, error code, the message's place and length, and those of the
-- session records (OK) or of the SQL state (ERR)
abbrev pub packet_numbers : Packet → ℕ → List ℕ
packet_numbers (P.Ok p) used =
    0x00 ∷ used ∷ p.status ∷ p.warnings ∷ p.affected_rows ∷ p.last_insert_id ∷ 0
    ∷ p.message.at ∷ p.message.len ∷ p.records.at ∷ p.records.len ∷ []
packet_numbers (P.Err p) used =
    0xFF ∷ used ∷ 0 ∷ 0 ∷ 0 ∷ 0 ∷ p.code
    ∷ p.message.at ∷ p.message.len ∷ p.state.at ∷ p.state.len ∷ []
packet_numbers (P.Eof p) used =
    0xFE ∷ used ∷ p.status ∷ p.warnings ∷ 0 ∷ 0 ∷ 0
    ∷ 0 ∷ 0 ∷ 0 ∷ 0 ∷ []

abbrev pub answer_numbers : Answered → List ℕ
answer_numbers a = packet_numbers a.packet a.used

-- 6 first of all, for a list of fewer numbers; then the reader's own
abbrev pub listed : List ℕ → Said Answered → Said Answered
listed out a = check (nat_le 11 (length out)) 6 a

-- ---- a session record: whether there is one, and a number of it, where there is

abbrev pub found_record : Found → ℕ
found_record end = 0
found_record (one h) = 1

abbrev pub of_record : Found → (Handed → ℕ) → ℕ → ℕ
of_record end f old = old
of_record (one h) f old = f h

-- ---- an ERR packet written: 8 first, for a state that is not five bytes long, and then nothing changes; else as every writer

pub record PutsErr (code : ℕ) (state message d : List ℕ) (at old r : ℕ) (d' : List ℕ) (next' : ℕ) : Type 0 where
  pub status : r ≡ cond (length state == 5) (cond (nat_le (at + length (err_bytes code state message)) (length d)) 0 6) 8
  pub left : d'
      ≡ cond (length state == 5)
      (cond (nat_le (at + length (err_bytes code state message)) (length d)) (patch d at (err_bytes code state message)) d)
      d
  pub next : next'
      ≡ cond (length state == 5)
      (cond (nat_le (at + length (err_bytes code state message)) (length d)) (at + length (err_bytes code state message)) old)
      old
