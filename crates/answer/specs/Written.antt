-- OK, ERR and EOF packets and session records as they are written.
use Rattle.refusal.specs.declared.Refusal.{Refusal}
use Rattle.std.specs.Prelude.{ℕ, ◌+◌, ◌≡◌, Bool, false, cond, List, [], ◌∷◌, ◌++◌, length, get_or, leb, eqb, Result}
use Rattle.refusal.specs.Said.{gives, check, said_of}
use Rattle.wire.specs.Le.{le_bytes}
use Rattle.wire.specs.LenEnc.{len_bytes, str_bytes}
use Rattle.wire.specs.Room.{patch}
use Rattle.answer.specs.Answer.{tracks}

-- two numbers of two bytes
abbrev pub words : ℕ → ℕ → List ℕ
words a b = le_bytes 2 a ++ le_bytes 2 b

-- ---- OK

abbrev pub ok_head : ℕ → ℕ → ℕ → ℕ → List ℕ
ok_head rows id status warnings = (0x00 ∷ []) ++ len_bytes rows ++ len_bytes id ++ words status warnings

-- Under tracking the message's length is always written, and with the bit 0x4000 that of the records; without the bit there are no
-- records. Without tracking neither a length nor records
abbrev pub text_bytes : Bool → Bool → List ℕ → List ℕ → List ℕ
text_bytes tracking more message records = cond tracking (cond more (str_bytes message ++ str_bytes records) (str_bytes message)) message

abbrev pub ok_bytes : ℕ → ℕ → ℕ → ℕ → List ℕ → List ℕ → Bool → List ℕ
ok_bytes rows id status warnings message records tracking =
    ok_head rows id status warnings ++ text_bytes tracking (tracks status) message records

-- ---- ERR

abbrev pub err_head : ℕ → List ℕ → List ℕ
err_head code state = (0xFF ∷ []) ++ le_bytes 2 code ++ (0x23 ∷ []) ++ state

abbrev pub err_bytes : ℕ → List ℕ → List ℕ → List ℕ
err_bytes code state message = err_head code state ++ message

-- "five-byte SQL state": with any other 8, and no byte changed; else as every writer
pub record WroteErr (code : ℕ) (state message d : List ℕ) (at : ℕ) (r : Result ℕ Refusal) (d' : List ℕ) : Type 0 where
  pub said : said_of r
      ≡ check (eqb (length state) 5) 8
      (check (leb (at + length (err_bytes code state message)) (length d)) 6 (gives (at + length (err_bytes code state message))))
  pub left : d'
      ≡ cond (eqb (length state) 5)
      (cond (leb (at + length (err_bytes code state message)) (length d)) (patch d at (err_bytes code state message)) d)
      d

-- ---- EOF

abbrev pub eof_bytes : ℕ → ℕ → List ℕ
eof_bytes warnings status = (0xFE ∷ []) ++ words warnings status

-- ---- a session record; src is its bytes, as the existing reader takes them

-- Of type 2 the bytes 01 31 already hold the length: "the writer makes what servers make (02 01 31)"
unfoldable pub holds_length : List ℕ → ℕ → Bool
holds_length src kind = cond (eqb kind 2) (cond (eqb (length src) 2) (eqb (get_or src 0 0) 1) false) false

abbrev pub body_on_wire : List ℕ → ℕ → List ℕ
body_on_wire src kind = cond (holds_length src kind) src (str_bytes src)

-- "(type, length-encoded body)"
abbrev pub record_on_wire : List ℕ → ℕ → List ℕ
record_on_wire src kind = (kind ∷ []) ++ body_on_wire src kind
