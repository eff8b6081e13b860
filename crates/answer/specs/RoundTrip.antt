-- The terms in which "written then read gives the fields the form carries" is said.
use Rattle.std.specs.Prelude.{ℕ, zero, suc, ◌+◌, ◌≤◌, ◌<◌, ◌^◌, ◌≡◌, Bool, cond, List, [], ◌∷◌, ◌++◌, length, eqb}
use Rattle.refusal.specs.Said.{Said, gives, refused, and_then}
use Rattle.wire.specs.LenEnc.{str_bytes, part_of}
use Rattle.session.specs.Record.{bytes_of}
use Rattle.session.specs.RoundTrip.{ReadsBack}
use Rattle.wire.specs.declared.Text.{Text}
use Rattle.session.specs.declared.SessionStateChange.{SessionStateChange}
use Rattle.session.specs.declared.SessionStateChange.TheVariants as Of
use Rattle.answer.specs.Answer.{answered, answer_at, tracks}
use Rattle.answer.specs.Records.{Found, end, one, next_at}
use Rattle.answer.specs.Written.{ok_bytes, err_bytes, record_on_wire}
use Rattle.answer.specs.declared.OkPacket.{OkPacket}
use Rattle.answer.specs.declared.Packet.TheVariants as P
use Rattle.answer.specs.declared.Handed.{Handed}

-- ---- packets

-- the records that the form carries: under tracking, with the bit
abbrev pub carried : Bool → ℕ → List ℕ → List ℕ
carried tracking status records = cond tracking (cond (tracks status) records []) []

abbrev pub ok_packet : ℕ → ℕ → ℕ → ℕ → Text → Text → OkPacket
ok_packet rows id status warnings message records =
    record { affected_rows = rows; last_insert_id = id; status = status; warnings = warnings; message = message; records = records }

-- the packet s reads as an OK packet with these fields, and as many bytes are used as were written
pub record OkBack (rows id status warnings : ℕ) (message records : List ℕ) (tracking : Bool) (s : List ℕ) : Type 0 where
  pub said : Text
  pub listed : Text
  pub read : answer_at s tracking
      ≡ gives (answered (P.Ok (ok_packet rows id status warnings said listed)) (length (ok_bytes rows id status warnings message records tracking)))
  pub message_is : bytes_of s said ≡ message
  pub records_are : bytes_of s listed ≡ carried tracking status records
  pub ends : listed.at + listed.len ≡ length (ok_bytes rows id status warnings message records tracking)

pub record ErrBack (code : ℕ) (state message : List ℕ) (tracking : Bool) (s : List ℕ) : Type 0 where
  pub sort : Text
  pub said : Text
  pub read : answer_at s tracking ≡ gives (answered (P.Err (record { code = code; state = sort; message = said })) (length (err_bytes code state message)))
  pub state_is : bytes_of s sort ≡ state
  pub message_is : bytes_of s said ≡ message

-- ---- records

-- the part that is handed on of what was written: the record's bytes; one byte of type 2 comes with its length
unfoldable pub as_handed : List ℕ → ℕ → List ℕ
as_handed src kind = cond (eqb kind 2) (cond (eqb (length src) 1) (str_bytes src) src) src

-- at a place of the packet s, whose records end at limit, a record of a type is handed on as the part `bytes`, and the next cursor stands at `next`
pub record HandedOn (s : List ℕ) (at limit kind : ℕ) (bytes : List ℕ) (next : ℕ) : Type 0 where
  pub handed : Handed
  pub found : next_at s at limit ≡ gives (one handed)
  pub kind_is : handed.kind ≡ kind
  pub part_is : part_of s handed.at handed.len ≡ bytes
  pub next_is : handed.next ≡ next

-- at that place stands a record that the existing reader reads as the change that was written from src
pub record ReadsOn (s : List ℕ) (at limit kind : ℕ) (src : List ℕ) (change : SessionStateChange) (next : ℕ) : Type 0 where
  pub handed : Handed
  pub found : next_at s at limit ≡ gives (one handed)
  pub kind_is : handed.kind ≡ kind
  pub back : ReadsBack src change (part_of s handed.at handed.len) handed.kind
  pub next_is : handed.next ≡ next

-- the type of a record that says a change
abbrev pub Typed : SessionStateChange → ℕ → Type 0
Typed Of.SystemVariables kind = kind ≡ 0
Typed (Of.Schema t) kind = kind ≡ 1
Typed (Of.IsTracked b) kind = kind ≡ 2
Typed (Of.Gtids t) kind = kind ≡ 3
Typed (Of.TransactionCharacteristics t) kind = kind ≡ 4
Typed (Of.TransactionState t) kind = kind ≡ 5
Typed (Of.Unsupported t) kind = 6 ≤ kind

-- a record as it is handed on: its type and its bytes
pub record Kept : Type 0 where
  pub kind : ℕ
  pub bytes : List ℕ

-- a list of records as it is written
unfoldable pub records_bytes : List Kept → List ℕ
records_bytes [] = []
records_bytes (k ∷ ks) = record_on_wire k.bytes k.kind ++ records_bytes ks

-- records whose lengths 64 bits can tell, and none of type 2 of one byte: the writers of room `session` make none
unfoldable pub Fit : List Kept → Type 0
Fit [] = 0 < 1
Fit (k ∷ ks) = (length k.bytes < 2 ^ 64) × (as_handed k.bytes k.kind ≡ k.bytes) × Fit ks

-- what one call found, and then the rest from the next place on
abbrev pub onward : List ℕ → (ℕ → Said (List Kept)) → Found → Said (List Kept)
onward s rest end = gives []
onward s rest (one h) = and_then (rest h.next) (λ ks. gives (record { kind = h.kind; bytes = part_of s h.at h.len } ∷ ks))

-- what at most so many calls gather from a cursor on; 8 where they don't reach the end
unfoldable pub gather : ℕ → List ℕ → ℕ → ℕ → Said (List Kept)
gather zero s at limit = refused 8
gather (suc calls) s at limit = and_then (next_at s at limit) (onward s (λ next. gather calls s next limit))
