-- Session state records, by 01's "Quotes and session records". s is the record's bytes, kind its type.
use Rattle.refusal.specs.declared.Refusal.{Refusal}
use Rattle.std.specs.Prelude.{ℕ, ◌+◌, Bool, cond, List, [], ◌∷◌, ◌++◌, length, ltb, eqb, Result, Ok, Err, Option, Some, None}
use Rattle.refusal.specs.Number.{number}
use Rattle.refusal.specs.Said.{Said, gives, refused, check, and_then}
use Rattle.wire.specs.LenEnc.{str_at, part_of, str_bytes}
use Rattle.wire.specs.declared.Text.{Text}
use Rattle.session.specs.declared.SystemVariable.{SystemVariable}
use Rattle.session.specs.declared.SessionStateChange.{SessionStateChange}
use Rattle.session.specs.declared.SessionStateChange.TheVariants as Of
use Rattle.session.specs.declared.Record.{Record}

-- ---- a record

-- what a record says, and how many bytes were used
abbrev pub record_of : SessionStateChange → ℕ → Record
record_of change used = record { change = change; used = used }

-- a record that is one string: "Bytes behind one string are left unread"
abbrev pub one_string : (Text → SessionStateChange) → List ℕ → Said Record
one_string f s = and_then (str_at s 0) (λ p. gives (record_of (f p) (p.at + p.len)))

-- all the bytes
abbrev pub whole : List ℕ → Text
whole s = record { at = 0; len = length s }

-- "true only for the one-byte string `1`"
abbrev pub is_one : List ℕ → Bool
is_one (b ∷ []) = eqb b 0x31
is_one [] = Bool.false
is_one (b ∷ c ∷ bs) = Bool.false

-- "Record types by the document: 0 variables, 1 schema, 2 tracked, 3 GTIDs (all the rest), 4 and 5 one string; other types
-- keep all bytes as unsupported". Variables come one pair a call, so of their record nothing is used here
unfoldable pub record_at : List ℕ → ℕ → Said Record
record_at s kind =
    cond (eqb kind 0) (gives (record_of Of.SystemVariables 0))
    (cond (eqb kind 1) (one_string Of.Schema s)
    (cond (eqb kind 2) (one_string (λ p. Of.IsTracked (is_one (part_of s p.at p.len))) s)
    (cond (eqb kind 3) (gives (record_of (Of.Gtids (whole s)) (length s)))
    (cond (eqb kind 4) (one_string Of.TransactionCharacteristics s)
    (cond (eqb kind 5) (one_string Of.TransactionState s)
    (gives (record_of (Of.Unsupported (whole s)) (length s))))))))

-- ---- the pairs of a record of variables, by cursor

-- a name and a value, and the place behind them
abbrev pub pair_at : List ℕ → ℕ → Said SystemVariable
pair_at s at =
    and_then (str_at s at) (λ n.
    and_then (str_at s (n.at + n.len)) (λ v.
    gives (record { name = n; value = v; next = v.at + v.len })))

-- what a call finds: the end, or a pair
pub data Found : Type 0 where
  end : Found
  pair : SystemVariable → Found

-- "Variables come one pair a call, by cursor: done at the end, 8 past it"
unfoldable pub variable_at : List ℕ → ℕ → Said Found
variable_at s at = cond (eqb at (length s)) (gives end) (check (ltb at (length s)) 8 (and_then (pair_at s at) (λ v. gives (pair v))))

abbrev pub variable_said : Result (Option SystemVariable) Refusal → Said Found
variable_said (Ok None) = gives end
variable_said (Ok (Some v)) = gives (pair v)
variable_said (Err r) = refused (number r)

-- ---- as they are written

-- the bytes of a part of the source; empty where it doesn't fit, as `part` hands it back
abbrev pub bytes_of : List ℕ → Text → List ℕ
bytes_of src t = part_of src t.at t.len

-- "written as bytes 01 31 or 01 30"; one string with its length; GTIDs and unsupported records "as they stand". A list of
-- variables is written pair by pair, so its record by itself has no bytes
abbrev pub record_bytes : List ℕ → SessionStateChange → List ℕ
record_bytes src Of.SystemVariables = []
record_bytes src (Of.Schema t) = str_bytes (bytes_of src t)
record_bytes src (Of.IsTracked b) = cond b (0x01 ∷ 0x31 ∷ []) (0x01 ∷ 0x30 ∷ [])
record_bytes src (Of.Gtids t) = bytes_of src t
record_bytes src (Of.TransactionCharacteristics t) = str_bytes (bytes_of src t)
record_bytes src (Of.TransactionState t) = str_bytes (bytes_of src t)
record_bytes src (Of.Unsupported t) = bytes_of src t

abbrev pub pair_bytes : List ℕ → List ℕ → List ℕ
pair_bytes name value = str_bytes name ++ str_bytes value
