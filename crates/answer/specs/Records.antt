-- The session records of an OK packet: "(type, length-encoded body)", by cursor, and which part of the packet is handed on for each.
use Rattle.refusal.specs.declared.Refusal.{Refusal}
use Rattle.std.specs.Prelude.{ℕ, ◌+◌, ◌-◌, cond, List, length, take, leb, eqb, Result, Ok, Err, Option, Some, None}
use Rattle.refusal.specs.Number.{number}
use Rattle.refusal.specs.Said.{Said, gives, refused, check, and_then}
use Rattle.wire.specs.Le.{num_at}
use Rattle.wire.specs.LenEnc.{str_at, part_of}
use Rattle.session.specs.Record.{record_at}
use Rattle.session.specs.declared.Record.{Record}
use Rattle.answer.specs.declared.Handed.{Handed}

-- a record's type, the part that is handed on, and the place of the next record
abbrev pub handing : ℕ → ℕ → ℕ → ℕ → Handed
handing kind at len next = record { kind = kind; at = at; len = len; next = next }

-- The body is the len bytes at a place, its length stands at `from`. On the wire a record of type 2 is 02 01 31: a one-byte body of
-- type 2 is handed on from its length byte, everything else from behind its length
unfoldable pub handed_of : ℕ → ℕ → ℕ → ℕ → Handed
handed_of kind from at len =
    cond (eqb kind 2)
    (cond (eqb len 1) (handing kind from (at + len - from) (at + len)) (handing kind at len (at + len)))
    (handing kind at len (at + len))

-- what a call finds: the end, or a record
pub data Found : Type 0 where
  end : Found
  one : Handed → Found

-- a type, and a length-encoded body
abbrev pub record_in : List ℕ → ℕ → Said Handed
record_in s at =
    and_then (num_at s at 1) (λ kind.
    and_then (str_at s kind.next) (λ body.
    gives (handed_of kind.value kind.next body.at body.len)))

-- done at the end, 8 past it
unfoldable pub next_in : List ℕ → ℕ → Said Found
next_in s at = cond (eqb at (length s)) (gives end) (and_then (record_in s at) (λ h. gives (one h)))

-- the records are the packet's bytes before `end`: 8 where that lies past the packet
unfoldable pub next_at : List ℕ → ℕ → ℕ → Said Found
next_at s at limit = check (leb limit (length s)) 8 (next_in (take limit s) at)

abbrev pub next_said : Result (Option Handed) Refusal → Said Found
next_said (Ok None) = gives end
next_said (Ok (Some h)) = gives (one h)
next_said (Err r) = refused (number r)

-- what the existing reader says of the part that is handed on
abbrev pub handed_record : List ℕ → Handed → Said Record
handed_record s h = record_at (part_of s h.at h.len) h.kind
