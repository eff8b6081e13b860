-- What a record says apart from where its bytes lie, and what a caller gathers who reads variables to the end: the terms in
-- which "what was written is read back" is said.
use Rattle.std.specs.Prelude.{ℕ, zero, suc, ◌<◌, ◌^◌, ◌≡◌, Bool, List, [], ◌∷◌, ◌++◌, length}
use Rattle.refusal.specs.Said.{Said, gives, refused, and_then}
use Rattle.session.specs.Record.{record_at, record_bytes, bytes_of, pair_bytes, variable_at, Found, end, pair}
use Rattle.session.specs.declared.SessionStateChange.{SessionStateChange}
use Rattle.session.specs.declared.SessionStateChange.TheVariants as Of
use Rattle.session.specs.declared.Record.{Record}

-- ---- a record

-- what it says, with the bytes themselves in place of a part of s
pub data Content : Type 0 where
  variables : Content
  schema : List ℕ → Content
  tracked : Bool → Content
  gtids : List ℕ → Content
  characteristics : List ℕ → Content
  state : List ℕ → Content
  unsupported : List ℕ → Content

abbrev pub content_of : List ℕ → SessionStateChange → Content
content_of s Of.SystemVariables = variables
content_of s (Of.Schema t) = schema (bytes_of s t)
content_of s (Of.IsTracked b) = tracked b
content_of s (Of.Gtids t) = gtids (bytes_of s t)
content_of s (Of.TransactionCharacteristics t) = characteristics (bytes_of s t)
content_of s (Of.TransactionState t) = state (bytes_of s t)
content_of s (Of.Unsupported t) = unsupported (bytes_of s t)

-- in the bytes s, read as a record of a type, stands the change that was written from src, and it takes as many bytes as were
-- written
pub record ReadsBack (src : List ℕ) (change : SessionStateChange) (s : List ℕ) (kind : ℕ) : Type 0 where
  pub found : Record
  pub read : record_at s kind ≡ gives found
  pub same : content_of s found.change ≡ content_of src change
  pub used : found.used ≡ length (record_bytes src change)

-- ---- variables

pub record NameValue : Type 0 where
  pub name : List ℕ
  pub value : List ℕ

-- a list of pairs as it is written
unfoldable pub pairs_bytes : List NameValue → List ℕ
pairs_bytes [] = []
pairs_bytes (p ∷ ps) = pair_bytes p.name p.value ++ pairs_bytes ps

-- strings that a length of 64 bits can tell, as all that lie in memory are
unfoldable pub Fit : List NameValue → Type 0
Fit [] = 0 < 1
Fit (p ∷ ps) = (length p.name < 2 ^ 64) × (length p.value < 2 ^ 64) × Fit ps

-- what one call found, and then the rest from the next place on
abbrev pub onward : List ℕ → (ℕ → Said (List NameValue)) → Found → Said (List NameValue)
onward s rest end = gives []
onward s rest (pair v) = and_then (rest v.next) (λ ps. gives (record { name = bytes_of s v.name; value = bytes_of s v.value } ∷ ps))

-- what at most so many calls gather from a cursor on; 8 where they don't reach the end
unfoldable pub gather : ℕ → List ℕ → ℕ → Said (List NameValue)
gather zero s at = refused 8
gather (suc calls) s at = and_then (variable_at s at) (onward s (λ next. gather calls s next))
