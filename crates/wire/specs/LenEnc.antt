-- The length-encoded integer and string (01, "Values"; MySQL's document, "Length-Encoded Integer Type").
use Rattle.wire.specs.declared.Text.{Text}
use Rattle.wire.specs.declared.Parsed.{Parsed}
use Rattle.std.specs.Prelude.{ℕ, ◌+◌, cond, List, [], ◌∷◌, ◌++◌, length, get_or, take, drop, ltb, leb, eqb}
use Rattle.refusal.specs.Said.{Said, gives, refused, check, and_then}
use Rattle.wire.specs.Le.{le_at, le_bytes}

-- ---- the integer

-- a value that was read from k bytes behind its lead byte: the one place that makes the reader's answer
abbrev pub len_enc_int : ℕ → ℕ → ℕ → Parsed ℕ
len_enc_int at k v = record { value = v; next = at + 1 + k }

-- k bytes behind the lead byte, or 8
abbrev pub led : List ℕ → ℕ → ℕ → Said (Parsed ℕ)
led s at k = check (leb (at + 1 + k) (length s)) 8 (gives (len_enc_int at k (le_at s (at + 1) k)))

-- by the lead byte: "0 to 250 in one byte; 0xFC, 0xFD, 0xFE lead 2, 3, 8 bytes"; 0xFB and 0xFF lead no length: 9
abbrev pub by_lead : List ℕ → ℕ → ℕ → Said (Parsed ℕ)
by_lead s at b =
    cond (ltb b 251) (gives (len_enc_int at 0 b))
    (cond (eqb b 0xFC) (led s at 2)
    (cond (eqb b 0xFD) (led s at 3)
    (cond (eqb b 0xFE) (led s at 8) (refused 9))))

-- the integer at a place of the bytes; 8 where no byte is
unfoldable pub len_at : List ℕ → ℕ → Said (Parsed ℕ)
len_at s at = check (ltb at (length s)) 8 (by_lead s at (get_or s at 0))

-- "Written shortest"
unfoldable pub len_bytes : ℕ → List ℕ
len_bytes v =
    cond (ltb v 251) (v ∷ [])
    (cond (ltb v 0x1_0000) (0xFC ∷ le_bytes 2 v)
    (cond (ltb v 0x100_0000) (0xFD ∷ le_bytes 3 v) (0xFE ∷ le_bytes 8 v)))

-- ---- strings: the place and the length of a part of the bytes

-- a part that must lie within the bytes, or 8
abbrev pub within : List ℕ → ℕ → ℕ → Said Text
within s at n = check (leb (at + n) (length s)) 8 (gives (record { at = at; len = n }))

-- a length-encoded length, and as many bytes
unfoldable pub str_at : List ℕ → ℕ → Said Text
str_at s at = and_then (len_at s at) (λ n. within s n.next n.value)

-- a length byte, and as many bytes: a plain byte, so 0xFB means 251 bytes (the Rust's `checked_eat_u8_str`)
unfoldable pub byte_str_at : List ℕ → ℕ → Said Text
byte_str_at s at = check (ltb at (length s)) 8 (within s (at + 1) (get_or s at 0))

-- a string as it is written
abbrev pub str_bytes : List ℕ → List ℕ
str_bytes bs = len_bytes (length bs) ++ bs

-- "the part itself handed back (empty if those don't fit)"
unfoldable pub part_of : List ℕ → ℕ → ℕ → List ℕ
part_of s at n = cond (leb (at + n) (length s)) (take n (drop at s)) []

-- ---- what the readers' answers say
