-- The straight-through reader of plain chunks, by request W7, over a piece size m of 1 to M: what one call answers, uses and leaves. It keeps
-- numbers only; payload is handed back as a part of the bytes lent, u.
use Rattle.chunk.specs.declared.Decoded.{Decoded}
use Rattle.stream.specs.declared.Piece.{Piece}
use Rattle.refusal.specs.declared.Refusal.{Refusal}
use Rattle.std.specs.Prelude.{ℕ, ◌+◌, ◌-◌, Bool, true, false, cond, not, List, [], ◌∷◌, ◌++◌, length, take, ◌==◌, nat_le, nat_lt, slice_index, Result, Ok, Err, Option, None, Some}
use Rattle.refusal.specs.Number.{number}
use Rattle.wire.specs.Le.{le_at}
use Rattle.chunk.specs.Chunks.{next}
use Rattle.chunk.specs.Read.{Opening, opens, refuses}
use Rattle.stream.specs.declared.Stream.{Stream}

-- ---- states: any record of this shape is one. What is not named in an update stays

-- open, between two packets, at number k
abbrev pub idle : ℕ → ℕ → Stream
idle limit k = record { limit = limit; taken = 0; left = 0; got = 0; first = 0; second = 0; third = 0; number = k; full = false; closed = false }

abbrev pub closed : Stream → Stream
closed st = record {
  limit = st.limit;
  taken = st.taken;
  left = st.left;
  got = st.got;
  first = st.first;
  second = st.second;
  third = st.third;
  number = st.number;
  full = st.full;
  closed = true;
}

abbrev pub renumbered : Stream → ℕ → Stream
renumbered st k = record {
  limit = st.limit;
  taken = st.taken;
  left = st.left;
  got = st.got;
  first = st.first;
  second = st.second;
  third = st.third;
  number = k;
  full = st.full;
  closed = st.closed;
}

-- "header bytes that came in pieces (up to three)"
abbrev pub kept : Stream → List ℕ
kept st = take st.got (st.first ∷ st.second ∷ st.third ∷ [])

-- with the bytes h of a header kept, fewer than four
abbrev pub keeping : Stream → List ℕ → Stream
keeping st h = record {
  limit = st.limit;
  taken = st.taken;
  left = st.left;
  got = length h;
  first = slice_index h 0;
  second = slice_index h 1;
  third = slice_index h 2;
  number = st.number;
  full = st.full;
  closed = st.closed;
}

-- behind the header of a chunk of len bytes with the number num: `taken` counts the packet's bytes up to this chunk's end, and all of
-- the chunk is left
abbrev pub begun : ℕ → Stream → (len num : ℕ) → Stream
begun m st len num = record {
  limit = st.limit;
  taken = st.taken + len;
  left = len;
  got = 0;
  first = 0;
  second = 0;
  third = 0;
  number = next num;
  full = (len == m);
  closed = st.closed;
}

-- n bytes further in the chunk
abbrev pub further : Stream → ℕ → Stream
further st n = record {
  limit = st.limit;
  taken = st.taken;
  left = st.left - n;
  got = st.got;
  first = st.first;
  second = st.second;
  third = st.third;
  number = st.number;
  full = st.full;
  closed = st.closed;
}

-- at the chunk's end: "After a chunk of M bytes the packet goes on", and else another begins
abbrev pub ended : Stream → Stream
ended st = record {
  limit = st.limit;
  taken = cond st.full st.taken 0;
  left = 0;
  got = st.got;
  first = st.first;
  second = st.second;
  third = st.third;
  number = st.number;
  full = false;
  closed = st.closed;
}

-- ---- what a call answers, in the paper's terms

pub data Answered : Type 0 where
  need_more : Answered
  -- len bytes of the lent ones from place at on, and whether a packet ends there
  part : (at len : ℕ) (ends : Bool) → Answered
  refused : (number : ℕ) → Answered

abbrev pub answer_said : Result (Option Piece) Refusal → Answered
answer_said (Ok None) = need_more
answer_said (Ok (Some p)) = part p.at p.len p.ends
answer_said (Err r) = refused (number r)

-- a call: its answer, the bytes used, and what the state is then
pub record Done : Type 0 where
  pub answer : Answered
  pub used : ℕ
  pub next : Stream

abbrev pub done_of : Decoded Piece Stream → Done
done_of r = record { answer = answer_said r.answer; used = r.used; next = r.next }

-- ---- an opening: as that of the waiting reader

unfoldable pub opening : ℕ → Opening Stream
opening limit =
    cond (limit == 0) (refuses 1 (closed (idle limit 0)))
    (cond (nat_lt 1073741824 limit) (refuses 1 (closed (idle limit 0))) (opens (idle limit 0)))

-- ---- one call

-- "A refused call uses 0 bytes"
abbrev pub refuse : ℕ → Stream → Done
refuse k st = record { answer = refused k; used = 0; next = st }

-- payload, of which n bytes are lent from place at on: "up to one chunk's end", "marked if a packet ends there"
unfoldable pub payload : Stream → (at n : ℕ) → Done
payload st at n =
    cond (nat_le st.left n)
    (record { answer = part at st.left (not st.full); used = at + st.left; next = ended st })
    (record { answer = part at n false; used = at + n; next = further st n })

-- "then the number (3), before any payload"
unfoldable pub numbered : ℕ → Stream → (len num at n : ℕ) → Done
numbered m st len num at n = cond (num == st.number) (payload (begun m st len num) at n) (refuse 3 (closed st))

-- "Too large (2) is tested when the header is complete". As for the waiting reader, "Length 0: tests 3 .."
unfoldable pub headed : ℕ → Stream → (len num at n : ℕ) → Done
headed m st len num at n =
    cond (len == 0) (numbered m st 0 num at n)
    (cond (nat_lt st.limit (st.taken + len)) (refuse 2 (closed st)) (numbered m st len num at n))

-- between two chunks. h is the header bytes kept and the bytes lent behind them: fewer than four are kept
unfoldable pub header : ℕ → Stream → (u h : List ℕ) → Done
header m st u h =
    cond (nat_lt (length h) 4) (record { answer = need_more; used = length u; next = keeping st h })
    (headed m st (le_at h 0 3) (slice_index h 3) (4 - length (kept st)) (length h - 4))

-- "7 first of all. With no bytes lent: need more"
unfoldable pub pass : ℕ → Stream → List ℕ → Done
pass m st u =
    cond st.closed (refuse 7 st)
    (cond (length u == 0) (record { answer = need_more; used = 0; next = st })
    (cond (st.left == 0) (header m st u (kept st ++ u)) (payload st 0 (length u))))
