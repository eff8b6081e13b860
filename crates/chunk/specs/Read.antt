-- Reading, by 01's "Plain chunks", over a piece size m: the opening, one chunk by the five steps, and a call.
use Rattle.chunk.specs.declared.Shut.{Shut}
use Rattle.refusal.specs.declared.Refusal.{Refusal}
use Rattle.std.specs.Prelude.{ℕ, zero, suc, ◌+◌, Bool, true, false, cond, List, length, take, drop, ◌==◌, nat_lt, slice_index, Result, Ok, Err, Option, Some, None}
use Rattle.refusal.specs.Number.{number}
use Rattle.wire.specs.Le.{le_at}
use Rattle.wire.specs.Room.{patch}
use Rattle.chunk.specs.Chunks.{next}
use Rattle.chunk.specs.declared.PlainPacketCodec.{PlainPacketCodec}
use Rattle.chunk.specs.declared.Decoded.{Decoded}
use Rattle.chunk.specs.declared.Turn.{Turn}

-- ---- states: any record of this shape is one. What is not named in an update stays

-- "Idle means open, with no header remembered and no byte of a packet taken"
abbrev pub idle : ℕ → ℕ → PlainPacketCodec
idle limit k = record { limit = limit; taken = 0; len = 0; number = k; waiting = false; ahead = 0; closed = false }

abbrev pub closed : PlainPacketCodec → PlainPacketCodec
closed st = record { limit = st.limit; taken = st.taken; len = st.len; number = st.number; waiting = st.waiting; ahead = st.ahead; closed = true }

-- with a header remembered: its chunk's length and number
abbrev pub holding : PlainPacketCodec → ℕ → ℕ → PlainPacketCodec
holding st len num = record { limit = st.limit; taken = st.taken; len = len; number = st.number; waiting = true; ahead = num; closed = st.closed }

-- a chunk with number num later, with n bytes of a packet taken. What means nothing now is zero
abbrev pub past : PlainPacketCodec → ℕ → ℕ → PlainPacketCodec
past st num n = record { limit = st.limit; taken = n; len = 0; number = next num; waiting = false; ahead = 0; closed = st.closed }

-- `reset_seq_id`, and a writer's step: another number
abbrev pub renumbered : PlainPacketCodec → ℕ → PlainPacketCodec
renumbered st k = record { limit = st.limit; taken = st.taken; len = st.len; number = k; waiting = st.waiting; ahead = st.ahead; closed = st.closed }

-- the header that a state remembers
pub data Held : Type 0 where
  none : Held
  held : (len num : ℕ) → Held

abbrev pub held_if : Bool → ℕ → ℕ → Held
held_if true len num = held len num
held_if false len num = none

abbrev pub held_of : PlainPacketCodec → Held
held_of st = held_if st.waiting st.len st.ahead

-- ---- opening

pub data Opening (S : Type 0) : Type 0 where
  opens : S → Opening S
  refuses : ℕ → S → Opening S

-- "opening with limit 0 or above 1,073,741,824" is 1, and the state is then a closed one; an opening "gives number 0, idle"
unfoldable pub opening : ℕ → Opening PlainPacketCodec
opening limit =
    cond (limit == 0) (refuses 1 (closed (idle limit 0)))
    (cond (nat_lt 1073741824 limit) (refuses 1 (closed (idle limit 0))) (opens (idle limit 0)))

abbrev pub opened_said : {S : Type 0} → Result S (Shut S) → Opening S
opened_said (Ok st) = opens st
opened_said (Err e) = refuses (number e.why) e.state

-- ---- what a call answers, in the paper's terms

pub data Answered : Type 0 where
  need_more : Answered
  packet : (length : ℕ) → Answered
  refused : (number : ℕ) → Answered

abbrev pub answer_said : Result (Option ℕ) Refusal → Answered
answer_said (Ok None) = need_more
answer_said (Ok (Some n)) = packet n
answer_said (Err r) = refused (number r)

-- a call: its answer, the bytes used, and what the state and the packet buffer are then
pub record Done : Type 0 where
  pub answer : Answered
  pub used : ℕ
  pub next : PlainPacketCodec
  pub buf : List ℕ

-- one chunk: with more, the packet goes on behind it
pub record Turned : Type 0 where
  pub more : Bool
  pub done : Done

-- what the code's answers say, with the buffer at its exit
abbrev pub done_of : Decoded ℕ PlainPacketCodec → List ℕ → Done
done_of r b = record { answer = answer_said r.answer; used = r.used; next = r.next; buf = b }

abbrev pub turned_of : Turn → List ℕ → Turned
turned_of t b = record { more = t.more; done = done_of t.decoded b }

-- ---- one chunk. m is the piece size, x the tolerance, u the unread bytes, b the packet buffer

-- nothing is taken
abbrev pub stop : Answered → PlainPacketCodec → List ℕ → Turned
stop a st b = record { more = false; done = record { answer = a; used = 0; next = st; buf = b } }

-- a chunk is taken: its bytes follow those so far. "A chunk of M bytes is followed by more of the packet"
unfoldable pub took : ℕ → PlainPacketCodec → (len num : ℕ) (u b : List ℕ) → Turned
took m st len num u b =
    let sofar = st.taken + len in
    let b' = patch b st.taken (take len (drop 4 u)) in
    cond (len == m)
    (record { more = true; done = record { answer = need_more; used = len + 4; next = past st num sofar; buf = b' } })
    (record { more = false; done = record { answer = packet sofar; used = len + 4; next = past st num 0; buf = b' } })

-- the expected number, or a second one that is accepted besides
abbrev pub accepted : Option ℕ → ℕ → ℕ → Bool
accepted None want num = num == want
accepted (Some other) want num = cond (num == want) true (num == other)

-- steps 4 and 5, for a header that says len and num: "Until 4 + length bytes are lent: need more"; "Test 3, then 6 (bytes so far
-- + length exceeds the buffer), then copy. After 6 the header stays remembered"
unfoldable pub chunk_at : ℕ → Option ℕ → PlainPacketCodec → (len num : ℕ) (u b : List ℕ) → Turned
chunk_at m x st len num u b =
    cond (nat_lt (length u) (len + 4)) (stop need_more st b)
    (cond (accepted x st.number num)
    (cond (nat_lt (length b) (st.taken + len)) (stop (refused 6) st b) (took m st len num u b))
    (stop (refused 3) (closed st) b))

-- steps 2 and 3: "Length 0: tests 3 and 6, then take 4 bytes; it is a last chunk. Otherwise test 2 at once, then remember length
-- and number, still taking nothing"
unfoldable pub headed : ℕ → Option ℕ → PlainPacketCodec → (len num : ℕ) (u b : List ℕ) → Turned
headed m x st len num u b =
    cond (len == 0) (chunk_at m x st 0 num u b)
    (cond (nat_lt st.limit (st.taken + len)) (stop (refused 2) (closed st) b) (chunk_at m x (holding st len num) len num u b))

-- step 1: "No header remembered and under 4 bytes: need more". "Once remembered, header bytes are not looked at again"
unfoldable pub turn_from : ℕ → Option ℕ → PlainPacketCodec → Held → (u b : List ℕ) → Turned
turn_from m x st none u b = cond (nat_lt (length u) 4) (stop need_more st b) (headed m x st (le_at u 0 3) (slice_index u 3) u b)
turn_from m x st (held len num) u b = chunk_at m x st len num u b

unfoldable pub turn_of : ℕ → Option ℕ → PlainPacketCodec → (u b : List ℕ) → Turned
turn_of m x st u b = turn_from m x st (held_of st) u b

-- ---- a call

-- n bytes more were used before it
abbrev pub later : ℕ → Done → Done
later n d = record { answer = d.answer; used = n + d.used; next = d.next; buf = d.buf }

-- "the reader goes on in the same call if bytes remain": chunk after chunk, f at the most
unfoldable pub turns : ℕ → ℕ → Option ℕ → PlainPacketCodec → (u b : List ℕ) → Done
turns zero m x st u b = record { answer = need_more; used = 0; next = st; buf = b }
turns (suc f) m x st u b =
    let t = turn_of m x st u b in
    cond t.more (later t.done.used (turns f m x t.done.next (drop t.done.used u) t.done.buf)) t.done

-- a call on an open state: a chunk takes four bytes or more, so this many turns are never all made
unfoldable pub opened : ℕ → Option ℕ → PlainPacketCodec → (u b : List ℕ) → Done
opened m x st u b = turns (suc (length u)) m x st u b

-- a call: 7 is "tested before all else"
unfoldable pub read : ℕ → Option ℕ → PlainPacketCodec → (u b : List ℕ) → Done
read m x st u b = cond st.closed (record { answer = refused 7; used = 0; next = st; buf = b }) (opened m x st u b)
