-- Request W7: what a host sees through a straight-through reader, beside what it sees through the waiting one. m is the piece size.
use Rattle.chunk.specs.declared.Decoded.{Decoded}
use Rattle.stream.specs.declared.Piece.{Piece}
use Rattle.std.specs.Prelude.{ℕ, zero, suc, ◌+◌, ◌-◌, ◌%◌, ◌≤◌, ◌<◌, ◌≡◌, Bool, true, false, cond, length, take, drop, eqb}
use mathlib.Core.List.{List, [], ◌∷◌, ◌++◌, map, flatten}
use Rattle.wire.specs.Le.{le_at}
use Rattle.chunk.specs.Chunks.{largest}
use Rattle.chunk.specs.declared.PlainPacketCodec.{PlainPacketCodec}
use Rattle.chunk.specs.Read as Waiting
use Rattle.stream.specs.Stream.{Answered, need_more, part, refused, Done, done_of, idle, refuse, pass}
use Rattle.stream.specs.declared.Stream.{Stream}
use Rattle.line.specs.Host.{Event, handed, refusal, Habit, Host, calls}
use Rattle.line.specs.Arrivals.{arrived, InPlace, Misplaced}
use Rattle.line.specs.Written.{written, writer, complete}
use Rattle.line.specs.Line.{Sent, refusal_of}
use Rattle.line.specs.Code.{plain_end}

-- ---- the host

-- one call of a straight-through reader, on the bytes lent
abbrev pub Through : Type 0
Through = Stream → List ℕ → Done

-- what a host has seen: marked packets, their parts joined, and a refusal at the end if there was one; then the bytes of the packet
-- that has not ended, which nothing vouches for, and the reader's state
pub record Watched : Type 0 where
  pub events : List Event
  pub refusing : Bool
  pub sofar : List ℕ
  pub state : Stream

abbrev pub still : Stream → List ℕ → Watched
still st sofar = record { events = []; refusing = false; sofar = sofar; state = st }

abbrev pub before : List Event → Watched → Watched
before es w = record { events = es ++ w.events; refusing = w.refusing; sofar = w.sofar; state = w.state }

-- the host after one call on u, with what it sees in the calls behind a part, given the packet's bytes so far
abbrev pub after_pass : (List ℕ → Watched) → (sofar u : List ℕ) → Done → Answered → Watched
after_pass behind sofar u d need_more = still d.next sofar
after_pass behind sofar u d (refused k) = record { events = refusal k ∷ []; refusing = true; sofar = sofar; state = d.next }
after_pass behind sofar u d (part at len true) = before (handed (sofar ++ take len (drop at u)) ∷ []) (behind [])
after_pass behind sofar u d (part at len false) = behind (sofar ++ take len (drop at u))

module _ (r : Through) where
  -- calls on one piece until its bytes are used up: each takes a byte or more, so f of them are enough where f is the piece's length
  unfoldable pub passes : ℕ → Stream → (sofar u : List ℕ) → Watched
  passes zero st sofar u = still st sofar
  passes (suc f) st sofar u =
      let d = r st u in
      cond (eqb (length u) 0) (still st sofar) (after_pass (λ s. passes f d.next s (drop d.used u)) sofar u d d.answer)

  -- each piece in turn, up to the first refusal
  unfoldable pub watch : Stream → List ℕ → List (List ℕ) → Watched
  watch st sofar [] = still st sofar
  watch st sofar (c ∷ cs) =
      let w = passes (length c) st sofar c in
      cond w.refusing w (before w.events (watch w.state w.sofar cs))

-- ---- "Over any cutting of any input the marked packets equal those of the waiting reader with enough room, and the refusal number, if
-- any, is the same once the waiting reader has the whole chunk"

-- the waiting reader's host has the same bytes. Either both have seen the same; or the straight-through reader has refused already, with 3,
-- a chunk that the waiting one has the header of and not yet the whole: it then asks for more, and has refused nothing
pub data Agrees (es : List Event) (h : Host PlainPacketCodec) : Type 0 where
  same : es ≡ h.events → Agrees es h
  sooner : (packets : List (List ℕ)) → h.events ≡ map handed packets → es ≡ map handed packets ++ (refusal 3 ∷ []) → 4 ≤ length h.unread
      → length h.unread < le_at h.unread 0 3 + 4 → Agrees es h

-- for every limit l and number k, "enough room" being a buffer of the limit at each packet
pub record Straight (m : ℕ) (r : Through) : Type 0 where
  pub agrees : (l k : ℕ) (b : List ℕ) (habit : Habit PlainPacketCodec) → l ≤ length b
      → ((n : ℕ) (d : List ℕ) → l ≤ length d → l ≤ length (habit.lends n d))
      → ((st : PlainPacketCodec) → habit.acts st ≡ st)
      → (pieces : List (List ℕ))
      → Agrees (watch r (idle l k) [] pieces).events (calls (plain_end m).reader habit 0 (Waiting.idle l k) (flatten pieces) b)

-- the packets among what was seen, in order
abbrev pub packets_of : List Event → List (List ℕ)
packets_of [] = []
packets_of (handed p ∷ es) = p ∷ packets_of es
packets_of (refusal k ∷ es) = packets_of es

-- of the chunk at the front of the unread bytes, if there is a header, all has come
abbrev pub HasWhole : Host PlainPacketCodec → Type 0
HasWhole h = 4 ≤ length h.unread → le_at h.unread 0 3 + 4 ≤ length h.unread

-- ---- demand 3, straight through: as specs/Line.antt has it, with no buffer

pub record StraightLine (m : ℕ) (r : Through) : Type 0 where
  -- however the bytes are cut, any t of them that hold the misplaced chunk: exactly the packets that end before that arrival, in order,
  -- then the refusal; and nothing after: only 7, to whatever is lent
  pub misplaced : (k l : ℕ) (ps : List (List ℕ)) (a : List ℕ) → Sent m k l ps a
      → (i : ℕ) → Misplaced a i
      → (t : ℕ) → length (arrived (written m k ps) (take (suc i) a)) ≤ t
      → (pieces : List (List ℕ)) → flatten pieces ≡ take t (arrived (written m k ps) a)
      → ((watch r (idle l k) [] pieces).events ≡ map handed (complete m ps i) ++ (refusal (refusal_of m k l ps a i) ∷ []))
      × ((u : List ℕ) → r (watch r (idle l k) [] pieces).state u ≡ refuse 7 (watch r (idle l k) [] pieces).state)
  -- none is out of place: every packet whose chunks all came, and no refusal; the number is behind the writer's by the chunks missing at
  -- the end, modulo 256
  pub in_place : (k l : ℕ) (ps : List (List ℕ)) (a : List ℕ) → Sent m k l ps a
      → InPlace a
      → (pieces : List (List ℕ)) → flatten pieces ≡ arrived (written m k ps) a
      → ((watch r (idle l k) [] pieces).events ≡ map handed (complete m ps (length a)))
      × ((watch r (idle l k) [] pieces).state.number < 256)
      × (((watch r (idle l k) [] pieces).state.number + (length (written m k ps) - length a)) % 256 ≡ writer m k ps)

-- ---- as code: any that meets the contract of `stream::pass`

abbrev pub Passes : (Stream → List ℕ → Decoded Piece Stream) → Type 0
Passes f = (st : Stream) (src : List ℕ) → done_of (f st src) ≡ pass largest st src

abbrev pub code_through : (Stream → List ℕ → Decoded Piece Stream) → Through
code_through f st u = done_of (f st u)
