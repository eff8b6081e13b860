-- The codec of a connection, plain or framed by what was turned on: 01's "Stored frames", over a piece size m.
use Rattle.std.specs.Prelude.{◌≡◌, Bool, true, false, cond, List, ℕ, length, ltb, eqb, Option, None, Result}
use Rattle.refusal.specs.Said.{said_of}
use Rattle.refusal.specs.declared.Refusal.{Refusal}
use Rattle.chunk.specs.Chunks.{largest}
use Rattle.chunk.specs.Read.{Opening, opens, refuses, answer_said}
use Rattle.chunk.specs.Read as P
use Rattle.chunk.specs.Write as W
use Rattle.chunk.specs.declared.PlainPacketCodec.{PlainPacketCodec}
use Rattle.frame.specs.Codec.{plain_of, with_plain, unread_of}
use Rattle.frame.specs.Read.{Done, read_framed}
use Rattle.frame.specs.Write.{Sent, write_framed}
use Rattle.frame.specs.declared.PacketCodec.{PacketCodec}

-- ---- opening

-- a plain state with frames off: nothing unread, and nothing remembered of frames
abbrev pub unframed : PlainPacketCodec → PacketCodec
unframed st = record {
  limit = st.limit;
  taken = st.taken;
  len = st.len;
  unread = 0;
  size = 0;
  number = st.number;
  waiting = st.waiting;
  ahead = st.ahead;
  closed = st.closed;
  frame = 0;
  held = false;
  coming = 0;
  framed = false;
}

abbrev pub opening_of : Opening PlainPacketCodec → Opening PacketCodec
opening_of (opens st) = opens (unframed st)
opening_of (refuses k st) = refuses k (unframed st)

-- "a new opening, which gives number 0, idle, frames off"; a refused one, which is 1, a closed codec
unfoldable pub opening : ℕ → Opening PacketCodec
opening limit = opening_of (P.opening limit)

-- ---- what changes a codec between packets. What is not named stays

-- "Turning frames on sets frame number 0 and empty staging and keeps the plain state; on again does nothing"
unfoldable pub frames_on : PacketCodec → PacketCodec
frames_on c =
    cond c.framed c
    (record {
      limit = c.limit;
      taken = c.taken;
      len = c.len;
      unread = 0;
      size = 0;
      number = c.number;
      waiting = c.waiting;
      ahead = c.ahead;
      closed = c.closed;
      frame = 0;
      held = false;
      coming = 0;
      framed = true;
    })

-- "`sync_seq_id` copies the frame number to the plain one if frames are on and staging is empty"
unfoldable pub synced : PacketCodec → PacketCodec
synced c = cond c.framed (cond (eqb c.unread 0) (with_plain c (P.renumbered (plain_of c) c.frame) c.unread) c) c

-- ---- reading: u is the unread source, s the staging buffer, b the packet buffer

-- the call as a whole, with the codec and both buffers at its exit
abbrev pub done_of : Result (Option ℕ) Refusal → ℕ → PacketCodec → (s b : List ℕ) → Done
done_of a n c s b = record { answer = answer_said a; used = n; next = c; unread = unread_of c s; buf = b }

-- with frames off: the plain reader. "Frames off: staging is ignored and unchanged"
unfoldable pub read_plain : ℕ → PacketCodec → (u s b : List ℕ) → Done
read_plain m c u s b =
    let d = P.read m None (plain_of c) u b in
    record { answer = d.answer; used = d.used; next = with_plain c d.next c.unread; unread = unread_of c s; buf = d.buf }

unfoldable pub read_packet : ℕ → PacketCodec → (u s b : List ℕ) → Done
read_packet m c u s b = cond c.framed (read_framed m c u s b) (read_plain m c u s b)

-- the calls that leave all of staging as it was: frames off, a closed codec, and staging shorter than its unread bytes
abbrev pub staging_stays : PacketCodec → List ℕ → Bool
staging_stays c s = cond c.framed (cond c.closed true (ltb (length s) c.unread)) true

-- the contract of reading, by value and lent: answer, codec and buffers at exit
pub record Reading (c : PacketCodec) (u s b : List ℕ) (a : Result (Option ℕ) Refusal) (n : ℕ) (c' : PacketCodec) (s' b' : List ℕ) : Type 0 where
  pub done : done_of a n c' s' b' ≡ read_packet largest c u s b
  pub stays : staging_stays c s ≡ true → s' ≡ s

-- ---- writing: p is the packet, d the buffer

unfoldable pub write_plain : ℕ → PacketCodec → (p d : List ℕ) → Sent
write_plain m c p d =
    let w = W.write m (plain_of c) p d in
    record { said = w.said; next = with_plain c w.next c.unread; buf = w.buf }

unfoldable pub write_packet : ℕ → PacketCodec → (p d : List ℕ) → Sent
write_packet m c p d = cond c.framed (write_framed m c p d) (write_plain m c p d)

-- the contract of writing, by value and lent
pub record Writing (c : PacketCodec) (p d : List ℕ) (r : Result ℕ Refusal) (c' : PacketCodec) (d' : List ℕ) : Type 0 where
  pub sent : record { said = said_of r; next = c'; buf = d' } ≡ write_packet largest c p d
