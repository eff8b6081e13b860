-- The codec of a connection: the plain state, and what frames add to it. Any record of this shape is one; what is not named in an
-- update stays.
use Rattle.std.specs.Prelude.{ℕ, ◌+◌, ◌%◌, Bool, true, false, List, take}
use Rattle.chunk.specs.Chunks.{next}
use Rattle.chunk.specs.Read as P
use Rattle.chunk.specs.declared.PlainPacketCodec.{PlainPacketCodec}
use Rattle.frame.specs.declared.PacketCodec.{PacketCodec}

-- the plain state in it
abbrev pub plain_of : PacketCodec → PlainPacketCodec
plain_of c = record { limit = c.limit; taken = c.taken; len = c.len; number = c.number; waiting = c.waiting; ahead = c.ahead; closed = c.closed }

-- with another plain state, and n unread bytes in staging
abbrev pub with_plain : PacketCodec → PlainPacketCodec → ℕ → PacketCodec
with_plain c st n = record {
  limit = st.limit;
  taken = st.taken;
  len = st.len;
  unread = n;
  size = c.size;
  number = st.number;
  waiting = st.waiting;
  ahead = st.ahead;
  closed = st.closed;
  frame = c.frame;
  held = c.held;
  coming = c.coming;
  framed = c.framed;
}

-- with another frame number, n unread bytes, and a frame header remembered or none
abbrev pub with_frame : PacketCodec → (n k : ℕ) → (held : Bool) → (size coming : ℕ) → PacketCodec
with_frame c n k held size coming = record {
  limit = c.limit;
  taken = c.taken;
  len = c.len;
  unread = n;
  size = size;
  number = c.number;
  waiting = c.waiting;
  ahead = c.ahead;
  closed = c.closed;
  frame = k;
  held = held;
  coming = coming;
  framed = c.framed;
}

abbrev pub closed : PacketCodec → PacketCodec
closed c = with_plain c (P.closed (plain_of c)) c.unread

-- a frame header remembered: its frame's length and number
abbrev pub holding_frame : PacketCodec → ℕ → ℕ → PacketCodec
holding_frame c len num = with_frame c c.unread c.frame true len num

-- a frame of len bytes later. What means nothing now is zero
abbrev pub past_frame : PacketCodec → ℕ → PacketCodec
past_frame c len = with_frame c (c.unread + len) (next c.frame) false 0 0

-- both numbers are k: what a framed writer leaves, and `reset_seq_id` with 0
abbrev pub renumbered : PacketCodec → ℕ → PacketCodec
renumbered c k = with_frame (with_plain c (P.renumbered (plain_of c) k) c.unread) c.unread k c.held c.size c.coming

-- the frame header that a codec remembers
pub data FrameHeld : Type 0 where
  none : FrameHeld
  held : (len num : ℕ) → FrameHeld

abbrev pub frame_held_if : Bool → ℕ → ℕ → FrameHeld
frame_held_if true len num = held len num
frame_held_if false len num = none

abbrev pub frame_held_of : PacketCodec → FrameHeld
frame_held_of c = frame_held_if c.held c.size c.coming

-- the unread bytes of a staging buffer: what stands behind them is nobody's
unfoldable pub unread_of : PacketCodec → List ℕ → List ℕ
unread_of c s = take c.unread s

-- "that of the last frame taken (frame number minus one, 0 going to 255)"
abbrev pub last_number : ℕ → ℕ
last_number k = (k + 255) % 256
