-- A codec in a lent byte slice, of which every content is some codec, and what the packet entries make of it.
use Rattle.std.specs.Prelude.{◌≡◌, ℕ, Bool, true, false, cond, List, [], ◌∷◌, ◌++◌, length, ◌==◌, nat_lt, slice_index}
use Rattle.wire.specs.Le.{le_at, le_bytes}
use Rattle.wire.specs.Room.{patch}
use Rattle.chunk.specs.Chunks.{largest}
use Rattle.chunk.specs.Read.{Answered, need_more, packet, refused}
use Rattle.frame.specs.Codec.{unread_of}
use Rattle.frame.specs.Read.{Done}
use Rattle.frame.specs.Write.{Sent}
use Rattle.frame.specs.declared.PacketCodec.{PacketCodec}
use Rattle.chunk.specs.Read.{Opening, opens, refuses}
use Rattle.codec.specs.Connection.{opening, read_packet, staging_stays, write_packet}
use Rattle.mishkeldur.specs.Face.{status, holds, flag_no}

-- "a lent byte slice of 128 bytes"
abbrev pub state_size : ℕ
state_size = 128

-- the open mark: a first byte other than this is a closed state, so that zeroed or foreign memory answers 7
abbrev pub mark : ℕ
mark = 0x4B

-- what the bytes of a state mean. Bytes 48 to 127 mean nothing yet
unfoldable pub codec_of : List ℕ → PacketCodec
codec_of s = record {
  limit = le_at s 8 8;
  taken = le_at s 24 8;
  len = le_at s 40 8;
  unread = le_at s 16 8;
  size = le_at s 32 8;
  number = slice_index s 1;
  waiting = (slice_index s 2 == 1);
  ahead = slice_index s 3;
  closed = cond (slice_index s 0 == mark) false true;
  frame = slice_index s 4;
  held = (slice_index s 5 == 1);
  coming = slice_index s 6;
  framed = (slice_index s 7 == 1);
}

-- a codec as bytes
unfoldable pub state_bytes : PacketCodec → List ℕ
state_bytes c =
    (cond c.closed 0 mark ∷ c.number ∷ flag_no c.waiting ∷ c.ahead ∷ c.frame ∷ flag_no c.held ∷ c.coming ∷ flag_no c.framed ∷ [])
    ++ le_bytes 8 c.limit ++ le_bytes 8 c.unread ++ le_bytes 8 c.taken ++ le_bytes 8 c.size ++ le_bytes 8 c.len

-- a state's slice with another codec in it: what lies past its bytes stays
abbrev pub keeping : List ℕ → PacketCodec → List ℕ
keeping s c = patch s 0 (state_bytes c)

-- "Too short a slice: 6", tested before all else, and then nothing changes
abbrev pub short : List ℕ → Bool
short s = nat_lt (length s) state_size

-- ---- opening, and what changes a codec between packets

abbrev pub opening_status : Opening PacketCodec → ℕ
opening_status (opens c) = 0
opening_status (refuses k c) = k

abbrev pub opening_codec : Opening PacketCodec → PacketCodec
opening_codec (opens c) = c
opening_codec (refuses k c) = c

-- "a refused opening writes the closed state"
pub record Opens (s : List ℕ) (limit r : ℕ) (s' : List ℕ) : Type 0 where
  pub status : r ≡ cond (short s) 6 (opening_status (opening limit))
  pub state : s' ≡ cond (short s) s (keeping s (opening_codec (opening limit)))

-- frames on, reset and sync: f of the codec
pub record Changes (f : PacketCodec → PacketCodec) (s : List ℕ) (r : ℕ) (s' : List ℕ) : Type 0 where
  pub status : r ≡ cond (short s) 6 0
  pub state : s' ≡ cond (short s) s (keeping s (f (codec_of s)))

-- ---- reading: u is the unread source, g the staging buffer, b the packet buffer

-- "255 need more"
abbrev pub answer_status : Answered → ℕ
answer_status need_more = 255
answer_status (packet n) = 0
answer_status (refused k) = k

-- a packet's length, where there is one
abbrev pub packet_len : Answered → ℕ → ℕ
packet_len need_more n = n
packet_len (packet len) n = len
packet_len (refused k) n = n

abbrev pub read_by : (s u g b : List ℕ) → Done
read_by s u g b = read_packet largest (codec_of s) u g b

-- "reading writes the bytes used on every answer"; a closed state stays as it is, byte for byte. The
-- lent length held old
pub record Reads (s u g b : List ℕ) (old r : ℕ) (s' g' b' : List ℕ) (used' len' : ℕ) : Type 0 where
  pub status : r ≡ cond (short s) 6 (answer_status (read_by s u g b).answer)
  pub used : used' ≡ cond (short s) 0 (read_by s u g b).used
  pub len : len' ≡ cond (short s) old (packet_len (read_by s u g b).answer old)
  pub state : s' ≡ cond (short s) s (cond (codec_of s).closed s (keeping s (read_by s u g b).next))
  pub packet : b' ≡ cond (short s) b (read_by s u g b).buf
  pub unread : short s ≡ false → unread_of (read_by s u g b).next g' ≡ (read_by s u g b).unread
  pub stays : cond (short s) true (staging_stays (codec_of s) g) ≡ true → g' ≡ g

-- ---- writing: p is the packet, d the buffer; the lent number held old

abbrev pub write_by : (s p d : List ℕ) → Sent
write_by s p d = write_packet largest (codec_of s) p d

pub record Writes (s p d : List ℕ) (old r : ℕ) (s' d' : List ℕ) (written' : ℕ) : Type 0 where
  pub status : r ≡ cond (short s) 6 (status (write_by s p d).said)
  pub written : written' ≡ cond (short s) old (holds (write_by s p d).said (λ n. n) old)
  pub state : s' ≡ cond (short s) s (holds (write_by s p d).said (λ n. keeping s (write_by s p d).next) s)
  pub left : d' ≡ cond (short s) d (write_by s p d).buf

-- ---- the numbers of a state, for who looks; the lent ones held n, f, u, m and k

pub record Looks (s : List ℕ) (r : ℕ) (n f u m k : ℕ) (number' frame' unread' framed' closed' : ℕ) : Type 0 where
  pub status : r ≡ cond (short s) 6 0
  pub number : number' ≡ cond (short s) n (codec_of s).number
  pub frame : frame' ≡ cond (short s) f (codec_of s).frame
  pub unread : unread' ≡ cond (short s) u (codec_of s).unread
  pub framed : framed' ≡ cond (short s) m (flag_no (codec_of s).framed)
  pub closed : closed' ≡ cond (short s) k (flag_no (codec_of s).closed)
