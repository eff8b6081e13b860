-- A straight-through reader (request W7) in a lent byte slice, of which every content is some state, and what its entries make of it.
use Rattle.std.specs.Prelude.{◌≡◌, ℕ, Bool, true, cond, List, [], ◌∷◌, ◌++◌, length, ◌==◌, nat_lt, slice_index}
use Rattle.wire.specs.Le.{le_at, le_bytes}
use Rattle.wire.specs.Room.{patch}
use Rattle.chunk.specs.Chunks.{largest}
use Rattle.chunk.specs.Read.{Opening, opens, refuses}
use Rattle.stream.specs.Stream.{opening, Answered, need_more, part, refused, Done, pass, renumbered}
use Rattle.stream.specs.declared.Stream.{Stream}
use Rattle.mishkeldur.specs.Face.{flag, flag_no}

abbrev pub stream_size : ℕ
stream_size = 64

-- the first byte of a stream's state, open or closed. It is not the codec's mark, so that neither takes the other's state for its own
abbrev pub stream_mark : ℕ
stream_mark = 0x53

-- any first byte but the mark is a closed state: zeroed or foreign memory answers 7
unfoldable pub shut : (first closed : ℕ) → Bool
shut first closed = cond (first == stream_mark) (flag closed) true

-- what the bytes of a state mean. Bytes 32 to 63 mean nothing yet
unfoldable pub stream_of : List ℕ → Stream
stream_of s = record {
  limit = le_at s 8 8;
  taken = le_at s 16 8;
  left = le_at s 24 8;
  got = slice_index s 4;
  first = slice_index s 5;
  second = slice_index s 6;
  third = slice_index s 7;
  number = slice_index s 2;
  full = (slice_index s 3 == 1);
  closed = shut (slice_index s 0) (slice_index s 1);
}

-- a state as bytes
unfoldable pub stream_bytes : Stream → List ℕ
stream_bytes st =
    (stream_mark ∷ flag_no st.closed ∷ st.number ∷ flag_no st.full ∷ st.got ∷ st.first ∷ st.second ∷ st.third ∷ [])
    ++ le_bytes 8 st.limit ++ le_bytes 8 st.taken ++ le_bytes 8 st.left

-- a slice with another state in it: what lies past its bytes stays
abbrev pub holding : List ℕ → Stream → List ℕ
holding s st = patch s 0 (stream_bytes st)

-- "Too short a slice: 6", tested before all else, and then nothing changes
abbrev pub small : List ℕ → Bool
small s = nat_lt (length s) stream_size

-- ---- opening, and the next chunk's number

abbrev pub opening_status : Opening Stream → ℕ
opening_status (opens st) = 0
opening_status (refuses k st) = k

abbrev pub opening_stream : Opening Stream → Stream
opening_stream (opens st) = st
opening_stream (refuses k st) = st

-- "a refused opening writes the closed state"
pub record OpensStream (s : List ℕ) (limit r : ℕ) (s' : List ℕ) : Type 0 where
  pub status : r ≡ cond (small s) 6 (opening_status (opening limit))
  pub state : s' ≡ cond (small s) s (holding s (opening_stream (opening limit)))

pub record Renumbers (s : List ℕ) (k r : ℕ) (s' : List ℕ) : Type 0 where
  pub status : r ≡ cond (small s) 6 0
  pub state : s' ≡ cond (small s) s (holding s (renumbered (stream_of s) k))

-- ---- reading: u is the bytes lent; the lent place, length and mark held a, n and e

-- "255 need more"
abbrev pub answer_status : Answered → ℕ
answer_status need_more = 255
answer_status (part at len ends) = 0
answer_status (refused k) = k

-- what lent numbers hold then: those of a part, where there is one
abbrev pub part_place : Answered → ℕ → ℕ
part_place need_more a = a
part_place (part at len ends) a = at
part_place (refused k) a = a

abbrev pub part_len : Answered → ℕ → ℕ
part_len need_more n = n
part_len (part at len ends) n = len
part_len (refused k) n = n

abbrev pub part_ends : Answered → ℕ → ℕ
part_ends need_more e = e
part_ends (part at len ends) e = flag_no ends
part_ends (refused k) e = e

abbrev pub pass_by : (s u : List ℕ) → Done
pass_by s u = pass largest (stream_of s) u

-- the bytes used on every answer; a closed state stays as it is, byte for byte
pub record Passes (s u : List ℕ) (a n e r : ℕ) (s' : List ℕ) (used' place' len' ends' : ℕ) : Type 0 where
  pub status : r ≡ cond (small s) 6 (answer_status (pass_by s u).answer)
  pub used : used' ≡ cond (small s) 0 (pass_by s u).used
  pub place : place' ≡ cond (small s) a (part_place (pass_by s u).answer a)
  pub len : len' ≡ cond (small s) n (part_len (pass_by s u).answer n)
  pub ends : ends' ≡ cond (small s) e (part_ends (pass_by s u).answer e)
  pub state : s' ≡ cond (small s) s (cond (stream_of s).closed s (holding s (pass_by s u).next))
