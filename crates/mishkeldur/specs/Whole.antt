-- The common cases of reading, by the bytes of a state and of the source: nothing begun, and a whole packet of one chunk at the front,
-- with frames on in a frame of its own.
use Rattle.std.specs.Prelude.{◌≡◌, ℕ, ◌+◌, ◌-◌, ◌≤◌, List, length, slice_index, slice_index_or}
use Rattle.wire.specs.Le.{le_at}
use Rattle.chunk.specs.Chunks.{largest}
use Rattle.mishkeldur.specs.State.{mark}

-- the bytes of an open state that has begun no chunk, no packet and no frame, as they are kept; frames are on by mode 1
pub record Idle (mode : ℕ) (s : List ℕ) : Type 0 where
  pub marked : slice_index_or s 0 0 ≡ mark
  pub waiting : slice_index_or s 2 0 ≡ 0
  pub ahead : slice_index_or s 3 0 ≡ 0
  pub held : slice_index_or s 5 0 ≡ 0
  pub framed : slice_index_or s 7 0 ≡ mode
  pub taken : le_at s 24 8 ≡ 0
  pub len : le_at s 40 8 ≡ 0

-- at a place of u a chunk of len bytes is the last of its packet and has the number of the state s, within the limit and the room
pub record Chunk (s u : List ℕ) (at room len : ℕ) : Type 0 where
  pub size : len ≡ le_at u at 3
  pub front : at + 4 + len ≤ length u
  pub number : slice_index_or u (at + 3) 0 ≡ slice_index s 1
  pub limit : len ≤ le_at s 8 8
  pub fits : len ≤ room
  pub last : len ≡ largest → ⊥

-- the chunk at the front of u takes n bytes
pub record Whole (s u : List ℕ) (room n : ℕ) : Type 0 where
  pub idle : Idle 0 s
  pub least : 4 ≤ n
  pub chunk : Chunk s u 0 room (n - 4)

-- with frames on besides: no frame remembered, and nothing unread
pub record IdleFramed (s : List ℕ) : Type 0 where
  pub idle : Idle 1 s
  pub coming : slice_index_or s 6 0 ≡ 0
  pub unread : le_at s 16 8 ≡ 0
  pub held : le_at s 32 8 ≡ 0

-- the header of a stored frame of some size with the next frame's number, within the limit and staging's room
pub record Header (s u : List ℕ) (staging size : ℕ) : Type 0 where
  pub number : slice_index_or u 3 0 ≡ slice_index s 4
  pub stored : le_at u 4 3 ≡ 0
  pub limit : size ≤ le_at s 8 8
  pub stages : size ≤ staging

-- the frame at the front of u takes n bytes, and holds just such a chunk
pub record WholeFrame (s u : List ℕ) (staging room n : ℕ) : Type 0 where
  pub rest : IdleFramed s
  pub least : 11 ≤ n
  pub size : le_at u 0 3 ≡ n - 7
  pub header : Header s u staging (n - 7)
  pub chunk : Chunk s u 7 room (n - 11)
