-- Stored frames, by 01's section of that name: what the frames of a chunk stream are, over a piece size c.
use Rattle.std.specs.Prelude.{ℕ, zero, suc, ◌+◌, ◌-◌, ◌*◌, ◌/◌, ◌%◌, List, [], ◌∷◌, ◌++◌, length, take, drop}
use mathlib.Core.List.{flatten}
use Rattle.wire.specs.Le.{le_bytes}
use Rattle.chunk.specs.Chunks.{next}

-- "Seven bytes: frame length (3), frame number, plain length (3, zero when stored)"
unfoldable pub frame : ℕ → List ℕ → List ℕ
frame k p = le_bytes 3 (length p) ++ (k ∷ []) ++ le_bytes 3 0 ++ p

-- how many pieces of c bytes n bytes make: n / c, rounded up
unfoldable pub ceil : ℕ → ℕ → ℕ
ceil n c = (n + (c - 1)) / c

-- q pieces of a stream; all but the last hold c bytes
unfoldable pub split : ℕ → ℕ → List ℕ → List (List ℕ)
split zero c s = []
split (suc q) c s = take c s ∷ split q c (drop c s)

-- pieces as frames, numbered from k on: "Frame numbers advance per frame"
unfoldable pub numbered_frames : ℕ → List (List ℕ) → List (List ℕ)
numbered_frames k [] = []
numbered_frames k (p ∷ ps) = frame k p ∷ numbered_frames (next k) ps

-- the frames of a chunk stream, one by one, and as the bytes that they make
unfoldable pub frames_of : ℕ → ℕ → List ℕ → List (List ℕ)
frames_of c k s = numbered_frames k (split (ceil (length s) c) c s)

unfoldable pub frames : ℕ → ℕ → List ℕ → List ℕ
frames c k s = flatten (frames_of c k s)

-- "it needs T + 7·ceil(T / min(M, limit)) bytes"
unfoldable pub frames_need : ℕ → ℕ → ℕ
frames_need c n = n + 7 * ceil n c

-- the number after the frames of a stream of n bytes
unfoldable pub frames_after : ℕ → ℕ → ℕ → ℕ
frames_after c k n = (k + ceil n c) % 256
