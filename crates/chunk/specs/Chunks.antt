-- Plain chunks, by 01's section of that name, over a piece size m of 1 to M: what a packet's chunks are.
use Rattle.std.specs.Prelude.{ℕ, zero, suc, ◌+◌, ◌*◌, ◌/◌, ◌%◌, List, [], ◌∷◌, ◌++◌, length, take, drop}
use mathlib.Core.List.{flatten}
use Rattle.wire.specs.Le.{le_bytes}

-- "The largest payload is 16,777,215, called M"
abbrev pub largest : ℕ
largest = 16777215

-- "The sequence number goes from 255 to 0"
unfoldable pub next : ℕ → ℕ
next k = (k + 1) % 256

-- "Three bytes of length, low byte first, one sequence byte, then the payload"
unfoldable pub chunk : ℕ → List ℕ → List ℕ
chunk k p = le_bytes 3 (length p) ++ (k ∷ []) ++ p

-- q pieces of m bytes, and the rest
unfoldable pub cut : ℕ → ℕ → List ℕ → List (List ℕ)
cut zero m p = p ∷ []
cut (suc q) m p = take m p ∷ cut q m (drop m p)

-- "A packet of n bytes is cut into floor(n/m)+1 chunks: all but the last hold m bytes, the last holds n mod m, which may be 0"
unfoldable pub pieces : ℕ → List ℕ → List (List ℕ)
pieces m p = cut (length p / m) m p

-- payloads as chunks, numbered from k on
unfoldable pub numbered : ℕ → List (List ℕ) → List (List ℕ)
numbered k [] = []
numbered k (p ∷ ps) = chunk k p ∷ numbered (next k) ps

-- the chunks of a packet, one by one, and as the bytes that they make
unfoldable pub chunks_of : ℕ → ℕ → List ℕ → List (List ℕ)
chunks_of m k p = numbered k (pieces m p)

unfoldable pub chunks : ℕ → ℕ → List ℕ → List ℕ
chunks m k p = flatten (chunks_of m k p)

-- "Writing needs n + 4·(floor(n/M)+1) bytes"
unfoldable pub needed : ℕ → ℕ → ℕ
needed m n = n + 4 * (n / m + 1)

-- the number after the chunks of a packet of n bytes
unfoldable pub after : ℕ → ℕ → ℕ → ℕ
after m k n = (k + (n / m + 1)) % 256
