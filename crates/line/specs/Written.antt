-- The packets that one end writes: their chunks, and how far a number of chunks has come. m is the piece size.
use Rattle.std.specs.Prelude.{ℕ, ◌+◌, ◌-◌, ◌*◌, ◌/◌, cond, List, [], ◌∷◌, ◌++◌, length, leb}
use Rattle.chunk.specs.Chunks.{chunks_of, after}

-- how many chunks a packet takes: floor(n/m)+1
abbrev pub count : ℕ → List ℕ → ℕ
count m p = length p / m + 1

-- the chunks of the packets ps in order, from number k on
unfoldable pub written : ℕ → ℕ → List (List ℕ) → List (List ℕ)
written m k [] = []
written m k (p ∷ ps) = chunks_of m k p ++ written m (after m k (length p)) ps

-- the writer's number when all of them are written
unfoldable pub writer : ℕ → ℕ → List (List ℕ) → ℕ
writer m k [] = k
writer m k (p ∷ ps) = writer m (after m k (length p)) ps

-- the packets that end within the first n chunks, in order
unfoldable pub complete : ℕ → List (List ℕ) → ℕ → List (List ℕ)
complete m [] n = []
complete m (p ∷ ps) n = cond (leb (count m p) n) (p ∷ complete m ps (n - count m p)) []

-- the bytes of the packet that n chunks have begun and not ended: so far all of them hold m bytes
unfoldable pub begun : ℕ → List (List ℕ) → ℕ → ℕ
begun m [] n = 0
begun m (p ∷ ps) n = cond (leb (count m p) n) (begun m ps (n - count m p)) (m * n)
