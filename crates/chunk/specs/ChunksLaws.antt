-- Laws of a packet's chunks: by whether the packet goes on behind the first one. No proof past these looks at the count.
use Rattle.std.specs.Prelude.{◌≡◌, ℕ, zero, suc, ◌+◌, ◌-◌, ◌<◌, ◌≤◌, List, [], ◌∷◌, ◌++◌, length, take, drop}
use Rattle.std.proofs.Common.{ap, ◌∙◌, add-one, arith, length-append, length-take, length-drop}
use mathlib.Core.List.{flatten, append_assoc, append-nil}
use Rattle.std.proofs.Math.Nat.{div-eq_of_lt, div-eq-sub-div}
use Rattle.std.proofs.Math.Decide.{dec_le}
use Rattle.wire.specs.Le.{le_bytes}
use Rattle.wire.specs.LeLaws.{le_length}
use Rattle.chunk.specs.Chunks.{next, chunk, cut, pieces, numbered, chunks_of, chunks, needed, after}

-- ---- the chunks one by one

-- less than m bytes: one chunk
pub chunks_of_last : (m k : ℕ) (p : List ℕ) → length p < m → chunks_of m k p ≡ chunk k p ∷ []
unfolding chunks_of pieces cut numbered
chunks_of_last m k p h = rw (div-eq_of_lt h)

-- m bytes or more: a chunk of m bytes, then the chunks of the rest
pub chunks_of_more : (m k : ℕ) (p : List ℕ) → 0 < m → m ≤ length p → chunks_of m k p ≡ chunk k (take m p) ∷ chunks_of m (next k) (drop m p)
unfolding chunks_of pieces cut numbered
chunks_of_more m k p h g = rw (div-eq-sub-div h g, add-one, length-drop)

-- ---- the bytes that they make

pub chunks_last : (m k : ℕ) (p : List ℕ) → length p < m → chunks m k p ≡ chunk k p
unfolding chunks flatten
chunks_last m k p h = ap flatten (chunks_of_last m k p h) ∙ append-nil (chunk k p)

pub chunks_more : (m k : ℕ) (p : List ℕ) → 0 < m → m ≤ length p → chunks m k p ≡ chunk k (take m p) ++ chunks m (next k) (drop m p)
unfolding chunks flatten
chunks_more m k p h g = ap flatten (chunks_of_more m k p h g)

pub needed_last : (m n : ℕ) → n < m → needed m n ≡ n + 4
unfolding needed
needed_last m n h = rw (div-eq_of_lt h)

pub needed_more : (m n : ℕ) → 0 < m → m ≤ n → needed m n ≡ m + 4 + needed m (n - m)
unfolding needed
needed_more m n h g = rw (div-eq-sub-div h g) (omega arith)

pub after_last : (m k n : ℕ) → n < m → after m k n ≡ next k
unfolding after next
after_last m k n h = rw (div-eq_of_lt h)

pub after_more : (m k n : ℕ) → 0 < m → m ≤ n → after m k n ≡ after m (next k) (n - m)
unfolding after next
after_more m k n h g = rw (div-eq-sub-div h g) (omega arith)

-- a chunk's header and payload, as a list
pub chunk_is : (k : ℕ) (p : List ℕ) → chunk k p ≡ le_bytes 3 (length p) ++ (k ∷ p)
unfolding chunk
chunk_is k p = append_assoc (le_bytes 3 (length p)) (k ∷ []) p

pub length-chunk : (k : ℕ) (p : List ℕ) → length (chunk k p) ≡ length p + 4
length-chunk k p = rw (chunk_is k p, length-append, le_length) (omega arith)

-- "Writing needs n + 4·(floor(n/M)+1) bytes": the chunks are so many
length_go : (f m k : ℕ) (p : List ℕ) → 0 < m → length p ≤ f → length (chunks m k p) ≡ needed m (length p)
length_go zero m k p pos h = rw (chunks_last m k p (omega arith), length-chunk k p, needed_last m (length p) (omega arith))
length_go (suc f) m k p pos h =
    elim (dec_le m (length p)) [
      | yes g ↦
          let q : length (take m p) ≡ m = rw length-take (omega arith) in
          rw (
            chunks_more m k p pos g,
            length-append,
            length-chunk,
            q,
            length_go f m (next k) (drop m p) pos (rw length-drop (omega arith)),
            length-drop,
            needed_more m (length p) pos g,
          )
      | no g ↦ rw (chunks_last m k p (omega arith), length-chunk k p, needed_last m (length p) (omega arith))
    ]

pub length-chunks : (m k : ℕ) (p : List ℕ) → 0 < m → length (chunks m k p) ≡ needed m (length p)
length-chunks m k p pos = length_go (length p) m k p pos (omega arith)
