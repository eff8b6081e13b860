-- The captures that W12 speaks of, computed: the worked one, a chunk refused with 3, which never starts the next stretch, and a cut
-- end, which does not stop the search.
use Rattle.std.proofs.Common.{◌≡◌, [], ◌∷◌, refl}
use Rattle.wire.specs.Le.{le_of}
use Rattle.chunk.specs.Chunks.{next}
use Rattle.salvage.specs.Salvage.{front_of, chunk_at, runs, run_on, follow, starts_at, to_start, good, lost, starting, stretches}

pub worked :
    stretches 61440
    (0x01 ∷ 0x00 ∷ 0x00 ∷ 0x00 ∷ 0x41 ∷ 0xFF ∷ 0xFF ∷ 0xFF ∷ 0xFF ∷ 0xFF ∷ 0x01 ∷ 0x00 ∷ 0x00 ∷ 0x01 ∷ 0x42
    ∷ 0x01 ∷ 0x00 ∷ 0x00 ∷ 0x02 ∷ 0x43 ∷ 0x01 ∷ 0x00 ∷ 0x00 ∷ 0x03 ∷ 0x44 ∷ [])
    ≡ good 0 5 1 ∷ lost 5 5 2 ∷ good 10 15 3 ∷ []
unfolding stretches starting run_on runs chunk_at front_of le_of next to_start starts_at follow
worked = refl

-- empty chunks numbered 0, 1, 3, 4, 5, 6
pub out_of_sync :
    stretches 61440
    (0 ∷ 0 ∷ 0 ∷ 0 ∷ 0 ∷ 0 ∷ 0 ∷ 1 ∷ 0 ∷ 0 ∷ 0 ∷ 3 ∷ 0 ∷ 0 ∷ 0 ∷ 4 ∷ 0 ∷ 0 ∷ 0 ∷ 5 ∷ 0 ∷ 0 ∷ 0 ∷ 6 ∷ [])
    ≡ good 0 8 2 ∷ lost 8 4 3 ∷ good 12 12 3 ∷ []
unfolding stretches starting run_on runs chunk_at front_of le_of next to_start starts_at follow
out_of_sync = refl

-- a header of 255 bytes, which are not there, and then three chunks of one byte
pub cut_end :
    stretches 61440
    (0xFF ∷ 0x00 ∷ 0x00 ∷ 0x00 ∷ 0x01 ∷ 0x00 ∷ 0x00 ∷ 0x07 ∷ 0x41 ∷ 0x01 ∷ 0x00 ∷ 0x00 ∷ 0x08 ∷ 0x42 ∷ 0x01 ∷ 0x00 ∷ 0x00 ∷ 0x09 ∷ 0x43 ∷ [])
    ≡ lost 0 4 8 ∷ good 4 15 3 ∷ []
unfolding stretches starting run_on runs chunk_at front_of le_of next to_start starts_at follow
cut_end = refl
