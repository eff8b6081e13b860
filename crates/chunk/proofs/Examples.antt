-- What a reader makes of E1 of document 01, whole and with a wrong number, computed.
use Rattle.std.specs.Prelude.{None}
use Rattle.std.proofs.Common.{◌≡◌, [], ◌∷◌, refl}
use Rattle.wire.specs.Le.{le_of}
use Rattle.chunk.specs.Chunks.{next}
use Rattle.chunk.specs.Read.{idle, packet, refused, took, chunk_at, headed, turn_from, turn_of, turns, opened, read}

-- E1 read back, a byte behind it and a longer buffer
pub reads_e1 :
    read 3 None (idle 100 254)
    (0x03 ∷ 0x00 ∷ 0x00 ∷ 0xFE ∷ 0x41 ∷ 0x42 ∷ 0x43 ∷ 0x03 ∷ 0x00 ∷ 0x00 ∷ 0xFF ∷ 0x44 ∷ 0x45 ∷ 0x46 ∷ 0x01 ∷ 0x00 ∷ 0x00 ∷ 0x00 ∷ 0x47 ∷ 9 ∷ [])
    (1 ∷ 2 ∷ 3 ∷ 4 ∷ 5 ∷ 6 ∷ 7 ∷ 8 ∷ [])
    ≡ record { answer = packet 7; used = 19; next = idle 100 1; buf = 0x41 ∷ 0x42 ∷ 0x43 ∷ 0x44 ∷ 0x45 ∷ 0x46 ∷ 0x47 ∷ 8 ∷ [] }
unfolding read opened turns turn_of turn_from headed chunk_at took le_of next
reads_e1 = refl

-- its second chunk has a wrong number: the first one's bytes, count and number are kept, and the state is closed
pub reads_wrong :
    read 3 None (idle 100 254) (0x03 ∷ 0x00 ∷ 0x00 ∷ 0xFE ∷ 0x41 ∷ 0x42 ∷ 0x43 ∷ 0x01 ∷ 0x00 ∷ 0x00 ∷ 0xFE ∷ 0x44 ∷ []) (1 ∷ 2 ∷ 3 ∷ 4 ∷ [])
    ≡ record {
      answer = refused 3;
      used = 7;
      next = record { limit = 100; taken = 3; len = 1; number = 255; waiting = mathlib.Core.Bool.true; ahead = 254; closed = mathlib.Core.Bool.true };
      buf = 0x41 ∷ 0x42 ∷ 0x43 ∷ 4 ∷ [];
    }
unfolding read opened turns turn_of turn_from headed chunk_at took le_of next
reads_wrong = refl
