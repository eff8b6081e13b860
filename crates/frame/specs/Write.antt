-- Writing stored frames, by 01's "Stored frames".
use Rattle.chunk.specs.declared.Encoded.{Encoded}
use Rattle.std.specs.Prelude.{ℕ, cond, List, length, ◌==◌, nat_lt}
use Rattle.refusal.specs.Said.{Said, gives, refused, said_of}
use Rattle.wire.specs.Room.{patch}
use Rattle.chunk.specs.Chunks.{chunks, needed}
use Rattle.frame.specs.Frames.{frames, frames_need, frames_after}
use Rattle.frame.specs.Codec.{renumbered}
use Rattle.frame.specs.declared.PacketCodec.{PacketCodec}

-- "The writer cuts the chunk stream of T bytes into pieces of min(M, limit)"
unfoldable pub piece_of : ℕ → ℕ → ℕ
piece_of m limit = cond (nat_lt m limit) m limit

-- the bytes that a packet of n bytes needs
abbrev pub total : ℕ → ℕ → ℕ → ℕ
total m limit n = frames_need (piece_of m limit) (needed m n)

-- a call: how many bytes it wrote from the buffer's front on, or its refusal; and what the codec and the buffer are then
pub record Sent : Type 0 where
  pub said : Said ℕ
  pub next : PacketCodec
  pub buf : List ℕ

abbrev pub unsent : ℕ → PacketCodec → List ℕ → Sent
unsent k c d = record { said = refused k; next = c; buf = d }

-- 7 (also for a limit of 0, which no opening gives: its pieces would be empty), then 2, then 6. "Frame numbers advance per frame; then
-- the plain number is set to the frame number"
unfoldable pub write_framed : ℕ → PacketCodec → (p d : List ℕ) → Sent
write_framed m c p d =
    cond c.closed (unsent 7 c d)
    (cond (c.limit == 0) (unsent 7 c d)
    (cond (nat_lt c.limit (length p)) (unsent 2 c d)
    (cond (nat_lt (length d) (total m c.limit (length p))) (unsent 6 c d)
    (record {
      said = gives (total m c.limit (length p));
      next = renumbered c (frames_after (piece_of m c.limit) c.frame (needed m (length p)));
      buf = patch d 0 (frames (piece_of m c.limit) c.frame (chunks m c.number p));
    }))))

-- what the code's answer says, with the buffer at its exit
abbrev pub sent_of : Encoded PacketCodec → List ℕ → Sent
sent_of r d = record { said = said_of r.put; next = r.next; buf = d }
