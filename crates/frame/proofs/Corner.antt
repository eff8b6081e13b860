-- 01's known corner, computed: with limit 4, a packet of one chunk that fills two frames, written and read twice with no sync between.
-- The reader is then at 1 and the writer at 2, and the second packet is refused with 3.
use Rattle.std.proofs.Common.{◌≡◌, ℕ, true, false, List, [], ◌∷◌, refl}
use mathlib.Core.List.{flatten}
use Rattle.wire.specs.Le.{le_of, le_bytes}
use Rattle.refusal.specs.Said.{gives}
use Rattle.chunk.specs.Chunks.{next, chunk, cut, pieces, numbered, chunks_of, chunks, needed}
use Rattle.chunk.specs.Read as P
use Rattle.chunk.specs.Read.{packet, refused}
use Rattle.frame.specs.Codec.{unread_of}
use Rattle.frame.specs.Frames.{frame, ceil, split, numbered_frames, frames_of, frames, frames_need, frames_after}
use Rattle.frame.specs.Write.{Sent, piece_of, write_framed}
use Rattle.frame.specs.Read.{Done, took, body_at, headed, frame_from, frame_at, drained, lap_at, laps, running, read_framed}
use Rattle.frame.specs.declared.PacketCodec.{PacketCodec}

abbrev pub start : PacketCodec
start = record {
  limit = 4;
  taken = 0;
  len = 0;
  unread = 0;
  size = 0;
  number = 0;
  waiting = false;
  ahead = 0;
  closed = false;
  frame = 0;
  held = false;
  coming = 0;
  framed = true;
}

abbrev pub four : List ℕ
four = 0x41 ∷ 0x42 ∷ 0x43 ∷ 0x44 ∷ []

abbrev pub blank : List ℕ
blank = 0 ∷ 0 ∷ 0 ∷ 0 ∷ 0 ∷ 0 ∷ 0 ∷ 0 ∷ 0 ∷ 0 ∷ 0 ∷ 0 ∷ 0 ∷ 0 ∷ 0 ∷ 0 ∷ 0 ∷ 0 ∷ 0 ∷ 0 ∷ 0 ∷ 0 ∷ []

abbrev pub sent₁ : Sent
sent₁ = write_framed 9 start four blank

abbrev pub sent₂ : Sent
sent₂ = write_framed 9 sent₁.next four blank

abbrev pub read₁ : Done
read₁ = read_framed 9 start sent₁.buf blank four

abbrev pub read₂ : Done
read₂ = read_framed 9 read₁.next sent₂.buf blank four

pub corner : (sent₁.buf ≡ 4 ∷ 0 ∷ 0 ∷ 0 ∷ 0 ∷ 0 ∷ 0 ∷ 4 ∷ 0 ∷ 0 ∷ 0 ∷ 4 ∷ 0 ∷ 0 ∷ 1 ∷ 0 ∷ 0 ∷ 0 ∷ 0x41 ∷ 0x42 ∷ 0x43 ∷ 0x44 ∷ [])
    × (sent₁.said ≡ gives 22)
    × (read₁.answer ≡ packet 4)
    × (read₁.next.number ≡ 1)
    × (sent₁.next.number ≡ 2)
    × (read₂.answer ≡ refused 3)
unfolding write_framed read_framed running laps lap_at drained frame_at frame_from headed body_at took unread_of piece_of frame ceil split numbered_frames
    frames_of frames frames_need frames_after
    chunks chunks_of pieces cut numbered chunk next needed le_of le_bytes flatten P.read P.opened P.turns P.turn_of P.turn_from P.headed P.chunk_at P.took
corner = (refl, refl, refl, refl, refl, refl)
