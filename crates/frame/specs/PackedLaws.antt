-- "Packed payloads are refused": a frame that says a plain length is refused with 5 and closes, whatever its number, once both lengths
-- are within the limit. What is unread, the packet buffer and the frame number stay.
use Rattle.std.specs.Prelude.{◌≡◌, ℕ, ◌<◌, ◌≤◌, false, List, [], length, take, slice_index}
use Rattle.std.proofs.Common.{ap, ◌∙◌, arith}
use Rattle.wire.specs.Le.{le_at}
use Rattle.chunk.specs.Read.{refused}
use Rattle.frame.specs.Codec.{closed, none, frame_held_of, unread_of}
use Rattle.frame.specs.Read.{stop, lap_at, running, read_framed}
use Rattle.frame.specs.ReadLaws.{frame-headed, headed_packed, lap_empty, running-stop, framed_open}
use Rattle.frame.specs.declared.PacketCodec.{PacketCodec}

pub packed_is_refused : (m : ℕ) (c : PacketCodec) (u s b : List ℕ) → c.closed ≡ false → c.unread ≡ 0 → frame_held_of c ≡ none → 7 ≤ length u
    → 0 < le_at u 0 3 → le_at u 0 3 ≤ c.limit → 0 < le_at u 4 3 → le_at u 4 3 ≤ c.limit
    → read_framed m c u s b ≡ record { answer = refused 5; used = 0; next = closed c; unread = []; buf = b }
unfolding unread_of
packed_is_refused m c u s b o z e h l l' p p' =
    let t : lap_at m c u [] (length s) b ≡ stop (refused 5) (closed c) [] b =
    lap_empty m c u (length s) b o
    ∙ frame-headed c u [] (length s) b e h
    ∙ headed_packed c (le_at u 0 3) (slice_index u 3) (le_at u 4 3) u [] (length s) b l' p' (λ y. omega arith) (λ y. omega arith) in
    framed_open m c u s b o (omega arith)
    ∙ ap (λ (w : List ℕ). running m c u w (length s) b) (ap (λ (j : ℕ). take j s) z)
    ∙ running-stop m c u [] (length s) b (rw t)
    ∙ rw t
