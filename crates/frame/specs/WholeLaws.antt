-- The common call with frames on: nothing begun, nothing unread, and at the front a frame that holds one whole packet of one chunk.
use Rattle.std.specs.Prelude.{◌≡◌, ℕ, ◌+◌, ◌-◌, ◌≤◌, true, false, List, [], length, take, drop, slice_index, slice_index_or, Some}
use Rattle.std.proofs.Math.Path.{refl, ap}
use Rattle.std.proofs.Common.{◌∙◌, add-zero, arith, length-drop, length-take-le}
use Rattle.std.proofs.Math.ListN.{drop_of_length-le}
use Rattle.wire.specs.Le.{le_at}
use Rattle.wire.specs.Room.{patch}
use Rattle.chunk.specs.Chunks.{next}
use Rattle.chunk.specs.Read.{idle, packet, accepted}
use Rattle.chunk.specs.ReadLaws.{read_whole}
use Rattle.frame.specs.Codec.{plain_of, with_plain, holding_frame, past_frame, none, frame_held_of, unread_of, last_number}
use Rattle.frame.specs.Read.{Done, Lap, took, drained, lap_at, later, running, read_framed}
use Rattle.frame.specs.ReadLaws.{frame-headed, headed_held, body-took, lap_empty, lap_stop, framed_open, running_more, running-stop}
use Rattle.frame.specs.declared.PacketCodec.{PacketCodec}

module _ (m : ℕ) (c : PacketCodec) (u s b : List ℕ) where
  -- the frame's length, and what it holds
  abbrev pub size : ℕ
  size = le_at u 0 3

  abbrev pub body : List ℕ
  body = take size (drop 7 u)

  -- a codec that has begun nothing, and such a frame
  pub record Fits : Type 0 where
    pub shut : c.closed ≡ false
    pub free : frame_held_of c ≡ none
    pub clean : c.unread ≡ 0
    pub plain : plain_of c ≡ idle c.limit c.number
    pub whole : size + 7 ≤ length u
    pub limit : size ≤ c.limit
    pub stored : le_at u 4 3 ≡ 0
    pub number : slice_index_or u 3 0 ≡ c.frame
    pub staging : size ≤ length s
    pub one : size ≡ le_at body 0 3 + 4
    pub sync : accepted (Some (last_number (next c.frame))) c.number (slice_index body 3) ≡ true
    pub room : le_at body 0 3 ≤ length b
    pub last : le_at body 0 3 ≡ m → ⊥

  -- behind the frame
  abbrev pub past : PacketCodec
  past = past_frame (holding_frame c size (slice_index u 3)) size

  abbrev pub read_at_once : Done
  read_at_once = record {
    answer = packet (le_at body 0 3);
    used = size + 7;
    next = with_plain past (idle c.limit (next (slice_index body 3))) 0;
    unread = [];
    buf = patch b 0 (take (le_at body 0 3) (drop 4 body));
  }

  module _ (f : Fits) where
    frame_lap : lap_at m c u [] (length s) b ≡ took (holding_frame c size (slice_index u 3)) size u [] b
    frame_lap =
        lap_empty m c u (length s) b f.shut
        ∙ frame-headed c u [] (length s) b f.free (omega (arith, f.whole))
        ∙ headed_held c size (slice_index u 3) (le_at u 4 3) u [] (length s) b f.limit (omega (arith, f.stored)) (λ e. omega (arith, f.one)) f.stored
        ∙ body-took (holding_frame c size (slice_index u 3)) size (slice_index u 3) u [] (length s) b f.whole f.number (omega (arith, f.clean, f.staging))

    body-length : length body ≡ size
    body-length = length-take-le size (drop 7 u) (omega (arith, length-drop 7 u, f.whole))

    packet_out : drained m past body b
        ≡ record {
          answer = packet (le_at body 0 3);
          used = 0;
          next = with_plain past (idle c.limit (next (slice_index body 3))) 0;
          unread = [];
          buf = patch b 0 (take (le_at body 0 3) (drop 4 body));
        }
    unfolding drained
    packet_out =
        let e = read_whole m (Some (last_number (next c.frame))) c.limit c.number body b (omega (arith, body-length, f.one)) f.sync
        (omega (arith, f.limit, f.one)) f.room f.last in
        let left : c.unread + size - (le_at body 0 3 + 4) ≡ 0 = omega (arith, f.clean, f.one) in
        let rest : drop (le_at body 0 3 + 4) body ≡ [] = drop_of_length-le body {i = le_at body 0 3 + 4} (omega (arith, body-length, f.one)) in
        rw (f.plain, e, left, rest) refl

    packet_lap : (v : List ℕ) → lap_at m past v body (length s) b ≡ record { more = false; done = drained m past body b }
    packet_lap v = lap_stop m past v body (length s) b (rw packet_out refl)

    unread_none : unread_of c s ≡ []
    unfolding unread_of
    unread_none = rw f.clean refl

    two_laps : running m c u [] (length s) b ≡ read_at_once
    unfolding took
    two_laps =
        let v = drop (size + 7) u in
        let first : running m c u [] (length s) b ≡ later (size + 7) (running m past v body (length s) b) =
        running_more m c u [] (length s) b (omega (arith, f.clean)) (rw frame_lap refl) ∙ rw frame_lap refl in
        let second : running m past v body (length s) b ≡ drained m past body b =
        running-stop m past v body (length s) b (rw (packet_lap v) refl) ∙ ap (λ (t : Lap). t.done) (packet_lap v) in
        first ∙ ap (later (size + 7)) (second ∙ packet_out) ∙ rw (add-zero (size + 7)) refl

    pub framed-whole : read_framed m c u s b ≡ read_at_once
    framed-whole =
        framed_open m c u s b f.shut (omega (arith, f.clean)) ∙ ap (λ (w : List ℕ). running m c u w (length s) b) unread_none ∙ two_laps
