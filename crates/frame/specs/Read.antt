-- Reading stored frames, by 01's "Stored frames". u is the unread source, w the unread chunk bytes in staging, room staging's length,
-- b the packet buffer.
use Rattle.chunk.specs.declared.Decoded.{Decoded}
use Rattle.std.specs.Prelude.{◌≡◌, ℕ, zero, suc, ◌+◌, ◌-◌, Bool, true, false, cond, List, ◌++◌, length, take, drop, ◌==◌, nat_lt, slice_index, Some}
use Rattle.wire.specs.Le.{le_at}
use Rattle.chunk.specs.Read.{Answered, need_more, packet, refused, answer_said, read}
use Rattle.frame.specs.Codec.{plain_of, with_plain, closed, holding_frame, past_frame, FrameHeld, none, held, frame_held_of, unread_of, last_number}
use Rattle.frame.specs.declared.PacketCodec.{PacketCodec}

-- a call: its answer, the bytes used, and what the codec, the unread bytes and the packet buffer are then
pub record Done : Type 0 where
  pub answer : Answered
  pub used : ℕ
  pub next : PacketCodec
  pub unread : List ℕ
  pub buf : List ℕ

-- one round: with more, a frame was taken and the reader goes round again
pub record Lap : Type 0 where
  pub more : Bool
  pub done : Done

-- what the code's answer says, with both buffers at its exit. Of staging only the unread part is fixed
abbrev pub done_of : Decoded ℕ PacketCodec → (s b : List ℕ) → Done
done_of r s b = record { answer = answer_said r.answer; used = r.used; next = r.next; unread = unread_of r.next s; buf = b }

-- the same of a step that is not lent the packet buffer: whatever that is, it stays
abbrev pub Steps : Decoded ℕ PacketCodec → List ℕ → (List ℕ → Lap) → Type 0
Steps r s f = (b : List ℕ) → done_of r s b ≡ (f b).done

-- ---- one frame

-- nothing is taken
abbrev pub stop : Answered → PacketCodec → (w b : List ℕ) → Lap
stop a c w b = record { more = false; done = record { answer = a; used = 0; next = c; unread = w; buf = b } }

-- a frame of len bytes is taken: its bytes follow the unread ones, "Then round again"
unfoldable pub took : PacketCodec → (len : ℕ) (u w b : List ℕ) → Lap
took c len u w b = record {
  more = true;
  done = record {
    answer = need_more;
    used = len + 7;
    next = past_frame c len;
    unread = w ++ take len
        (drop 7 u);
    buf = b;
  };
}

-- "wait for the whole frame; 3; 6 (unread + length exceeds staging)"
unfoldable pub body_at : PacketCodec → (len num : ℕ) (u w : List ℕ) (room : ℕ) (b : List ℕ) → Lap
body_at c len num u w room b =
    cond (nat_lt (length u) (len + 7)) (stop need_more c w b)
    (cond (num == c.frame)
    (cond (nat_lt room (c.unread + len)) (stop (refused 6) c w b) (took c len u w b))
    (stop (refused 3) (closed c) w b))

-- a header that says len, num and a plain length: "tests in the order 2, 4, 5; remember the header". "Lengths 0/0 make a frame with
-- nothing in it, still numbered"
unfoldable pub headed : PacketCodec → (len num plain : ℕ) (u w : List ℕ) (room : ℕ) (b : List ℕ) → Lap
headed c len num plain u w room b =
    cond (nat_lt c.limit len) (stop (refused 2) (closed c) w b)
    (cond (nat_lt c.limit plain) (stop (refused 2) (closed c) w b)
    (cond (len == 0)
    (cond (plain == 0) (body_at c 0 num u w room b) (stop (refused 4) (closed c) w b))
    (cond (plain == 0) (body_at (holding_frame c len num) len num u w room b) (stop (refused 5) (closed c) w b))))

-- "under 7 bytes need more"; a remembered header is not looked at again
unfoldable pub frame_from : PacketCodec → FrameHeld → (u w : List ℕ) (room : ℕ) (b : List ℕ) → Lap
frame_from c none u w room b = cond (nat_lt (length u) 7) (stop need_more c w b) (headed c (le_at u 0 3) (slice_index u 3) (le_at u 4 3) u w room b)
frame_from c (held len num) u w room b = body_at c len num u w room b

unfoldable pub frame_at : PacketCodec → (u w : List ℕ) (room : ℕ) (b : List ℕ) → Lap
frame_at c u w room b = frame_from c (frame_held_of c) u w room b

-- ---- one round: "it tries the plain reader there first. A chunk number is accepted if it is the expected one or that of the last frame
-- taken"; "Then one frame". Of no bytes the plain reader wants more and changes nothing, so empty staging is no case of its own

unfoldable pub drained : ℕ → PacketCodec → (w b : List ℕ) → Done
drained m c w b =
    let d = read m (Some (last_number c.frame)) (plain_of c) w b in
    record { answer = d.answer; used = 0; next = with_plain c d.next (c.unread - d.used); unread = drop d.used w; buf = d.buf }

abbrev pub asks : Answered → Bool
asks need_more = true
asks (packet n) = false
asks (refused k) = false

unfoldable pub lap_at : ℕ → PacketCodec → (u w : List ℕ) (room : ℕ) (b : List ℕ) → Lap
lap_at m c u w room b =
    let d = drained m c w b in
    cond (asks d.answer) (frame_at d.next u d.unread room d.buf) (record { more = false; done = d })

-- ---- a call

-- n bytes more were used before it
abbrev pub later : ℕ → Done → Done
later n d = record { answer = d.answer; used = n + d.used; next = d.next; unread = d.unread; buf = d.buf }

-- round after round, f at the most
unfoldable pub laps : ℕ → ℕ → PacketCodec → (u w : List ℕ) (room : ℕ) (b : List ℕ) → Done
laps zero m c u w room b = record { answer = need_more; used = 0; next = c; unread = w; buf = b }
laps (suc f) m c u w room b =
    let t = lap_at m c u w room b in
    cond t.more (later t.done.used (laps f m t.done.next (drop t.done.used u) t.done.unread room t.done.buf)) t.done

-- a frame takes seven bytes or more, so this many rounds are never all made
unfoldable pub running : ℕ → PacketCodec → (u w : List ℕ) (room : ℕ) (b : List ℕ) → Done
running m c u w room b = laps (suc (length u)) m c u w room b

abbrev pub untouched : ℕ → PacketCodec → (s b : List ℕ) → Done
untouched k c s b = record { answer = refused k; used = 0; next = c; unread = unread_of c s; buf = b }

-- 7; "Staging shorter than they are: 6, before all but 7"; then the rounds. s is the staging buffer
unfoldable pub read_framed : ℕ → PacketCodec → (u s b : List ℕ) → Done
read_framed m c u s b =
    cond c.closed (untouched 7 c s b)
    (cond (nat_lt (length s) c.unread) (untouched 6 c s b) (running m c u (unread_of c s) (length s) b))
