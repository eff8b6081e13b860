-- What was written with frames on is read with frames on: the packet comes back. Over any piece sizes, and whatever stands behind the
-- frames. Before the last frame the plain reader asks for more: else it would have answered so on all the bytes, with fewer used.
use Rattle.std.specs.Prelude.{◌≡◌, ℕ, zero, suc, ◌+◌, ◌-◌, ◌<◌, ◌≤◌, min, Bool, true, false, List, [], ◌∷◌, ◌++◌, length, take, drop, ◌≢◌, slice_index, refl, Some, None}
use Rattle.std.proofs.Common.{sym, ap, ◌∙◌, not-suc-le-zero, arith, length-append, length-drop, length-take, take-append-drop, drop_of_length-le, take_all, drop_at}
use mathlib.Core.List.{flatten, append_assoc, append-nil}
use Rattle.std.proofs.Math.Decide.{dec_le}
use Rattle.std.proofs.Math.Seq.{take-append_seam}
use Rattle.wire.specs.Le.{le_at, le_bytes}
use Rattle.wire.specs.LenEncLaws.{le_back}
use Rattle.wire.specs.Room.{patch}
use Rattle.chunk.specs.Chunks.{largest, next, chunks, needed, after}
use Rattle.chunk.specs.ChunksLaws.{length-chunks}
use Rattle.chunk.specs.Read as P
use Rattle.chunk.specs.Read.{Answered, need_more, packet, refused, held_of, opened, read}
use Rattle.chunk.specs.ReadLaws.{read_open, read_uses}
use Rattle.chunk.specs.RoundLaws.{whole, opened-chunks}
use Rattle.chunk.specs.ResumeLaws.{opened_resume, opened_stays, opened_ready}
use Rattle.chunk.specs.declared.PlainPacketCodec.{PlainPacketCodec}
use Rattle.frame.specs.Codec.{plain_of, with_plain, holding_frame, past_frame, unread_of, last_number}
use Rattle.frame.specs.Frames.{frame, split, numbered_frames, frames_of, frames, frames_need, frames_after}
use Rattle.frame.specs.FramesLaws.{ceil_none, frames_last, frames_more, length-frame, need_last, need_more_lem, frames-after_last, frames-after_more}
use Rattle.frame.specs.Read.{Done, Lap, took, frame_at, drained, asks, lap_at, later, running, read_framed}
use Rattle.frame.specs.ReadLaws.{frame-headed, headed_held, body-took, lap_frame, lap_stop, running-stop, running_more, framed_open}
use Rattle.frame.specs.TolerantLaws.{tolerant, opened_limit}
use Rattle.frame.specs.Write.{piece_of, total, write_framed}
use Rattle.frame.specs.WriteLaws.{write-whole}
use Rattle.frame.specs.declared.PacketCodec.{PacketCodec}

zero_one : ◌≡◌ {A = ℕ} 0 1 → ⊥
zero_one h = omega arith

-- ---- the frames of a stream that is not empty: the first, then the others

no_frames : (c k : ℕ) → frames c k [] ≡ []
unfolding frames frames_of split numbered_frames flatten
no_frames c k = rw (ceil_none c)

no_need : (c : ℕ) → frames_need c 0 ≡ 0
unfolding frames_need
no_need c = rw (ceil_none c)

no_after : (c k : ℕ) → k < 256 → frames_after c k 0 ≡ k
unfolding frames_after
no_after c k h = rw (ceil_none c) (omega arith)

next_fits : (k : ℕ) → next k < 256
unfolding next
next_fits k = omega arith

module _ (c k : ℕ) (s : List ℕ) (pos : 0 < c) (some : 0 < length s) where
  frames-step : frames c k s ≡ frame k (take c s) ++ frames c (next k) (drop c s)
  frames-step =
      elim (dec_le (length s) c) [
        | yes h ↦ rw (frames_last c k s some h, take_all c s h, drop_of_length-le s {i = c} h, no_frames c (next k)) (sym (append-nil (frame k s)))
        | no h ↦ frames_more c k s pos (omega arith)
      ]

  need_step : frames_need c (length s) ≡ length (take c s) + 7 + frames_need c (length (drop c s))
  need_step =
      elim (dec_le (length s) c) [
        | yes h ↦ rw (take_all c s h, drop_of_length-le s {i = c} h, no_need c, need_last c (length s) some h) (omega arith)
        | no h ↦ let l : length (take c s) ≡ c = rw length-take (omega arith) in rw (l, length-drop) (need_more_lem c (length s) pos (omega arith))
      ]

  after-step : frames_after c k (length s) ≡ frames_after c (next k) (length (drop c s))
  after-step =
      elim (dec_le (length s) c) [
        | yes h ↦ rw (drop_of_length-le s {i = c} h, no_after c (next k) (next_fits k)) (frames-after_last c k (length s) some h)
        | no h ↦ rw length-drop (frames-after_more c k (length s) pos (omega arith))
      ]

-- no frame header is remembered, and nothing is left of one
pub record Idle (st : PacketCodec) : Type 0 where
  pub none : st.held ≡ false
  pub size : st.size ≡ 0
  pub coming : st.coming ≡ 0

-- ---- a reader takes a frame that is there, whatever follows

frame_says : (k : ℕ) (q r : List ℕ) → length q ≤ largest → le_at (frame k q ++ r) 0 3 ≡ length q
unfolding frame le_bytes
frame_says k q r h = let l : length q < 16777216 = omega arith in le_back 3 (length q) l

frame_plain : (k : ℕ) (q r : List ℕ) → le_at (frame k q ++ r) 4 3 ≡ 0
unfolding frame le_bytes
frame_plain k q r = let l : 0 < 16777216 = omega arith in le_back 3 0 l

frame-number : (k : ℕ) (q r : List ℕ) → slice_index (frame k q ++ r) 3 ≡ k
unfolding frame le_bytes
frame-number k q r = refl

frame_bytes : (k : ℕ) (q r : List ℕ) → take (length q) (drop 7 (frame k q ++ r)) ≡ q
unfolding frame le_bytes
frame_bytes k q r = take-append_seam q r

frame_left : (k : ℕ) (q r : List ℕ) → drop (length q + 7) (frame k q ++ r) ≡ r
frame_left k q r = drop_at (frame k q) r (length q + 7) (length-frame k q)

-- a frame of the bytes q was taken
abbrev took_it : PacketCodec → (q w b : List ℕ) → Lap
took_it st q w b = record { more = true; done = record { answer = need_more; used = length q + 7; next = past_frame st (length q); unread = w ++ q; buf = b } }

takes : (st : PacketCodec) (k : ℕ) (q r w : List ℕ) (room : ℕ) (b : List ℕ) → Idle st → k ≡ st.frame → 0 < length q → length q ≤ largest
    → length q ≤ st.limit → st.unread + length q ≤ room → frame_at st (frame k q ++ r) w room b ≡ took_it st q w b
unfolding took
takes st k q r w room b e n some most lim fits =
    let u : List ℕ = frame k q ++ r in
    let lu : length u ≡ length q + 7 + length r = rw (length-append (frame k q) r, length-frame k q) in
    let long : length q + 7 ≤ length u = omega arith in
    frame-headed st u w room b (rw e.none) (omega arith)
    ∙ rw (frame_says k q r most, frame_plain k q r, frame-number k q r)
    (headed_held st (length q) k 0 u w room b lim (omega arith) (λ z. omega arith) refl
    ∙ body-took (holding_frame st (length q) k) (length q) k u w room b long n fits
    ∙ rw (frame_bytes k q r))

-- ---- the rounds

-- a codec between frames with nothing unread: its plain state and its frame number
abbrev pub between : Bool → PlainPacketCodec → ℕ → PacketCodec
between on st k = record {
  limit = st.limit;
  taken = st.taken;
  len = st.len;
  unread = 0;
  size = 0;
  number = st.number;
  waiting = st.waiting;
  ahead = st.ahead;
  closed = st.closed;
  frame = k;
  held = false;
  coming = 0;
  framed = on;
}

-- what reading frames of a stream s leaves, where the plain reader on all the bytes gives d
abbrev outcome : Bool → ℕ → ℕ → List ℕ → P.Done → Done
outcome on c k s d = record {
  answer = d.answer;
  used = frames_need c (length s);
  next = between on d.next
      (frames_after c k (length s));
  unread = [];
  buf = d.buf;
}

drained_strict : (m : ℕ) (st : PacketCodec) (w b : List ℕ) → st.closed ≡ false → ((opened m None (plain_of st) w b).answer ≢ refused 3)
    → drained m st w b ≡ record {
      answer = (opened m None (plain_of st) w b).answer;
      used = 0;
      next = with_plain st (opened m None (plain_of st) w b).next (st.unread - (opened m None (plain_of st) w b).used);
      unread = drop (opened m None (plain_of st) w b).used w;
      buf = (opened m None (plain_of st) w b).buf;
    }
unfolding drained
drained_strict m st w b c h = rw (read_open m (Some (last_number st.frame)) (plain_of st) w b c, tolerant m (Some (last_number st.frame)) (plain_of st) w b h)

opened_uses : (m : ℕ) (st : PlainPacketCodec) (u b : List ℕ) → st.closed ≡ false → (opened m None st u b).used ≤ length u
opened_uses m st u b c = rw (read_open m None st u b c) at (read_uses m None st u b)

left_over : (x used lw ls c : ℕ) → used + x ≡ lw + ls → used ≤ lw → x ≡ lw - used + min c ls + (ls - c)
left_over x used lw ls c e h = omega arith

module _ (m c : ℕ) (pos : 0 < c) (most : c ≤ largest) (r : List ℕ) (room n : ℕ) where
  -- nothing more comes: the packet is there
  at_end : (st : PacketCodec) (w b : List ℕ) → Idle st → st.unread ≡ length w → st.frame < 256 → st.closed ≡ false
      → (opened m None (plain_of st) w b).answer ≡ packet n → (opened m None (plain_of st) w b).used ≡ length w
      → running m st r w room b ≡ outcome st.framed c st.frame [] (opened m None (plain_of st) w b)
  at_end st w b hc hu hk ho a us =
      let z = drained_strict m st w b ho (λ e. zero_one (let y : packet n ≡ refused 3 = sym a ∙ e in cc y)) in
      let s : asks (drained m st w b).answer ≡ false = rw (z, a) in
      let l = lap_stop m st r w room b s in
      let y : st.unread - length w ≡ 0 = omega arith in
      rw (
        running-stop m st r w room b (rw l),
        l,
        z,
        us,
        y,
        hc.none,
        hc.size,
        hc.coming,
        drop_of_length-le w {i = length w} (omega arith),
        no_need c,
        no_after c st.frame hk,
      )

  -- one round of a stream s that is not empty: the plain reader wants more, and a frame is taken
  module _ (st : PacketCodec) (w s b : List ℕ) (hc : Idle st) (hu : st.unread ≡ length w) (ho : st.closed ≡ false) (lim : c ≤ st.limit)
      (fits : length w + length s ≤ room) (some : 0 < length s) (a : (opened m None (plain_of st) w b).answer ≡ need_more) where
    abbrev d : P.Done
    d = opened m None (plain_of st) w b

    abbrev st' : PacketCodec
    st' = with_plain st d.next (st.unread - d.used)

    abbrev q : List ℕ
    q = take c s

    abbrev w' : List ℕ
    w' = drop d.used w

    abbrev rest : List ℕ
    rest = frames c (next st.frame) (drop c s) ++ r

    abbrev u : List ℕ
    u = frames c st.frame s ++ r

    u_is : u ≡ frame st.frame q ++ rest
    u_is = rw (frames-step c st.frame s pos some) (append_assoc (frame st.frame q) (frames c (next st.frame) (drop c s)) r)

    q_long : length q ≤ c
    q_long = rw length-take (omega arith)

    q_some : 0 < length q
    q_some = rw length-take (omega arith)

    q_within : length q ≤ length s
    q_within = rw length-take (omega arith)

    used : d.used ≤ length w
    used = opened_uses m (plain_of st) w b ho

    lim' : c ≤ d.next.limit
    lim' = rw (opened_limit m None (plain_of st) w b) lim

    lap_is : lap_at m st u w room b ≡ took_it st' q w' d.buf
    lap_is =
        let z = drained_strict m st w b ho (λ e. zero_one (let y : need_more ≡ refused 3 = sym a ∙ e in cc y)) in
        let g : asks (drained m st w b).answer ≡ true = rw (z, a) in
        let t = takes st' st.frame q rest w' room d.buf (record { none = hc.none; size = hc.size; coming = hc.coming }) refl q_some
        (omega (arith, q_long)) (omega (arith, q_long, lim')) (omega (arith, hu, q_within)) in
        lap_frame m st u w room b g ∙ rw (z, u_is, t)

    goes : running m st u w room b ≡ later (length q + 7) (running m (past_frame st' (length q)) rest (w' ++ q) room d.buf)
    goes = rw (running_more m st u w room b (omega (arith, hu)) (rw lap_is), lap_is, u_is, frame_left st.frame q rest)

    joined : (w' ++ q) ++ drop c s ≡ w' ++ s
    joined = rw (append_assoc w' q (drop c s), take-append-drop c s)

    whole_is : opened m None (plain_of st) (w ++ s) b ≡ P.later d.used (opened m None d.next ((w' ++ q) ++ drop c s) d.buf)
    whole_is = rw joined (opened_resume m None s (plain_of st) w b a)

    step : running m (past_frame st' (length q)) rest (w' ++ q) room d.buf ≡ outcome st.framed c (next st.frame) (drop c s)
        (opened m None d.next ((w' ++ q) ++ drop c s) d.buf)
        → running m st u w room b ≡ outcome st.framed c st.frame s (opened m None (plain_of st) (w ++ s) b)
    step ih = rw (goes, ih, whole_is, need_step c st.frame s pos some, after-step c st.frame s pos some)

  -- it cannot be there before the last frame
  early : (st : PlainPacketCodec) (w s b : List ℕ) → st.closed ≡ false → 0 < length s → (opened m None st (w ++ s) b).used ≡ length (w ++ s)
      → ((opened m None st w b).answer ≢ need_more) → ⊥
  early st w s b ho some us h =
      let e = opened_stays m None s st w b h in
      let l : (opened m None st w b).used ≤ length w = opened_uses m st w b ho in
      let y : (opened m None st w b).used ≡ length w + length s = sym (ap (λ (d : P.Done). d.used) e) ∙ us ∙ length-append w s in
      not-suc-le-zero (let z : 1 ≤ 0 = omega arith in z)

  wants : (st : PlainPacketCodec) (w s b : List ℕ) → st.closed ≡ false → 0 < length s → (opened m None st (w ++ s) b).used ≡ length (w ++ s)
      → (opened m None st w b).answer ≡ need_more
  wants st w s b ho some us =
      elim (opened m None st w b).answer as (λ k. (opened m None st w b).answer ≡ k → (opened m None st w b).answer ≡ need_more) [
        | need_more ↦ λ e. e
        | packet j ↦ λ e. absurd (early st w s b ho some us (λ g. zero_one (let y : packet j ≡ need_more = sym e ∙ g in cc y)))
        | refused j ↦ λ e. absurd (early st w s b ho some us (λ g. zero_one (let y : refused j ≡ need_more = sym e ∙ g in cc y)))
      ] refl

  none : (st : PacketCodec) (w s b : List ℕ) → length s ≤ 0 → Idle st → st.unread ≡ length w → st.frame < 256 → st.closed ≡ false
      → (opened m None (plain_of st) (w ++ s) b).answer ≡ packet n → (opened m None (plain_of st) (w ++ s) b).used ≡ length (w ++ s)
      → running m st (frames c st.frame s ++ r) w room b ≡ outcome st.framed c st.frame s (opened m None (plain_of st) (w ++ s) b)
  none st w [] b h hc hu hk ho a us =
      rw (no_frames c st.frame, append-nil w)
      (at_end st w b hc hu hk ho (rw (append-nil w) at a) (rw (append-nil w) at us))
  none st w (x ∷ s) b h hc hu hk ho a us = absurd (not-suc-le-zero h)

  -- the frames of a stream s, read where the unread bytes and s are all of a packet
  frames-read : (f : ℕ) (st : PacketCodec) (w s b : List ℕ) → length s ≤ f → Idle st → st.unread ≡ length w → st.frame < 256 → st.closed ≡ false
      → c ≤ st.limit
      → length w + length s ≤ room
      → (opened m None (plain_of st) (w ++ s) b).answer ≡ packet n → (opened m None (plain_of st) (w ++ s) b).used ≡ length (w ++ s)
      → running m st (frames c st.frame s ++ r) w room b ≡ outcome st.framed c st.frame s (opened m None (plain_of st) (w ++ s) b)
  frames-read zero st w s b h hc hu hk ho lim fits a us = none st w s b h hc hu hk ho a us
  frames-read (suc f) st w s b h hc hu hk ho lim fits a us =
      elim (dec_le (length s) 0) [
        | yes z ↦ none st w s b z hc hu hk ho a us
        | no z ↦
            let some : 0 < length s = omega arith in
            let e = wants (plain_of st) w s b ho some us in
            let d₀ = opened m None (plain_of st) w b in
            let w₁ : List ℕ = drop d₀.used w ++ take c s in
            let l = opened_uses m (plain_of st) w b ho in
            let all = whole_is st w s b hc hu ho lim fits some e in
            step st w s b hc hu ho lim fits some e
            (frames-read f (past_frame (with_plain st d₀.next (st.unread - d₀.used)) (length (take c s))) w₁ (drop c s) d₀.buf
            (rw length-drop (omega arith)) (record { none = refl; size = refl; coming = refl }) (rw (hu, length-append, length-drop)) (next_fits st.frame)
            ((opened_ready m None (plain_of st) w b e).0 ∙ ho) (rw (opened_limit m None (plain_of st) w b) lim)
            (rw (length-append, length-drop, length-take, length-drop) (omega arith))
            (rw all at a)
            (let y = rw all at us in rw (length-append, length-append, length-drop, length-take, length-drop) (left_over _ _ _ _ c (rw length-append at y) l)))
      ]

-- ---- a packet, written with frames on and read whole

-- the reader is between packets and between frames, with nothing unread; the packet is within the limit
pub record Ready (m c : ℕ) (st : PacketCodec) (p : List ℕ) : Type 0 where
  pub small : 0 < m
  pub most : m ≤ largest
  pub piece : 0 < c
  pub pieces : c ≤ largest
  pub frames : c ≤ st.limit
  pub clear : Idle st
  pub none : st.unread ≡ 0
  pub number : st.frame < 256
  pub idle : held_of (plain_of st) ≡ P.none
  pub start : st.taken ≡ 0
  pub live : st.closed ≡ false
  pub within : length p ≤ st.limit

-- the codec after it
abbrev pub read_past : ℕ → ℕ → PacketCodec → List ℕ → PacketCodec
read_past m c st p =
    between st.framed (record {
      limit = st.limit;
      taken = 0;
      len = 0;
      number = after m st.number
          (length p);
      waiting = false;
      ahead = 0;
      closed = st.closed;
    })
    (frames_after c st.frame (needed m (length p)))

pub written_is_read : (m c : ℕ) (st : PacketCodec) (p r s b : List ℕ) → Ready m c st p → needed m (length p) ≤ length s → length p ≤ length b
    → read_framed m st (frames c st.frame (chunks m st.number p) ++ r) s b ≡ record {
      answer = packet (length p);
      used = frames_need c (needed m (length p));
      next = read_past m c st p;
      unread = [];
      buf = patch b 0 p;
    }
unfolding unread_of
written_is_read m c st p r s b h room fits =
    let t : List ℕ = chunks m st.number p in
    let lt : length t ≡ needed m (length p) = length-chunks m st.number p h.small in
    let e : opened m None (plain_of st) (t ++ []) b ≡ whole m (plain_of st) p b =
    opened-chunks m None h.small h.most (plain_of st) p [] b h.idle (omega (arith, h.start, h.within)) (omega (arith, h.start)) in
    let e' : opened m None (plain_of st) t b ≡ whole m (plain_of st) p b = rw (append-nil t) at e in
    let z : 0 + length p ≡ length p = omega arith in
    let f = frames-read m c h.piece h.pieces r (length s) (length p) (length t) st [] t b (omega arith) h.clear h.none h.number
    h.live h.frames (omega arith)
    (rw (e', h.start, z)) (rw e' (sym lt)) in
    framed_open m st (frames c st.frame t ++ r) s b h.live (omega (arith, h.none))
    ∙ ap (λ (w : List ℕ). running m st (frames c st.frame t ++ r) w (length s) b) (ap (λ (j : ℕ). take j s) h.none)
    ∙ f
    ∙ rw (e', lt, h.start, z)

-- what the writer leaves in a buffer, lent whole to a reader with the same numbers
pub sent_is_read : (m : ℕ) (w st : PacketCodec) (p d s b : List ℕ) → w.closed ≡ false → (w.limit ≢ 0) → length p ≤ w.limit → total m
    w.limit (length p) ≤ length d
    → w.frame ≡ st.frame → w.number ≡ st.number → Ready m (piece_of m w.limit) st p → needed m (length p) ≤ length s → length p ≤ length b
    → read_framed m st (write_framed m w p d).buf s b ≡ record {
      answer = packet (length p);
      used = total m w.limit (length p);
      next = read_past m (piece_of m w.limit) st p;
      unread = [];
      buf = patch b 0 p;
    }
sent_is_read m w st p d s b o z l fits e e' h room room' =
    rw (write-whole m w p d o z l fits, e, e')
    (written_is_read m (piece_of m w.limit) st p (drop (0 + length (frames (piece_of m w.limit) st.frame (chunks m st.number p))) d) s b h room room')
