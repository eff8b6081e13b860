-- Laws of reading frames: each case of a frame, of a round and of a call by itself, and how many bytes are used. No proof past these
-- looks at the number of rounds.
use Rattle.std.specs.Prelude.{◌≡◌, ℕ, zero, suc, ◌+◌, ◌<◌, ◌≤◌, Bool, true, false, cond, List, [], length, drop, ◌==◌, ◌≢◌, nat_lt, slice_index, slice_index_or, refl, Some}
use Rattle.std.proofs.Common.{ap, not-suc-le-zero, arith, length-drop}
use Rattle.std.proofs.Math.Nat.{sub-zero}
use borrow.Author.Tests.{ltb-false, lt-ltb, le-ltb, eq-eqb, ne_eqb}
use Rattle.wire.specs.Le.{le_at}
use Rattle.chunk.specs.Read.{Answered, need_more, refused}
use Rattle.chunk.specs.ReadLaws.{by_test, read_open, opened_none}
use Rattle.frame.specs.Codec.{plain_of, closed, holding_frame, FrameHeld, none, held, frame_held_of, unread_of, last_number}
use Rattle.frame.specs.Read.{Done, Lap, stop, took, body_at, headed, frame_from, frame_at, drained, asks, lap_at, later, laps, running, untouched, read_framed}
use Rattle.frame.specs.declared.PacketCodec.{PacketCodec}

-- ---- one frame

module _ (c : PacketCodec) (len num : ℕ) (u w : List ℕ) (room : ℕ) (b : List ℕ) where
  pub body-short : length u < len + 7 → body_at c len num u w room b ≡ stop need_more c w b
  unfolding body_at
  body-short h = rw (lt-ltb _ _ h)

  module _ (h : len + 7 ≤ length u) where
    pub body_sync : (num ≢ c.frame) → body_at c len num u w room b ≡ stop (refused 3) (closed c) w b
    unfolding body_at
    body_sync e = rw (le-ltb _ _ h, ne_eqb _ _ e)

    pub body_no_room : num ≡ c.frame → room < c.unread + len → body_at c len num u w room b ≡ stop (refused 6) c w b
    unfolding body_at
    body_no_room e r = rw (le-ltb _ _ h, eq-eqb _ _ e, lt-ltb _ _ r)

    pub body-took : num ≡ c.frame → c.unread + len ≤ room → body_at c len num u w room b ≡ took c len u w b
    unfolding body_at
    body-took e r = rw (le-ltb _ _ h, eq-eqb _ _ e, le-ltb _ _ r)

module _ (c : PacketCodec) (len num plain : ℕ) (u w : List ℕ) (room : ℕ) (b : List ℕ) where
  pub headed_large : c.limit < len → headed c len num plain u w room b ≡ stop (refused 2) (closed c) w b
  unfolding headed
  headed_large h = rw (lt-ltb _ _ h)

  module _ (h : len ≤ c.limit) where
    pub headed_full : c.limit < plain → headed c len num plain u w room b ≡ stop (refused 2) (closed c) w b
    unfolding headed
    headed_full g = rw (le-ltb _ _ h, lt-ltb _ _ g)

    module _ (g : plain ≤ c.limit) where
      pub headed_empty : len ≡ 0 → plain ≡ 0 → headed c len num plain u w room b ≡ body_at c 0 num u w room b
      unfolding headed
      headed_empty e f = rw (le-ltb _ _ h, le-ltb _ _ g, eq-eqb _ _ e, eq-eqb _ _ f)

      pub headed_bad : len ≡ 0 → (plain ≢ 0) → headed c len num plain u w room b ≡ stop (refused 4) (closed c) w b
      unfolding headed
      headed_bad e f = rw (le-ltb _ _ h, le-ltb _ _ g, eq-eqb _ _ e, ne_eqb _ _ f)

      pub headed_held : (len ≢ 0) → plain ≡ 0 → headed c len num plain u w room b ≡ body_at (holding_frame c len num) len num u w room b
      unfolding headed
      headed_held e f = rw (le-ltb _ _ h, le-ltb _ _ g, ne_eqb _ _ e, eq-eqb _ _ f)

      pub headed_packed : (len ≢ 0) → (plain ≢ 0) → headed c len num plain u w room b ≡ stop (refused 5) (closed c) w b
      unfolding headed
      headed_packed e f = rw (le-ltb _ _ h, le-ltb _ _ g, ne_eqb _ _ e, ne_eqb _ _ f)

module _ (c : PacketCodec) (u w : List ℕ) (room : ℕ) (b : List ℕ) where
  pub frame-short : frame_held_of c ≡ none → length u < 7 → frame_at c u w room b ≡ stop need_more c w b
  unfolding frame_at frame_from
  frame-short e h = rw (e, lt-ltb _ _ h)

  pub frame-headed : frame_held_of c ≡ none → 7 ≤ length u → frame_at c u w room b ≡ headed c (le_at u 0 3) (slice_index u 3) (le_at u 4 3) u w room b
  unfolding frame_at frame_from
  frame-headed e h = rw (e, le-ltb _ _ h)

  pub frame_held : (len num : ℕ) → frame_held_of c ≡ held len num → frame_at c u w room b ≡ body_at c len num u w room b
  unfolding frame_at frame_from
  frame_held len num e = rw e

-- ---- one round, and a call

module _ (m : ℕ) (c : PacketCodec) (u w : List ℕ) (room : ℕ) (b : List ℕ) where
  abbrev d : Done
  d = drained m c w b

  pub lap_frame : asks d.answer ≡ true → lap_at m c u w room b ≡ frame_at d.next u d.unread room d.buf
  unfolding lap_at
  lap_frame e = rw e

  pub lap_stop : asks d.answer ≡ false → lap_at m c u w room b ≡ record { more = false; done = d }
  unfolding lap_at
  lap_stop e = rw e

-- nothing unread: straight to the frame
pub drained_none : (m : ℕ) (c : PacketCodec) (b : List ℕ) → c.closed ≡ false
    → drained m c [] b ≡ record { answer = need_more; used = 0; next = c; unread = []; buf = b }
unfolding drained
drained_none m c b k =
    let x = Some (last_number c.frame) in
    rw (read_open m x (plain_of c) [] b k, opened_none m x (plain_of c) b, sub-zero c.unread)

pub lap_empty : (m : ℕ) (c : PacketCodec) (u : List ℕ) (room : ℕ) (b : List ℕ) → c.closed ≡ false
    → lap_at m c u [] room b ≡ frame_at c u [] room b
unfolding lap_at
lap_empty m c u room b k = rw (drained_none m c b k)

pub framed-closed : (m : ℕ) (c : PacketCodec) (u s b : List ℕ) → c.closed ≡ true → read_framed m c u s b ≡ untouched 7 c s b
unfolding read_framed
framed-closed m c u s b e = rw e

module _ (m : ℕ) (c : PacketCodec) (u s b : List ℕ) (e : c.closed ≡ false) where
  pub framed_no_room : length s < c.unread → read_framed m c u s b ≡ untouched 6 c s b
  unfolding read_framed
  framed_no_room h = rw (e, lt-ltb _ _ h)

  pub framed_open : c.unread ≤ length s → read_framed m c u s b ≡ running m c u (unread_of c s) (length s) b
  unfolding read_framed
  framed_open h = rw (e, le-ltb _ _ h)

-- ---- a round uses no more bytes than there are; where it asks for another seven at least, else none. The unread bytes stay within room

pub record Uses (u : List ℕ) (room : ℕ) (t : Lap) : Type 0 where
  pub most : t.done.used ≤ length u
  pub least : t.more ≡ true → 7 ≤ t.done.used
  pub nothing : t.more ≡ false → t.done.used ≡ 0
  pub within : t.done.next.unread ≤ room

stop_uses : (u : List ℕ) (room : ℕ) (a : Answered) (c : PacketCodec) (w b : List ℕ) → c.unread ≤ room → Uses u room (stop a c w b)
stop_uses u room a c w b h = record {
  most = omega arith;
  least = λ e. let z : ◌≡◌ {A = ℕ} 0 1 = cc in omega arith;
  nothing = λ e. refl;
  within = h;
}

body_uses : (c : PacketCodec) (len num : ℕ) (u w : List ℕ) (room : ℕ) (b : List ℕ) → c.unread ≤ room → Uses u room (body_at c len num u w room b)
unfolding body_at took
body_uses c len num u w room b g =
    by_test (Uses u room) (nat_lt (length u) (len + 7)) (stop need_more c w b) _ (λ _. stop_uses u room need_more c w b g)
    (λ h. by_test (Uses u room) (num == c.frame) _ (stop (refused 3) (closed c) w b)
    (λ _. by_test (Uses u room) (nat_lt room (c.unread + len)) (stop (refused 6) c w b) (took c len u w b) (λ _. stop_uses u room (refused 6) c w b g)
    (λ i. record {
      most = ltb-false _ _ h;
      least = λ _. omega arith;
      nothing = λ e. let z : ◌≡◌ {A = ℕ} 0 1 = cc in omega arith;
      within = ltb-false _ _ i;
    }))
    (λ _. stop_uses u room (refused 3) (closed c) w b g))

from_uses : (c : PacketCodec) (h : FrameHeld) (u w : List ℕ) (room : ℕ) (b : List ℕ) → c.unread ≤ room → Uses u room (frame_from c h u w room b)
unfolding frame_from headed
from_uses c none u w room b g =
    let len : ℕ = le_at u 0 3 in
    let num : ℕ = slice_index_or u 3 0 in
    let plain : ℕ = le_at u 4 3 in
    let P = Uses u room in
    by_test P (nat_lt (length u) 7) (stop need_more c w b) _ (λ _. stop_uses u room need_more c w b g)
    (λ _. by_test P (nat_lt c.limit len) (stop (refused 2) (closed c) w b) _ (λ _. stop_uses u room (refused 2) (closed c) w b g)
    (λ _. by_test P (nat_lt c.limit plain) (stop (refused 2) (closed c) w b) _ (λ _. stop_uses u room (refused 2) (closed c) w b g)
    (λ _. by_test P (len == 0) _ _
    (λ _. by_test P (plain == 0) _ (stop (refused 4) (closed c) w b) (λ _. body_uses c 0 num u w room b g)
    (λ _. stop_uses u room (refused 4) (closed c) w b g))
    (λ _. by_test P (plain == 0) _ (stop (refused 5) (closed c) w b) (λ _. body_uses (holding_frame c len num) len num u w room b g)
    (λ _. stop_uses u room (refused 5) (closed c) w b g)))))
from_uses c (held len num) u w room b g = body_uses c len num u w room b g

pub frame_uses : (c : PacketCodec) (u w : List ℕ) (room : ℕ) (b : List ℕ) → c.unread ≤ room → Uses u room (frame_at c u w room b)
unfolding frame_at
frame_uses c u w room b g = from_uses c (frame_held_of c) u w room b g

pub drained_less : (m : ℕ) (c : PacketCodec) (w b : List ℕ) → (drained m c w b).next.unread ≤ c.unread
unfolding drained
drained_less m c w b = omega arith

pub drained_uses : (m : ℕ) (c : PacketCodec) (w b : List ℕ) → (drained m c w b).used ≡ 0
unfolding drained
drained_uses m c w b = refl

pub lap_uses : (m : ℕ) (c : PacketCodec) (u w : List ℕ) (room : ℕ) (b : List ℕ) → c.unread ≤ room → Uses u room (lap_at m c u w room b)
unfolding lap_at
lap_uses m c u w room b g =
    let d = drained m c w b in
    let l = drained_less m c w b in
    let z = drained_uses m c w b in
    by_test (Uses u room) (asks d.answer) _ _
    (λ _. frame_uses d.next u d.unread room d.buf (omega arith))
    (λ _. record { most = omega arith; least = λ e. let y : ◌≡◌ {A = ℕ} 0 1 = cc in omega arith; nothing = λ e. z; within = omega arith })

-- any count above the length gives the same
same : (f g m : ℕ) (c : PacketCodec) (u w : List ℕ) (room : ℕ) (b : List ℕ) → c.unread ≤ room → length u < f → length u < g
    → laps f m c u w room b ≡ laps g m c u w room b
unfolding laps
same zero g m c u w room b i hf hg = absurd (not-suc-le-zero hf)
same (suc f) zero m c u w room b i hf hg = absurd (not-suc-le-zero hg)
same (suc f) (suc g) m c u w room b i hf hg =
    let t = lap_at m c u w room b in
    let v = lap_uses m c u w room b i in
    elim t.more as
    (λ k. t.more ≡ k
    → cond k (later t.done.used (laps f m t.done.next (drop t.done.used u) t.done.unread room t.done.buf)) t.done
    ≡ cond k (later t.done.used (laps g m t.done.next (drop t.done.used u) t.done.unread room t.done.buf)) t.done) [
      | true ↦ λ e. ap (later t.done.used) (same f g m t.done.next (drop t.done.used u) t.done.unread room t.done.buf v.within
          (rw length-drop (omega (arith, v.least e, v.most))) (rw length-drop (omega (arith, v.least e, v.most))))
      | false ↦ λ e. refl
    ] refl

pub running-stop : (m : ℕ) (c : PacketCodec) (u w : List ℕ) (room : ℕ) (b : List ℕ) → (lap_at m c u w room b).more ≡ false
    → running m c u w room b ≡ (lap_at m c u w room b).done
unfolding running laps
running-stop m c u w room b e = rw e

pub running_more : (m : ℕ) (c : PacketCodec) (u w : List ℕ) (room : ℕ) (b : List ℕ) → c.unread ≤ room → (lap_at m c u w room b).more ≡ true
    → running m c u w room b
    ≡ later (lap_at m c u w room b).done.used
    (running m (lap_at m c u w room b).done.next (drop (lap_at m c u w room b).done.used u) (lap_at m c u w room b).done.unread room
    (lap_at m c u w room b).done.buf)
unfolding running laps
running_more m c u w room b i e =
    let t = lap_at m c u w room b in
    let v = lap_uses m c u w room b i in
    rw e
    (ap (later t.done.used)
    (same (length u) (suc (length (drop t.done.used u))) m t.done.next (drop t.done.used u) t.done.unread room t.done.buf
    v.within (rw length-drop (omega (arith, v.least e, v.most))) (omega arith)))

-- a round that uses nothing was the last one, and one that uses some bytes was not
more_by : (t : Lap) (k : Bool) (u : List ℕ) (room : ℕ) → t.more ≡ k → Uses u room t → (t.done.used ≡ 0 → t.more ≡ false) ×
    ((t.done.used ≢ 0) → t.more ≡ true)
more_by t true u room e v = (λ z. absurd (omega (arith, v.least e, z)), λ _. e)
more_by t false u room e v = (λ _. e, λ z. absurd (z (v.nothing e)))

pub uses_more : (t : Lap) (u : List ℕ) (room : ℕ) → Uses u room t → (t.done.used ≡ 0 → t.more ≡ false) × ((t.done.used ≢ 0) → t.more ≡ true)
uses_more t u room v = more_by t t.more u room refl v

-- ---- no call turns frames on or off

module _ (on : Bool) where
  abbrev Mode : Lap → Type 0
  Mode t = t.done.next.framed ≡ on

  body_mode : (c : PacketCodec) (len num : ℕ) (u w : List ℕ) (room : ℕ) (b : List ℕ) → c.framed ≡ on → Mode (body_at c len num u w room b)
  unfolding body_at took
  body_mode c len num u w room b e =
      by_test Mode (nat_lt (length u) (len + 7)) (stop need_more c w b) _ (λ _. e)
      (λ _. by_test Mode (num == c.frame) _ (stop (refused 3) (closed c) w b)
      (λ _. by_test Mode (nat_lt room (c.unread + len)) (stop (refused 6) c w b) (took c len u w b) (λ _. e) (λ _. e))
      (λ _. e))

  from_mode : (c : PacketCodec) (h : FrameHeld) (u w : List ℕ) (room : ℕ) (b : List ℕ) → c.framed ≡ on → Mode (frame_from c h u w room b)
  unfolding frame_from headed
  from_mode c none u w room b e =
      let len : ℕ = le_at u 0 3 in
      let num : ℕ = slice_index_or u 3 0 in
      let plain : ℕ = le_at u 4 3 in
      by_test Mode (nat_lt (length u) 7) (stop need_more c w b) _ (λ _. e)
      (λ _. by_test Mode (nat_lt c.limit len) (stop (refused 2) (closed c) w b) _ (λ _. e)
      (λ _. by_test Mode (nat_lt c.limit plain) (stop (refused 2) (closed c) w b) _ (λ _. e)
      (λ _. by_test Mode (len == 0) _ _
      (λ _. by_test Mode (plain == 0) _ (stop (refused 4) (closed c) w b) (λ _. body_mode c 0 num u w room b e) (λ _. e))
      (λ _. by_test Mode (plain == 0) _ (stop (refused 5) (closed c) w b) (λ _. body_mode (holding_frame c len num) len num u w room b e) (λ _. e)))))
  from_mode c (held len num) u w room b e = body_mode c len num u w room b e

  lap_mode : (m : ℕ) (c : PacketCodec) (u w : List ℕ) (room : ℕ) (b : List ℕ) → c.framed ≡ on → Mode (lap_at m c u w room b)
  unfolding lap_at frame_at drained
  lap_mode m c u w room b e =
      let d = drained m c w b in
      by_test Mode (asks d.answer) _ _ (λ _. from_mode d.next (frame_held_of d.next) u d.unread room d.buf e) (λ _. e)

  laps_mode : (f m : ℕ) (c : PacketCodec) (u w : List ℕ) (room : ℕ) (b : List ℕ) → c.framed ≡ on → (laps f m c u w room b).next.framed ≡ on
  unfolding laps
  laps_mode zero m c u w room b e = e
  laps_mode (suc f) m c u w room b e =
      let t = lap_at m c u w room b in
      let k = lap_mode m c u w room b e in
      by_test (λ (d : Done). d.next.framed ≡ on) t.more _ t.done
      (λ _. laps_mode f m t.done.next (drop t.done.used u) t.done.unread room t.done.buf k)
      (λ _. k)

pub framed_mode : (m : ℕ) (c : PacketCodec) (u s b : List ℕ) → (read_framed m c u s b).next.framed ≡ c.framed
unfolding read_framed running
framed_mode m c u s b =
    let P : Done → Type 0 = λ d. d.next.framed ≡ c.framed in
    by_test P c.closed (untouched 7 c s b) _ (λ _. refl)
    (λ _. by_test P (nat_lt (length s) c.unread) (untouched 6 c s b) _ (λ _. refl)
    (λ _. laps_mode c.framed (suc (length u)) m c u (unread_of c s) (length s) b refl))
