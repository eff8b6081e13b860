-- "Staging of 2·limit + 4 bytes never gives 6": nor does one byte less, where the packet buffer is as long as the limit. Where the plain
-- reader asks for more, fewer than limit + 4 bytes are unread, and a frame adds no more than limit.
use Rattle.std.specs.Prelude.{◌≡◌, ℕ, zero, suc, ◌+◌, ◌<◌, ◌≤◌, Bool, true, false, List, length, take, drop, ◌==◌, ◌≢◌, nat_lt, slice_index_or, Option, Some}
use Rattle.std.proofs.Math.Path.{refl}
use Rattle.std.proofs.Common.{◌∙◌, length-append, length-take-le}
use Rattle.std.proofs.Math.Nat.{not-suc-le-zero}
use native.Mathlib.Omega.{arith}
use Rattle.std.proofs.Math.ListN.{length-drop, length-take}
use borrow.Author.Tests.{ltb-true, ltb-false}
use Rattle.wire.specs.Le.{le_at}
use Rattle.wire.specs.Room.{patch}
use Rattle.wire.specs.RoomLaws.{length-patch}
use Rattle.chunk.specs.Read as P
use Rattle.chunk.specs.Read.{Answered, need_more, packet, refused, Held, held_of, holding, accepted, turn_of, turn_from, turns, opened, read}
use Rattle.chunk.specs.ReadLaws.{by_test, took_more, took_last, turn_uses}
use Rattle.chunk.specs.declared.PlainPacketCodec.{PlainPacketCodec}
use Rattle.frame.specs.Codec as C
use Rattle.frame.specs.Codec.{plain_of, closed, holding_frame, renumbered, FrameHeld, frame_held_of, unread_of, last_number}
use Rattle.frame.specs.Read as F
use Rattle.frame.specs.Read.{Done, Lap, body_at, headed, frame_from, frame_at, drained, asks, lap_at, later, laps, running, untouched, read_framed}
use Rattle.frame.specs.declared.PacketCodec.{PacketCodec}

zero_one : ◌≡◌ {A = ℕ} 0 1 → ⊥
zero_one h = omega arith

not_six : (k : ℕ) → (k ≢ 6) → refused k ≢ refused 6
not_six k z e = z (let y : k ≡ 6 = cc e in y)

-- ---- the plain reader

-- a state whose counts are within its limit
pub record Fits (st : PlainPacketCodec) : Type 0 where
  pub taken : st.taken ≤ st.limit
  pub held : (len num : ℕ) → held_of st ≡ P.held len num → st.taken + len ≤ st.limit

-- what a call of the plain reader on u leaves where the limit is l and the buffer n bytes: never 6, and where it wants more there are
-- few bytes left
pub record Calm (l n : ℕ) (u : List ℕ) (d : P.Done) : Type 0 where
  pub limit : d.next.limit ≡ l
  pub fits : Fits d.next
  pub buffer : length d.buf ≡ n
  pub never : d.answer ≡ refused 6 → ⊥
  pub few : d.answer ≡ need_more → length u < d.used + (l + 4)

record CalmTurn (l n : ℕ) (u : List ℕ) (t : P.Turned) : Type 0 where
  pub limit : t.done.next.limit ≡ l
  pub fits : Fits t.done.next
  pub buffer : length t.done.buf ≡ n
  pub never : t.done.answer ≡ refused 6 → ⊥
  pub few : t.more ≡ false → t.done.answer ≡ need_more → length u < t.done.used + (l + 4)

closed-fits : (st : PlainPacketCodec) → Fits st → Fits (P.closed st)
closed-fits st f = record { taken = f.taken; held = f.held }

hold_fits : (st : PlainPacketCodec) (len num : ℕ) → Fits st → st.taken + len ≤ st.limit → Fits (holding st len num)
hold_fits st len num f h = record { taken = f.taken; held = λ len' num' e. let z : len ≡ len' = cc e in omega arith }

past_fits : (st : PlainPacketCodec) (num n : ℕ) → n ≤ st.limit → Fits (P.past st num n)
past_fits st num n h = record { taken = h; held = λ len num e. absurd (zero_one (cc e)) }

refused_calm : (u b : List ℕ) (k : ℕ) (st : PlainPacketCodec) → Fits st → (k ≢ 6) → CalmTurn st.limit (length b) u (P.stop (refused k) st b)
refused_calm u b k st f z = record { limit = refl; fits = f; buffer = refl; never = not_six k z; few = λ _ e. absurd (zero_one (cc e)) }

took_calm : (m : ℕ) (st : PlainPacketCodec) (len num : ℕ) (u b : List ℕ) → Fits st → st.taken + len ≤ st.limit → st.taken + len ≤ length b
    → len + 4 ≤ length u
    → CalmTurn st.limit (length b) u (P.took m st len num u b)
unfolding P.took
took_calm m st len num u b f h r l =
    let q : List ℕ = take len (drop 4 u) in
    let lq : length q ≡ len = rw (length-take, length-drop) (omega arith) in
    let lb : length (patch b st.taken q) ≡ length b = length-patch b st.taken q (omega (arith, lq)) in
    by_test (CalmTurn st.limit (length b) u) (len == m) (took_more st len num u b) (took_last st len num u b)
    (λ _. record {
      limit = refl;
      fits = past_fits st num (st.taken + len) h;
      buffer = lb;
      never = λ e. zero_one (cc e);
      few = λ k _. absurd
          (zero_one (cc k));
    })
    (λ _. record { limit = refl; fits = past_fits st num 0 (omega arith); buffer = lb; never = λ e. zero_one (cc e); few = λ _ e. absurd (zero_one (cc e)) })

chunk_calm : (m : ℕ) (x : Option ℕ) (st : PlainPacketCodec) (len num : ℕ) (u b : List ℕ) → Fits st → st.taken + len ≤ st.limit → st.limit ≤ length b
    → CalmTurn st.limit (length b) u (P.chunk_at m x st len num u b)
unfolding P.chunk_at
chunk_calm m x st len num u b f h r =
    by_test (CalmTurn st.limit (length b) u) (nat_lt (length u) (len + 4)) (P.stop need_more st b) _
    (λ s. let s' = ltb-true (length u) (len + 4) s in record { limit = refl; fits = f; buffer = refl; never = λ e. zero_one (cc e); few = λ _ _. omega arith })
    (λ s. by_test (CalmTurn st.limit (length b) u) (accepted x st.number num) _ (P.stop (refused 3) (P.closed st) b)
    (λ _. by_test (CalmTurn st.limit (length b) u) (nat_lt (length b) (st.taken + len)) (P.stop (refused 6) st b) (P.took m st len num u b)
    (λ t. let t' = ltb-true (length b) (st.taken + len) t in absurd (let y : 1 ≤ 0 = omega arith in not-suc-le-zero y))
    (λ t. took_calm m st len num u b f h (ltb-false (length b) (st.taken + len) t) (ltb-false (length u) (len + 4) s)))
    (λ _. refused_calm u b 3 (P.closed st) (closed-fits st f) (λ e. omega arith)))

from_calm : (m : ℕ) (x : Option ℕ) (st : PlainPacketCodec) (h : Held) (u b : List ℕ) → held_of st ≡ h → Fits st → st.limit ≤ length b
    → CalmTurn st.limit (length b) u (turn_from m x st h u b)
unfolding turn_from P.headed
from_calm m x st P.none u b e f r =
    let len : ℕ = le_at u 0 3 in
    let num : ℕ = slice_index_or u 3 0 in
    by_test (CalmTurn st.limit (length b) u) (nat_lt (length u) 4) (P.stop need_more st b) _
    (λ s. let s' = ltb-true (length u) 4 s in record { limit = refl; fits = f; buffer = refl; never = λ z. zero_one (cc z); few = λ _ _. omega arith })
    (λ _. by_test (CalmTurn st.limit (length b) u) (len == 0) _ _ (λ _. chunk_calm m x st 0 num u b f (omega (arith, f.taken)) r)
    (λ _. by_test (CalmTurn st.limit (length b) u) (nat_lt st.limit (st.taken + len)) (P.stop (refused 2) (P.closed st) b) _
    (λ _. refused_calm u b 2 (P.closed st) (closed-fits st f) (λ z. omega arith))
    (λ t. let t' = ltb-false st.limit (st.taken + len) t in chunk_calm m x (holding st len num) len num u b (hold_fits st len num f t') t' r)))
from_calm m x st (P.held len num) u b e f r = chunk_calm m x st len num u b f (f.held len num e) r

turn_calm : (m : ℕ) (x : Option ℕ) (st : PlainPacketCodec) (u b : List ℕ) → Fits st → st.limit ≤ length b → CalmTurn st.limit (length b) u
    (turn_of m x st u b)
unfolding turn_of
turn_calm m x st u b f r = from_calm m x st (held_of st) u b refl f r

turns_calm : (f m : ℕ) (x : Option ℕ) (st : PlainPacketCodec) (u b : List ℕ) → length u < f → Fits st → st.limit ≤ length b
    → Calm st.limit (length b) u (turns f m x st u b)
unfolding turns
turns_calm zero m x st u b h g r = absurd (not-suc-le-zero h)
turns_calm (suc f) m x st u b h g r =
    let t = turn_of m x st u b in
    let c = turn_calm m x st u b g r in
    let w = turn_uses m x st u b in
    by_test (Calm st.limit (length b) u) t.more _ t.done
    (λ k.
    let i = turns_calm f m x t.done.next (drop t.done.used u) t.done.buf (rw length-drop (omega (arith, w.least k, w.most))) c.fits
    (rw (c.limit, c.buffer) r) in
    record {
      limit = i.limit ∙ c.limit;
      fits = i.fits;
      buffer = i.buffer ∙ c.buffer;
      never = i.never;
      few = λ a. let y = rw (length-drop, c.limit) at (i.few a) in omega (arith, y, w.most);
    })
    (λ k. record { limit = c.limit; fits = c.fits; buffer = c.buffer; never = c.never; few = c.few k })

pub read_calm : (m : ℕ) (x : Option ℕ) (st : PlainPacketCodec) (u b : List ℕ) → Fits st → st.limit ≤ length b → Calm st.limit (length b) u
    (read m x st u b)
unfolding read opened
read_calm m x st u b f r =
    by_test (Calm st.limit (length b) u) st.closed (record { answer = refused 7; used = 0; next = st; buf = b }) _
    (λ _. record { limit = refl; fits = f; buffer = refl; never = not_six 7 (λ e. omega arith); few = λ e. absurd (zero_one (cc e)) })
    (λ _. turns_calm (suc (length u)) m x st u b (omega arith) f r)

-- ---- the framed reader

-- a codec whose counts are within its limit
pub record Good (c : PacketCodec) : Type 0 where
  pub plain : Fits (plain_of c)
  pub frame : (len num : ℕ) → frame_held_of c ≡ C.held len num → len ≤ c.limit
  pub few : c.unread < c.limit + c.limit + 4

-- what one frame, a round or a call leaves, where the limit is l and the packet buffer n bytes
pub record Still (l n : ℕ) (d : Done) : Type 0 where
  pub limit : d.next.limit ≡ l
  pub good : Good d.next
  pub never : d.answer ≡ refused 6 → ⊥
  pub counted : length d.unread ≡ d.next.unread
  pub buffer : length d.buf ≡ n

abbrev StillLap : ℕ → ℕ → Lap → Type 0
StillLap l n t = Still l n t.done

module _ (u w : List ℕ) (room : ℕ) (b : List ℕ) where
  stopped : (c : PacketCodec) (a : Answered) → Good c → length w ≡ c.unread → (a ≢ refused 6) → StillLap c.limit (length b) (F.stop a c w b)
  stopped c a g e n = record { limit = refl; good = g; never = n; counted = e; buffer = refl }

  closed_good : (c : PacketCodec) → Good c → Good (closed c)
  closed_good c g = record { plain = closed-fits (plain_of c) g.plain; frame = g.frame; few = g.few }

  refuses : (c : PacketCodec) (k : ℕ) → Good c → length w ≡ c.unread → (k ≢ 6) → StillLap c.limit (length b) (F.stop (refused k) (closed c) w b)
  refuses c k g e z = stopped (closed c) (refused k) (closed_good c g) e (not_six k z)

  wants : (c : PacketCodec) → Good c → length w ≡ c.unread → StillLap c.limit (length b) (F.stop need_more c w b)
  wants c g e = stopped c need_more g e (λ z. zero_one (cc z))

  body-still : (c : PacketCodec) (len num : ℕ) → Good c → length w ≡ c.unread → len ≤ c.limit → c.unread < c.limit + 4 → c.limit + c.limit + 3 ≤ room
      → StillLap c.limit (length b) (body_at c len num u w room b)
  unfolding body_at F.took
  body-still c len num g e h few r =
      let S = StillLap c.limit (length b) in
      by_test S (nat_lt (length u) (len + 7)) (F.stop need_more c w b) _ (λ _. wants c g e)
      (λ s. by_test S (num == c.frame) _ (F.stop (refused 3) (closed c) w b)
      (λ _. by_test S (nat_lt room (c.unread + len)) (F.stop (refused 6) c w b) (F.took c len u w b)
      (λ t. let t' = ltb-true room (c.unread + len) t in absurd (let y : 1 ≤ 0 = omega arith in not-suc-le-zero y))
      (λ t. let s' = ltb-false (length u) (len + 7) s in record {
        limit = refl;
        good = record { plain = g.plain; frame = λ len' num' z. absurd (zero_one (cc z)); few = omega arith };
        never = λ z. zero_one (cc z);
        counted = rw (length-append, length-take, length-drop, e) (omega arith);
        buffer = refl;
      }))
      (λ _. refuses c 3 g e (λ z. omega arith)))

  from_still : (c : PacketCodec) (h : FrameHeld) → frame_held_of c ≡ h → Good c → length w ≡ c.unread → c.unread < c.limit + 4 → c.limit + c.limit + 3 ≤ room
      → StillLap c.limit (length b) (frame_from c h u w room b)
  unfolding frame_from headed
  from_still c C.none k g e few r =
      let len : ℕ = le_at u 0 3 in
      let num : ℕ = slice_index_or u 3 0 in
      let plain : ℕ = le_at u 4 3 in
      let S = StillLap c.limit (length b) in
      by_test S (nat_lt (length u) 7) (F.stop need_more c w b) _ (λ _. wants c g e)
      (λ _. by_test S (nat_lt c.limit len) (F.stop (refused 2) (closed c) w b) _ (λ _. refuses c 2 g e (λ z. omega arith))
      (λ t. let t' = ltb-false c.limit len t in
      by_test S (nat_lt c.limit plain) (F.stop (refused 2) (closed c) w b) _ (λ _. refuses c 2 g e (λ z. omega arith))
      (λ _. by_test S (len == 0) _ _
      (λ _. by_test S (plain == 0) _ (F.stop (refused 4) (closed c) w b) (λ _. body-still c 0 num g e (omega arith) few r)
      (λ _. refuses c 4 g e (λ z. omega arith)))
      (λ _. by_test S (plain == 0) _ (F.stop (refused 5) (closed c) w b)
      (λ _. body-still (holding_frame c len num) len num
      (record { plain = g.plain; frame = λ len' num' z. (let y : len ≡ len' = cc z in omega arith); few = g.few }) e t' few r)
      (λ _. refuses c 5 g e (λ z. omega arith))))))
  from_still c (C.held len num) k g e few r = body-still c len num g e (g.frame len num k) few r

  frame-still : (c : PacketCodec) → Good c → length w ≡ c.unread → c.unread < c.limit + 4 → c.limit + c.limit + 3 ≤ room
      → StillLap c.limit (length b) (frame_at c u w room b)
  unfolding frame_at
  frame-still c g e few r = from_still c (frame_held_of c) refl g e few r

-- the plain reader on the unread bytes
drained-still : (m : ℕ) (c : PacketCodec) (w b : List ℕ) → Good c → length w ≡ c.unread → c.limit ≤ length b
    → Still c.limit (length b) (drained m c w b) × ((drained m c w b).answer ≡ need_more → (drained m c w b).next.unread < c.limit + 4)
unfolding drained
drained-still m c w b g e r =
    let k = read_calm m (Some (last_number c.frame)) (plain_of c) w b g.plain r in (
      record {
        limit = k.limit;
        good = record { plain = k.fits; frame = λ len num z. rw k.limit (g.frame len num z); few = rw k.limit (omega (arith, g.few)) };
        never = k.never;
        counted = rw (length-drop, e);
        buffer = k.buffer;
      },
      λ a. omega (arith, k.few a, e),
    )

asks_more : (a : Answered) → asks a ≡ true → a ≡ need_more
asks_more need_more e = refl
asks_more (packet n) e = absurd (zero_one (cc e))
asks_more (refused n) e = absurd (zero_one (cc e))

lap_still : (m : ℕ) (c : PacketCodec) (u w : List ℕ) (room : ℕ) (b : List ℕ) → Good c → length w ≡ c.unread → c.limit + c.limit + 3 ≤ room
    → c.limit ≤ length b
    → StillLap c.limit (length b) (lap_at m c u w room b)
unfolding lap_at
lap_still m c u w room b g e r h =
    let d = drained m c w b in
    let k = drained-still m c w b g e h in
    by_test (StillLap c.limit (length b)) (asks d.answer) _ _
    (λ a.
    let few = k.1 (asks_more d.answer a) in
    let z = k.0.limit in
    let f = frame-still u d.unread room d.buf d.next k.0.good k.0.counted (rw z few) (rw z r) in
    record { limit = f.limit ∙ z; good = f.good; never = f.never; counted = f.counted; buffer = f.buffer ∙ k.0.buffer })
    (λ _. k.0)

laps-still : (f m : ℕ) (c : PacketCodec) (u w : List ℕ) (room : ℕ) (b : List ℕ) → Good c → length w ≡ c.unread → c.limit + c.limit + 3 ≤ room
    → c.limit ≤ length b
    → Still c.limit (length b) (laps f m c u w room b)
unfolding laps
laps-still zero m c u w room b g e r h = record { limit = refl; good = g; never = λ z. zero_one (cc z); counted = e; buffer = refl }
laps-still (suc f) m c u w room b g e r h =
    let t = lap_at m c u w room b in
    let k = lap_still m c u w room b g e r h in
    let z = k.limit in
    by_test (Still c.limit (length b)) t.more
    (later t.done.used (laps f m t.done.next (drop t.done.used u) t.done.unread room t.done.buf)) t.done
    (λ _.
    let i = laps-still f m t.done.next (drop t.done.used u) t.done.unread room t.done.buf k.good k.counted (rw z r)
    (rw (z, k.buffer) h) in
    record { limit = i.limit ∙ z; good = i.good; never = i.never; counted = i.counted; buffer = i.buffer ∙ k.buffer })
    (λ _. k)

-- an opened codec, whether frames are on or not
pub first_good : (limit number frame : ℕ) (on : Bool)
    → Good (record {
      limit = limit;
      taken = 0;
      len = 0;
      unread = 0;
      size = 0;
      number = number;
      waiting = false;
      ahead = 0;
      closed = false;
      frame = frame;
      held = false;
      coming = 0;
      framed = on;
    })
first_good limit number frame on = record {
  plain = record { taken = omega arith; held = λ len num e. absurd (zero_one (cc e)) };
  frame = λ len num e. absurd (zero_one (cc e));
  few = omega arith;
}

-- writing, reset and sync change numbers only
pub renumbered_good : (c : PacketCodec) (k : ℕ) → Good c → Good (renumbered c k)
renumbered_good c k g = record { plain = record { taken = g.plain.taken; held = g.plain.held }; frame = g.frame; few = g.few }

-- with a packet buffer as long as the limit and such a staging buffer no call answers 6, and so on for the next call
abbrev Never : PacketCodec → List ℕ → Done → Type 0
Never c b d = (d.answer ≢ refused 6) × Good d.next × (d.next.limit ≡ c.limit) × (length d.buf ≡ length b)

pub never_six : (m : ℕ) (c : PacketCodec) (u s b : List ℕ) → Good c → c.limit + c.limit + 3 ≤ length s → c.limit ≤ length b
    → ((read_framed m c u s b).answer ≢ refused 6)
    × Good (read_framed m c u s b).next
    × ((read_framed m c u s b).next.limit ≡ c.limit)
    × (length (read_framed m c u s b).buf ≡ length b)
unfolding read_framed running unread_of
never_six m c u s b g r h =
    let l : length (take c.unread s) ≡ c.unread = length-take-le c.unread s (omega (arith, g.few)) in
    by_test (Never c b) c.closed (untouched 7 c s b) _
    (λ _. (not_six 7 (λ e. omega arith), g, refl, refl))
    (λ _. by_test (Never c b) (nat_lt (length s) c.unread) (untouched 6 c s b) _
    (λ t. let t' = ltb-true (length s) c.unread t in absurd (let y : 1 ≤ 0 = omega (arith, g.few) in not-suc-le-zero y))
    (λ _. let i = laps-still (suc (length u)) m c u (take c.unread s) (length s) b g l r h in (i.never, i.good, i.limit, i.buffer)))
