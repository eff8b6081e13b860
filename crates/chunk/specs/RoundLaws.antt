-- What was written is read: the chunks of a packet, read with room and within the limit, give the packet. Over any piece size
-- of 1 to M, any tolerance, and whatever stands behind the chunks.
use Rattle.std.specs.Prelude.{◌≡◌, ℕ, zero, suc, ◌+◌, ◌-◌, ◌<◌, ◌≤◌, true, false, List, ◌++◌, length, take, drop, slice_index, refl, Option, Some, None}
use Rattle.std.proofs.Common.{sym, ap, ◌∙◌, append_assoc, zero-add, arith, length-append, length-drop, length-take, take-append-drop, take_at, drop_at, eq-eqb}
use Rattle.std.proofs.Math.Decide.{dec_le}
use Rattle.std.proofs.Math.Seq.{take-append_seam}
use Rattle.refusal.specs.Said.{gives}
use Rattle.wire.specs.Le.{le_at, le_bytes}
use Rattle.wire.specs.LenEncLaws.{le_back}
use Rattle.wire.specs.Room.{patch}
use Rattle.wire.specs.RoomLaws.{patch-append, length-patch}
use Rattle.chunk.specs.Chunks.{largest, next, chunk, chunks, needed, after}
use Rattle.chunk.specs.ChunksLaws.{chunks_last, chunks_more, needed_last, needed_more, after_last, after_more, length-chunk, length-chunks}
use Rattle.chunk.specs.declared.PlainPacketCodec.{PlainPacketCodec}
use Rattle.chunk.specs.Read.{idle, past, renumbered, none, held_of, packet, Done, accepted, took, turn_of, opened, read}
use Rattle.chunk.specs.ReadLaws.{took_more, took_last, took_more_lem, took_last_lem, turn_takes, opened-stop, opened_more, read_open}
use Rattle.chunk.specs.Write.{write}
use Rattle.chunk.specs.WriteLaws.{write-whole}

-- ---- a chunk that is there

-- its header says its length and its number; its payload stands behind it
pub header-length : (k : ℕ) (q r : List ℕ) → length q ≤ largest → le_at (chunk k q ++ r) 0 3 ≡ length q
unfolding chunk le_bytes
header-length k q r h = let l : length q < 16777216 = omega arith in le_back 3 (length q) l

pub header-number : (k : ℕ) (q r : List ℕ) → slice_index (chunk k q ++ r) 3 ≡ k
unfolding chunk le_bytes
header-number k q r = refl

pub payload : (k : ℕ) (q r : List ℕ) → take (length q) (drop 4 (chunk k q ++ r)) ≡ q
unfolding chunk le_bytes
payload k q r = take-append_seam q r

-- the expected number is accepted
pub expected : (x : Option ℕ) (k : ℕ) → accepted x k k ≡ true
expected None k = eq-eqb k k refl
expected (Some y) k = rw (eq-eqb k k refl)

-- a reader that remembers no header takes a chunk with the expected number, whatever follows
pub turn_chunk : (m : ℕ) (x : Option ℕ) (st : PlainPacketCodec) (q r b : List ℕ) → held_of st ≡ none → length q ≤ largest
    → st.taken + length q ≤ st.limit → st.taken + length q ≤ length b
    → turn_of m x st (chunk st.number q ++ r) b ≡ took m st (length q) st.number (chunk st.number q ++ r) b
turn_chunk m x st q r b e l lim room =
    let k : ℕ = st.number in
    let u : List ℕ = chunk k q ++ r in
    let long : length q + 4 ≤ length u = omega (arith, length-append (chunk k q) r, length-chunk k q) in
    let n : le_at u 0 3 ≡ length q = header-length k q r l in
    let a : accepted x k (slice_index u 3) ≡ true = rw (header-number k q r) (expected x k) in
    turn_takes m x st u b e (rw n long) a (rw n lim) (rw n room) ∙ rw (n, header-number k q r) refl

-- ---- a packet, by a state that is open, remembers no header and may have taken some bytes of it

abbrev pub whole : ℕ → PlainPacketCodec → List ℕ → List ℕ → Done
whole m st p b = record {
  answer = packet (st.taken + length p);
  used = needed m (length p);
  next = renumbered (past st 0 0) (after m st.number (length p));
  buf = patch b st.taken p;
}

module _ (m : ℕ) (x : Option ℕ) (pos : 0 < m) (fits : m ≤ largest) (st : PlainPacketCodec) (p r b : List ℕ)
    (free : held_of st ≡ none) (lim : st.taken + length p ≤ st.limit) (room : st.taken + length p ≤ length b) where
  abbrev k : ℕ
  k = st.number

  last : length p < m → opened m x st (chunks m k p ++ r) b ≡ whole m st p b
  last h =
      let u : List ℕ = chunk k p ++ r in
      let t : turn_of m x st u b ≡ took_last st (length p) k u b =
      turn_chunk m x st p r b free (omega arith) lim room ∙ took_last_lem m st (length p) k u b (λ e. omega arith) in
      rw (chunks_last m k p h, opened-stop m x st u b (rw t), t, payload k p r, needed_last m (length p) h, after_last m k (length p) h)

  -- the state behind a chunk of m bytes, and the buffer then
  abbrev st' : PlainPacketCodec
  st' = past st k (st.taken + m)

  abbrev b' : List ℕ
  b' = patch b st.taken (take m p)

  joined : m ≤ length p → patch b' (st.taken + m) (drop m p) ≡ patch b st.taken p
  joined h =
      let l : length (take m p) ≡ m = rw length-take (omega arith) in
      let w : st.taken + (length (take m p) + length (drop m p)) ≤ length b = rw (l, length-drop) (omega arith) in
      ap (λ (j : ℕ). patch b' (st.taken + j) (drop m p)) (sym l)
      ∙ patch-append b st.taken (take m p) (drop m p) w
      ∙ ap (patch b st.taken) (take-append-drop m p)

  more : m ≤ length p → opened m x st' (chunks m (next k) (drop m p) ++ r) b' ≡ whole m st' (drop m p) b'
      → opened m x st (chunks m k p ++ r) b ≡ whole m st p b
  more h ih =
      let q : List ℕ = take m p in
      let R : List ℕ = chunks m (next k) (drop m p) ++ r in
      let u : List ℕ = chunk k q ++ R in
      let lq : length q ≡ m = rw length-take (omega arith) in
      let t : turn_of m x st u b ≡ took_more st m k u b =
      turn_chunk m x st q R b free (omega arith) (omega arith) (omega arith)
      ∙ ap (λ (j : ℕ). took m st j k u b) lq
      ∙ took_more_lem m st m k u b refl in
      let d : drop (m + 4) u ≡ R = drop_at (chunk k q) R (m + 4) (length-chunk k q ∙ ap (λ (j : ℕ). j + 4) lq) in
      let bytes : take m (drop 4 u) ≡ q = ap (λ (j : ℕ). take j (drop 4 u)) (sym lq) ∙ payload k q R in
      let n : st.taken + m + (length p - m) ≡ st.taken + length p = omega arith in
      rw (
        chunks_more m k p pos h,
        append_assoc (chunk k q) (chunks m (next k) (drop m p)) r,
        opened_more m x st u b (rw t),
        t,
        d,
        bytes,
        ih,
        joined h,
        length-drop m p,
        needed_more m (length p) pos h,
        after_more m k (length p) pos h,
        n,
      )

round : (f m : ℕ) (x : Option ℕ) → 0 < m → m ≤ largest → (st : PlainPacketCodec) (p r b : List ℕ) → length p ≤ f → held_of st ≡ none
    → st.taken + length p ≤ st.limit → st.taken + length p ≤ length b → opened m x st (chunks m st.number p ++ r) b ≡ whole m st p b
round zero m x pos fits st p r b h free lim room = last m x pos fits st p r b free lim room (omega arith)
round (suc f) m x pos fits st p r b h free lim room =
    elim (dec_le m (length p)) [
      | yes g ↦
          let l : length (take m p) ≡ m = rw length-take (omega arith) in
          let lb : length (patch b st.taken (take m p)) ≡ length b = length-patch b st.taken (take m p) (omega arith) in
          more m x pos fits st p r b free lim room g
          (round f m x pos fits (past st st.number (st.taken + m)) (drop m p) r (patch b st.taken (take m p))
          (rw length-drop (omega arith)) refl (rw length-drop (omega arith)) (rw (length-drop, lb) (omega arith)))
      | no g ↦ last m x pos fits st p r b free lim room (omega arith)
    ]

pub opened-chunks : (m : ℕ) (x : Option ℕ) → 0 < m → m ≤ largest → (st : PlainPacketCodec) (p r b : List ℕ) → held_of st ≡ none
    → st.taken + length p ≤ st.limit → st.taken + length p ≤ length b → opened m x st (chunks m st.number p ++ r) b ≡ whole m st p b
opened-chunks m x pos fits st p r b free lim room = round (length p) m x pos fits st p r b (omega arith) free lim room

-- ---- both ends: a packet that is written is read by an idle reader that expects the writer's number. It comes back, all its
-- bytes are used, and the reader is idle again and expects the number that the writer has then

module _ (m : ℕ) (x : Option ℕ) (pos : 0 < m) (fits : m ≤ largest) (w : PlainPacketCodec) (limit : ℕ) (p d v b : List ℕ)
    (live : w.closed ≡ false) (small : length p ≤ w.limit) (space : needed m (length p) ≤ length d)
    (lim : length p ≤ limit) (room : length p ≤ length b) where
  abbrev pub wrote : List ℕ
  wrote = take (needed m (length p)) (write m w p d).buf

  wrote_is : wrote ≡ chunks m w.number p
  wrote_is =
      rw (write-whole m w p d live small space)
      (take_at (chunks m w.number p) (drop (0 + length (chunks m w.number p)) d) (needed m (length p)) (length-chunks m w.number p pos))

  pub round_trip : ((write m w p d).said ≡ gives (needed m (length p)))
      × (read m x (idle limit w.number) (wrote ++ v) b
      ≡ record { answer = packet (length p); used = needed m (length p); next = idle limit (write m w p d).next.number; buf = patch b 0 p })
  round_trip = (
    rw (write-whole m w p d live small space),
    rw (wrote_is, write-whole m w p d live small space)
        (read_open m x (idle limit w.number) (chunks m w.number p ++ v) b refl
        ∙ opened-chunks m x pos fits (idle limit w.number) p v b refl (rw zero-add lim) (rw zero-add room)
        ∙ rw (zero-add (length p))),
  )
