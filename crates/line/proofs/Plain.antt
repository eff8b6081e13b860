-- The plain reader as an end of a line: it can be read in parts, and what the host's calls make of one chunk or one packet at the front
-- of the unread bytes, whatever stands behind it.
use Rattle.std.specs.Prelude.{Option, None}
use Prim.Native.Nat.{ℕ, suc, ◌+◌, ◌≤◌, ◌<◌}
use mathlib.Core.Path.{◌≡◌, refl, sym, ap, ◌∙◌}
use mathlib.Core.Bool.{Bool, true, false, cond}
use mathlib.Core.List.{List, [], ◌++◌}
use native.Mathlib.Nat.{zero-add}
use native.Mathlib.Omega.{arith}
use native.Mathlib.Decide.{dec_le}
use lib.Dec.{ltb, eqb}
use lib.ListN.{length, take, drop, length-append}
use lib.Seq.{take-append_seam, drop_at}
use borrow.Author.Tests.{lt-ltb, le-ltb, eq-eqb, ne_eqb}
use Rattle.wire.specs.Room.{patch}
use Rattle.chunk.specs.Chunks.{largest, next, chunk, chunks, needed, after}
use Rattle.chunk.specs.ChunksLaws.{length-chunk, length-chunks}
use Rattle.chunk.specs.Read.{idle, holding, closed, packet, refused, Done, Turned, stop, took, turn_of, opened, read}
use Rattle.chunk.specs.ReadLaws.{by_test, took_more, took_last, took_more_lem, turn_ends, turn_uses, turn_headed, headed_empty, headed_large, headed_held}
use Rattle.chunk.specs.ReadLaws.{chunk_sync, opened-stop, opened_more, opened_none, read-closed, read_open, read_uses}
use Rattle.chunk.specs.ResumeLaws.{by_turns, resume, stays}
use Rattle.chunk.specs.RoundLaws.{header-length, header-number, payload, turn_chunk, whole, opened-chunks}
use Rattle.chunk.specs.declared.PlainPacketCodec.{PlainPacketCodec}
use Rattle.line.specs.Host.{handed, Reader, Habit, first, calls}
use Rattle.line.specs.HostLaws.{Steady, still, Shut, calls_packet, calls_wait, calls_later}
use Rattle.line.specs.Code.{called_of, plain_end}

-- ---- a packet takes bytes

abbrev Takes : Done → Type 0
Takes d = (n : ℕ) → d.answer ≡ packet n → 0 < d.used

took_takes : (m : ℕ) (st : PlainPacketCodec) (len num : ℕ) (u b : List ℕ) → Takes (took m st len num u b).done
unfolding took
took_takes m st len num u b =
    by_test (λ (t : Turned). Takes t.done) (eqb len m) (took_more st len num u b) (took_last st len num u b) (λ _ n e. omega arith) (λ _ n e. omega arith)

turn_takes : (m : ℕ) (x : Option ℕ) (st : PlainPacketCodec) (u b : List ℕ) → Takes (turn_of m x st u b).done
turn_takes m x st u b =
    turn_ends (λ (t : Turned). Takes t.done) m x st u b
    (record {
      wants = λ st' k n e. absurd (let z : ◌≡◌ {A = ℕ} 0 1 = cc in omega arith);
      refuses = λ j st' k n e. absurd (let z : ◌≡◌ {A = ℕ} 0 1 = cc in omega arith);
      takes = λ st' k len num h r. took_takes m st' len num u b;
    })

module _ (m : ℕ) (x : Option ℕ) where
  abbrev Call : PlainPacketCodec → List ℕ → List ℕ → Type 0
  Call st u b = Takes (opened m x st u b)

  takes_last : (st : PlainPacketCodec) (u b : List ℕ) → (turn_of m x st u b).more ≡ false → Call st u b
  takes_last st u b e = rw (opened-stop m x st u b e) (turn_takes m x st u b)

  takes_more : (st : PlainPacketCodec) (u b : List ℕ) → (turn_of m x st u b).more ≡ true
      → Call (turn_of m x st u b).done.next (drop (turn_of m x st u b).done.used u) (turn_of m x st u b).done.buf → Call st u b
  takes_more st u b e ih = rw (opened_more m x st u b e) (λ n a. omega (arith, (turn_uses m x st u b).least e))

  takes_by : (st : PlainPacketCodec) (u b : List ℕ) (c : Bool) → st.closed ≡ c → Takes (read m x st u b)
  takes_by st u b true c = rw (read-closed m x st u b c) (λ n e. absurd (let z : ◌≡◌ {A = ℕ} 0 1 = cc in omega arith))
  takes_by st u b false c = rw (read_open m x st u b c) (by_turns Call m x takes_last takes_more st u b)

-- ---- the laws that the host wants

pub steady : (m : ℕ) → Steady PlainPacketCodec (plain_end m).reader
steady m = record {
  uses = λ st u b. read_uses m None st u b;
  takes = λ st u b. takes_by m None st u b st.closed refl;
  resumes = λ st u v b e. ap called_of (resume m None st u v b e);
  stays = λ st u v b e. ap called_of (stays m None st u v b e);
}

-- an open reader that remembers no header and has taken t bytes of a packet
abbrev pub within : (limit k t : ℕ) → PlainPacketCodec
within limit k t = record { limit = limit; taken = t; len = 0; number = k; waiting = false; ahead = 0; closed = false }

module _ (m : ℕ) (habit : Habit PlainPacketCodec) where
  abbrev r : Reader PlainPacketCodec
  r = (plain_end m).reader

  -- a closed one answers 7
  pub shut : (st : PlainPacketCodec) → st.closed ≡ true → Shut r habit (steady m) st
  shut st c u b = ap called_of (read-closed m None st u b c)

  -- of no bytes nothing is seen
  pub calls_none : (n l k t : ℕ) (b : List ℕ) → calls r habit n (within l k t) [] b ≡ still n (within l k t) [] b
  calls_none n l k t b =
      calls_wait r habit (steady m) n (within l k t) [] b _
      (ap called_of (read_open m None (within l k t) [] b refl ∙ opened_none m None (within l k t) b)) refl

  -- ---- a chunk of m bytes in its place: the packet goes on behind it

  module _ (pos : 0 < m) (fits : m ≤ largest) where
    pub chunk-goes : (n l k t : ℕ) (q x b : List ℕ) → length q ≡ m → t + m ≤ l → l ≤ length b
        → calls r habit n (within l k t) (chunk k q ++ x) b ≡ calls r habit n (within l (next k) (t + m)) x (patch b t q)
    chunk-goes n l k t q x b lq lim room =
        let st : PlainPacketCodec = within l k t in
        let u : List ℕ = chunk k q ++ x in
        let w : turn_of m None st u b ≡ took_more st m k u b =
        turn_chunk m None st q x b refl (omega arith) (omega arith) (omega arith)
        ∙ ap (λ (j : ℕ). took m st j k u b) lq
        ∙ took_more_lem m st m k u b refl in
        let d : drop (m + 4) u ≡ x = drop_at (chunk k q) x (m + 4) (length-chunk k q ∙ ap (λ (j : ℕ). j + 4) lq) in
        let bytes : take m (drop 4 u) ≡ q = ap (λ (j : ℕ). take j (drop 4 u)) (sym lq) ∙ payload k q x in
        calls_later r habit (steady m) n (m + 4) st (within l (next k) (t + m)) u x b (patch b t q) d
        (rw (
          read_open m None st u b refl,
          opened_more m None st u b (rw w),
          w,
          d,
          bytes,
          read_open m None (within l (next k) (t + m)) x
              (patch b t q) refl,
        ))

    -- ---- a whole packet in its place: it is handed out

    pub packet_handed : ((st : PlainPacketCodec) → habit.acts st ≡ st) → (n l k : ℕ) (p x b : List ℕ) → length p ≤ l → l ≤ length b
        → calls r habit n (idle l k) (chunks m k p ++ x) b
        ≡ first (handed p) (calls r habit (suc n) (idle l (after m k (length p))) x (habit.lends n (patch b 0 p)))
    packet_handed acts n l k p x b lim room =
        let u : List ℕ = chunks m k p ++ x in
        let d : drop (needed m (length p)) u ≡ x = drop_at (chunks m k p) x (needed m (length p)) (length-chunks m k p pos) in
        let bytes : take (0 + length p) (patch b 0 p) ≡ p = ap (λ (j : ℕ). take j (patch b 0 p)) (zero-add (length p)) ∙ take-append_seam p
        (drop (0 + length p) b) in
        let e : read m None (idle l k) u b ≡ whole m (idle l k) p b =
        read_open m None (idle l k) u b refl ∙ opened-chunks m None pos fits (idle l k) p x b refl (rw zero-add lim) (omega arith) in
        calls_packet r habit (steady m) n (idle l k) u b (called_of (whole m (idle l k) p b)) (0 + length p) (ap called_of e) refl
        ∙ rw (acts, d) (ap (λ (y : List ℕ). first (handed y) (calls r habit (suc n) (idle l (after m k (length p))) x (habit.lends n (patch b 0 p)))) bytes)

-- ---- a chunk with another number: 2 or 3, and the reader is closed

-- which of them, of a chunk of len bytes after t bytes of a packet
abbrev pub refusal_by : (l t len : ℕ) → ℕ
refusal_by l t len = cond (eqb len 0) 3 (cond (ltb l (t + len)) 2 3)

pub data Shuts (m l q t k : ℕ) (p x b : List ℕ) : Type 0 where
  shuts : (st : PlainPacketCodec) → st.closed ≡ true
      → read m None (within l q t) (chunk k p ++ x) b ≡ record { answer = refused (refusal_by l t (length p)); used = 0; next = st; buf = b }
      → Shuts m l q t k p x b

module _ (m l q t k : ℕ) (p x b : List ℕ) (fits : length p ≤ largest) (other : k ≡ q → ⊥) where
  abbrev u : List ℕ
  u = chunk k p ++ x

  headed_is : turn_of m None (within l q t) u b ≡ Rattle.chunk.specs.Read.headed m None (within l q t) (length p) k u b
  headed_is =
      turn_headed m None (within l q t) u b refl (omega (arith, length-append (chunk k p) x, length-chunk k p))
      ∙ rw (header-length k p x fits, header-number k p x)

  -- by what its turn does
  by_turn : (c : ℕ) (st : PlainPacketCodec) → st.closed ≡ true → refusal_by l t (length p) ≡ c
      → turn_of m None (within l q t) u b ≡ stop (refused c) st b → Shuts m l q t k p x b
  by_turn c st z e w = shuts st z (read_open m None (within l q t) u b refl ∙ opened-stop m None (within l q t) u b (rw w) ∙ rw (w, e))

  pub chunk_shuts : Shuts m l q t k p x b
  chunk_shuts =
      let long : length p + 4 ≤ length u = omega (arith, length-append (chunk k p) x, length-chunk k p) in
      let a : eqb k q ≡ false = ne_eqb k q other in
      elim (dec_le (length p) 0) [
        | yes z ↦
            let e : length p ≡ 0 = omega arith in
            by_turn 3 (closed (within l q t)) refl (rw (eq-eqb (length p) 0 e))
            (headed_is ∙ headed_empty m None (within l q t) (length p) k u b e ∙ chunk_sync m None (within l q t) 0 k u b (omega arith) a)
        | no z ↦
            let e : length p ≡ 0 → ⊥ = λ y. z (omega arith) in
            elim (dec_le (t + length p) l) [
              | yes h ↦
                  by_turn 3 (closed (holding (within l q t) (length p) k)) refl (rw (ne_eqb (length p) 0 e, le-ltb l (t + length p) h))
                  (headed_is ∙ headed_held m None (within l q t) (length p) k u b e h
                  ∙ chunk_sync m None (holding (within l q t) (length p) k) (length p) k u b long a)
              | no h ↦
                  let g : l < t + length p = omega arith in
                  by_turn 2 (closed (within l q t)) refl (rw (ne_eqb (length p) 0 e, lt-ltb l (t + length p) g))
                  (headed_is ∙ headed_large m None (within l q t) (length p) k u b e g)
            ]
      ]
