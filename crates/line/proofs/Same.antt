-- The straight-through reader and the waiting one side by side, chunk by chunk over the same bytes, all in one piece.
use Rattle.std.specs.Prelude.{None}
use Prim.Native.Nat.{ℕ, zero, suc, ◌+◌, ◌-◌, ◌≤◌, ◌<◌}
use mathlib.Core.Path.{◌≡◌, refl, sym, ap, ◌∙◌}
use mathlib.Core.Bool.{Bool, true, false}
use mathlib.Core.List.{List, [], ◌∷◌, ◌++◌}
use native.Mathlib.Omega.{arith}
use native.Mathlib.Decide.{dec_le, ℕ_discrete}
use lib.ListN.{length, take, drop, get_or, length-append, length-drop, length-take}
use lib.Seq.{take_at}
use borrow.Author.Tests.{eq-eqb, ne_eqb}
use Rattle.wire.specs.Le.{le_at}
use Rattle.wire.specs.Room.{patch}
use Rattle.wire.specs.RoomLaws.{length-patch}
use Rattle.chunk.specs.Chunks.{next}
use Rattle.chunk.specs.declared.PlainPacketCodec.{PlainPacketCodec}
use Rattle.chunk.specs.Read as W
use Rattle.chunk.specs.ReadLaws as L
use Rattle.stream.specs.Stream.{begun, refuse, payload, headed, pass}
use Rattle.stream.specs.StreamLaws.{headed_large, header-whole, pass-header}
use Rattle.stream.specs.declared.Stream.{Stream}
use Rattle.line.specs.Host.{Event, handed, refusal, Reader, Habit, Host, first, calls}
use Rattle.line.specs.HostLaws as H
use Rattle.line.specs.Code.{called_of, plain_end}
use Rattle.line.specs.Straight.{Watched, before, Agrees, same, sooner}
use Rattle.line.proofs.Plain.{steady, within}
use Rattle.line.proofs.Passes.{headed_wrong, headed_right, run, run_none, run_refused, run_keeps, run_ends, run_cut}

-- between two chunks, at number k, with t bytes of a packet taken
abbrev pub between : (limit k t : ℕ) → Stream
between limit k t = record { limit = limit; taken = t; left = 0; got = 0; first = 0; second = 0; third = 0; number = k; full = false; closed = false }

-- what the two hosts have in common. With nothing unread the waiting one stands between two chunks, and so does the other; a refusal
-- closes the waiting reader, since it has room enough
pub record Tied (w : Watched) (h : Host PlainPacketCodec) : Type 0 where
  pub agrees : Agrees w.events h
  pub number : length h.unread ≡ 0 → (w.refusing ≡ false) × (w.state.number ≡ h.state.number)
  pub shuts : H.refusing h.events ≡ true → h.state.closed ≡ true

-- nothing is refused
quiet : {c : Bool} → H.refusing [] ≡ true → c ≡ true
quiet e = absurd (let z : ◌≡◌ {A = ℕ} 0 1 = cc in omega arith)

agrees_first : (p : List ℕ) (es : List Event) (h : Host PlainPacketCodec) → Agrees es h → Agrees (handed p ∷ es) (first (handed p) h)
agrees_first p es h (same e) = same (ap (λ (x : List Event). handed p ∷ x) e)
agrees_first p es h (sooner ps e e' long short) =
    sooner (p ∷ ps) (ap (λ (x : List Event). handed p ∷ x) e) (ap (λ (x : List Event). handed p ∷ x) e') long short

tied_first : (p : List ℕ) (w : Watched) (h : Host PlainPacketCodec) → Tied w h → Tied (before (handed p ∷ []) w) (first (handed p) h)
tied_first p w h t = record { agrees = agrees_first p w.events h t.agrees; number = t.number; shuts = t.shuts }

-- the buffer's front, up to what was written last
front-patch : (b : List ℕ) (t : ℕ) (q : List ℕ) (len : ℕ) → length q ≡ len → t + len ≤ length b → take (t + len) (patch b t q) ≡ take t b ++ q
front-patch b t q len e h =
    take_at (take t b ++ q) (drop (t + length q) b) (t + len) (rw (length-append, length-take) (omega arith))

-- ---- the waiting host, by what a turn does

module _ (m : ℕ) (habit : Habit PlainPacketCodec) where
  abbrev r : Reader PlainPacketCodec
  r = (plain_end m).reader

  module _ (n : ℕ) (st : PlainPacketCodec) (u b : List ℕ) (c : st.closed ≡ false) where
    by_stop : (a : W.Answered) (st' : PlainPacketCodec) → W.turn_of m None st u b ≡ W.stop a st' b
        → r st u b ≡ record { answer = a; used = 0; next = st'; buf = b }
    by_stop a st' e = ap called_of (L.read_open m None st u b c ∙ L.opened-stop m None st u b (rw e) ∙ rw e)

    waits : (st' : PlainPacketCodec) → W.turn_of m None st u b ≡ W.stop W.need_more st' b → calls r habit n st u b ≡ H.still n st' u b
    waits st' e = H.calls_wait r habit (steady m) n st u b _ (by_stop W.need_more st' e) refl

    refuses : (j : ℕ) (st' : PlainPacketCodec) → W.turn_of m None st u b ≡ W.stop (W.refused j) st' b
        → calls r habit n st u b ≡ record { events = refusal j ∷ []; packets = n; state = st'; unread = u; buffer = b }
    refuses j st' e = H.calls_refused r habit (steady m) n st u b _ j (by_stop (W.refused j) st' e) refl

-- ---- both, on bytes u of which t bytes of a packet have come before

module _ (m l : ℕ) (habit : Habit PlainPacketCodec) where
  abbrev Both : (n k t : ℕ) (sofar u b : List ℕ) → Type 0
  Both n k t sofar u b = Tied (run m (between l k t) sofar u) (calls (plain_end m).reader habit n (within l k t) u b)

  module _ (n k t : ℕ) (sofar u b : List ℕ) where
    -- less than a header
    short : length u < 4 → Both n k t sofar u b
    short h =
        rw (waits m habit n (within l k t) u b refl (within l k t) (L.turn_short m None (within l k t) u b refl h))
        (elim (ℕ_discrete (length u) 0) [
          | yes z ↦ rw (run_none m (between l k t) sofar u z) (record { agrees = same refl; number = λ _. (refl, refl); shuts = quiet })
          | no z ↦
              rw (run_keeps m (between l k t) sofar u (omega arith) refl refl h)
              (record { agrees = same refl; number = λ e. absurd (z e); shuts = quiet })
        ])

    module _ (long : 4 ≤ length u) where
      abbrev len : ℕ
      len = le_at u 0 3

      abbrev num : ℕ
      num = get_or u 3 0

      passes_headed : pass m (between l k t) u ≡ headed m (between l k t) len num 4 (length u - 4)
      passes_headed = pass-header m (between l k t) u refl (omega arith) refl ∙ header-whole m (between l k t) u u long

      turns-headed : W.turn_of m None (within l k t) u b ≡ W.headed m None (within l k t) len num u b
      turns-headed = L.turn_headed m None (within l k t) u b refl long

      -- both refuse
      both-refuse : (j : ℕ) (st : Stream) (st' : PlainPacketCodec) → pass m (between l k t) u ≡ refuse j st
          → W.turn_of m None (within l k t) u b ≡ W.stop (W.refused j) st' b → st'.closed ≡ true → Both n k t sofar u b
      both-refuse j st st' e e' z =
          rw (run_refused m (between l k t) sofar u (omega arith) j st e, refuses m habit n (within l k t) u b refl j st' e')
          (record { agrees = same refl; number = λ y. absurd (omega arith); shuts = λ _. z })

      large : (len ≡ 0 → ⊥) → l < t + len → Both n k t sofar u b
      large z h =
          both-refuse 2 _ _ (passes_headed ∙ headed_large m (between l k t) len num 4 (length u - 4) z h)
          (turns-headed ∙ L.headed_large m None (within l k t) len num u b z h) refl

      -- ---- a chunk within the limit

      data At : Type 0 where
        at_chunk : (st : PlainPacketCodec) → st.number ≡ k → W.turn_of m None (within l k t) u b ≡ W.chunk_at m None st len num u b → At

      module _ (fits : t + len ≤ l) where
        at : At
        at =
            elim (ℕ_discrete len 0) [
              | yes z ↦
                  at_chunk (within l k t) refl
                  (turns-headed ∙ L.headed_empty m None (within l k t) len num u b z ∙ ap (λ (j : ℕ). W.chunk_at m None (within l k t) j num u b) (sym z))
              | no z ↦ at_chunk (W.holding (within l k t) len num) refl (turns-headed ∙ L.headed_held m None (within l k t) len num u b z fits)
            ]

        -- a wrong number: 3, and the waiting reader says it when the chunk is whole
        wrong_by : (num ≡ k → ⊥) → At → Both n k t sofar u b
        wrong_by q (at_chunk st e f) =
            let p = passes_headed ∙ headed_wrong m (between l k t) len num 4 (length u - 4) (λ _. fits) q in
            elim (dec_le (len + 4) (length u)) [
              | yes w ↦ both-refuse 3 _ (W.closed st) p (f ∙ L.chunk_sync m None st len num u b w (rw e (ne_eqb num k q))) refl
              | no w ↦
                  rw (
                    run_refused m (between l k t) sofar u (omega arith) 3 _ p,
                    waits m habit n (within l k t) u b refl st (f ∙ L.chunk-short m None st len num u b (omega arith)),
                  )
                  (record { agrees = sooner [] refl refl long (omega arith); number = λ z. absurd (omega arith); shuts = quiet })
            ]

        wrong : (num ≡ k → ⊥) → Both n k t sofar u b
        wrong q = wrong_by q at

        module _ (q : num ≡ k) where
          abbrev p : List ℕ
          p = take len (drop 4 u)

          passes_pays : pass m (between l k t) u ≡ payload (begun m (between l k t) len num) 4 (length u - 4)
          passes_pays = passes_headed ∙ headed_right m (between l k t) len num 4 (length u - 4) (λ _. fits) q

          -- it is not yet whole
          cut_by : length u < len + 4 → At → Both n k t sofar u b
          cut_by w (at_chunk st e f) =
              rw (
                run_cut m (between l k t) sofar u (begun m (between l k t) len num) 4 (length u - 4) passes_pays (omega arith) (omega arith) (omega arith),
                waits m habit n (within l k t) u b refl st (f ∙ L.chunk-short m None st len num u b w),
              )
              (record { agrees = same refl; number = λ z. absurd (omega arith); shuts = quiet })

          cut : length u < len + 4 → Both n k t sofar u b
          cut w = cut_by w at

          -- ---- it is whole: x lies behind it

          module _ (w : len + 4 ≤ length u) (front : take t b ≡ sofar) (room : l ≤ length b) where
            abbrev x : List ℕ
            x = drop (len + 4) u

            length_p : length p ≡ len
            length_p = rw (length-take, length-drop) (omega arith)

            four : 4 + len ≡ len + 4
            four = omega arith

            front_then : take (t + len) (patch b t p) ≡ sofar ++ p
            front_then = front-patch b t p len length_p (omega arith) ∙ ap (λ (y : List ℕ). y ++ p) front

            room_then : l ≤ length (patch b t p)
            room_then = rw (length-patch b t p (omega (arith, length_p))) room

            turns-took : W.turn_of m None (within l k t) u b ≡ W.took m (within l k t) len num u b
            turns-took = L.turn_takes m None (within l k t) u b refl w (eq-eqb num k q) fits (omega arith)

            goes_on : len ≡ m → Both n (next num) (t + len) (sofar ++ p) x (patch b t p) → Both n k t sofar u b
            goes_on e ih =
                let st : PlainPacketCodec = within l (next num) (t + len) in
                let tw : W.turn_of m None (within l k t) u b ≡ L.took_more (within l k t) len num u b =
                turns-took ∙ L.took_more_lem m (within l k t) len num u b e in
                let s : run m (between l k t) sofar u ≡ run m (between l (next num) (t + len)) (sofar ++ p) x =
                run_ends m (between l k t) sofar u (begun m (between l k t) len num) 4 (length u - 4) passes_pays (omega arith) (omega arith)
                ∙ rw (eq-eqb len m e, four) in
                let c : calls (plain_end m).reader habit n (within l k t) u b ≡ calls (plain_end m).reader habit n st x (patch b t p) =
                H.calls_later (plain_end m).reader habit (steady m) n (len + 4) (within l k t) st u x b (patch b t p) refl
                (rw (
                  L.read_open m None (within l k t) u b refl,
                  L.opened_more m None (within l k t) u b (rw tw),
                  tw,
                  L.read_open m None st x (patch b t p) refl,
                )) in
                rw (s, c) ih

            hands_out : ((st : PlainPacketCodec) → habit.acts st ≡ st) → (len ≡ m → ⊥)
                → Both (suc n) (next num) 0 [] x (habit.lends n (patch b t p)) → Both n k t sofar u b
            hands_out acts e ih =
                let st : PlainPacketCodec = within l (next num) 0 in
                let tw : W.turn_of m None (within l k t) u b ≡ L.took_last (within l k t) len num u b =
                turns-took ∙ L.took_last_lem m (within l k t) len num u b e in
                let s : run m (between l k t) sofar u ≡ before (handed (sofar ++ p) ∷ []) (run m (between l (next num) 0) [] x) =
                run_ends m (between l k t) sofar u (begun m (between l k t) len num) 4 (length u - 4) passes_pays (omega arith) (omega arith)
                ∙ rw (ne_eqb len m e, four) in
                let d : (plain_end m).reader (within l k t) u b ≡ called_of (L.took_last (within l k t) len num u b).done =
                ap called_of
                (L.read_open m None (within l k t) u b refl ∙ L.opened-stop m None (within l k t) u b (rw tw) ∙ ap (λ (y : W.Turned). y.done) tw) in
                let c : calls (plain_end m).reader habit n (within l k t) u b
                ≡ first (handed (sofar ++ p)) (calls (plain_end m).reader habit (suc n) st x (habit.lends n (patch b t p))) =
                H.calls_packet (plain_end m).reader habit (steady m) n (within l k t) u b _ (t + len) d refl ∙ rw (acts, front_then) in
                rw (s, c) (tied_first (sofar ++ p) _ _ ih)

  -- ---- chunk after chunk

  module _ (acts : (st : PlainPacketCodec) → habit.acts st ≡ st) (lent : (n : ℕ) (d : List ℕ) → l ≤ length d → l ≤ length (habit.lends n d)) where
    abbrev Below : ℕ → Type 0
    Below j = (n k t : ℕ) (sofar u b : List ℕ) → length u < j → t ≤ l → take t b ≡ sofar → l ≤ length b → Both n k t sofar u b

    whole : (n k t : ℕ) (sofar u b : List ℕ) → take t b ≡ sofar → l ≤ length b → 4 ≤ length u → t + le_at u 0 3 ≤ l → get_or u 3 0 ≡ k
        → le_at u 0 3 + 4 ≤ length u → Below (length u) → Both n k t sofar u b
    whole n k t sofar u b front room long fits q w ih =
        let len : ℕ = le_at u 0 3 in
        let p : List ℕ = take len (drop 4 u) in
        let less : length (drop (len + 4) u) < length u = rw length-drop (omega arith) in
        let room' : l ≤ length (patch b t p) = room_then n k t sofar u b long fits q w front room in
        elim (ℕ_discrete len m) [
          | yes e ↦
              goes_on n k t sofar u b long fits q w front room e
              (ih n (next (get_or u 3 0)) (t + len) (sofar ++ p) (drop (len + 4) u) (patch b t p) less fits
              (front_then n k t sofar u b long fits q w front room) room')
          | no e ↦
              hands_out n k t sofar u b long fits q w front room acts e
              (ih (suc n) (next (get_or u 3 0)) 0 [] (drop (len + 4) u) (habit.lends n (patch b t p)) less (omega arith) refl (lent n (patch b t p) room'))
        ]

    step : (n k t : ℕ) (sofar u b : List ℕ) → t ≤ l → take t b ≡ sofar → l ≤ length b → Below (length u) → Both n k t sofar u b
    step n k t sofar u b ht front room ih =
        let len : ℕ = le_at u 0 3 in
        elim (dec_le 4 (length u)) [
          | no h ↦ short n k t sofar u b (omega arith)
          | yes long ↦
              elim (dec_le (t + len) l) [
                | no h ↦ large n k t sofar u b long (λ z. h (omega arith)) (omega arith)
                | yes fits ↦
                    elim (ℕ_discrete (get_or u 3 0) k) [
                      | no q ↦ wrong n k t sofar u b long fits q
                      | yes q ↦
                          elim (dec_le (len + 4) (length u)) [
                            | yes w ↦ whole n k t sofar u b front room long fits q w ih
                            | no w ↦ cut n k t sofar u b long fits q (omega arith)
                          ]
                    ]
              ]
        ]

    below : (j : ℕ) → Below j
    below zero n k t sofar u b h ht front room = absurd (omega arith)
    below (suc j) n k t sofar u b h ht front room =
        step n k t sofar u b ht front room (λ n' k' t' s x b' h' ht' front' room'. below j n' k' t' s x b' (omega arith) ht' front' room')

    -- from an idle state on
    pub both : (k : ℕ) (u b : List ℕ) → l ≤ length b → Both 0 k 0 [] u b
    both k u b room = below (suc (length u)) 0 k 0 [] u b (omega arith) (omega arith) refl room
