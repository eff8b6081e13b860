-- Reading in parts: a call that asks for more, and then a call on what it left and what came after, answers what one call on all the
-- bytes would have. Between them the host lends any staging that has the unread bytes at its front. A call that does not ask for more
-- answers the same with more behind.
use Rattle.std.specs.Prelude.{◌≡◌, ℕ, zero, suc, ◌+◌, ◌<◌, ◌≤◌, Bool, true, false, List, [], ◌++◌, length, take, drop, ◌==◌, ◌≢◌, nat_lt, slice_index, refl, Option, Some}
use Rattle.std.proofs.Common.{sym, ◌∙◌, append-nil, add_assoc, zero-add, not-suc-le-zero, arith, drop-drop}
use Rattle.std.proofs.Math.Path.{ap}
use Rattle.std.proofs.Math.Nat.{sub-zero}
use Rattle.std.proofs.Math.Decide.{dec_le}
use Rattle.std.proofs.Math.ListN.{length-append, length-drop, get_or-append}
use Rattle.std.proofs.Math.Seq.{take-append-le, drop-append-le}
use borrow.Author.Tests.{le-ltb}
use Rattle.wire.specs.Le.{le_of, le_at}
use Rattle.chunk.specs.Read as P
use Rattle.chunk.specs.Read.{Answered, need_more, packet, refused, read}
use Rattle.chunk.specs.ReadLaws.{by_test, read-closed}
use Rattle.chunk.specs.ResumeLaws.{resume}
use Rattle.chunk.specs.declared.PlainPacketCodec.{PlainPacketCodec}
use Rattle.frame.specs.Codec.{plain_of, closed, holding_frame, FrameHeld, none, held, frame_held_of, unread_of, last_number}
use Rattle.frame.specs.Read.{Done, Lap, stop, took, body_at, headed, frame_at, drained, asks, lap_at, later, laps, running, untouched, read_framed}
use Rattle.frame.specs.ReadLaws.{body-short, headed_large, headed_full, headed_empty, headed_bad, headed_held, headed_packed, frame-short}
use Rattle.frame.specs.ReadLaws.{frame-headed, frame_held, lap_frame, lap_stop, lap_uses, running-stop, running_more, framed-closed}
use Rattle.frame.specs.ReadLaws.{framed_no_room, framed_open}
use Rattle.frame.specs.declared.PacketCodec.{PacketCodec}

zero_one : ◌≡◌ {A = ℕ} 0 1 → ⊥
zero_one h = omega arith

-- ---- a frame, with more bytes behind

-- a step that does not stop for want of bytes does not say that it wants some
abbrev Says : Lap → Type 0
Says t = t.more ≡ false → t.done.answer ≢ need_more

refused_says : (k : ℕ) (c : PacketCodec) (w b : List ℕ) → Says (stop (refused k) c w b)
refused_says k c w b e a = zero_one (cc a)

took_says : (c : PacketCodec) (len : ℕ) (u w b : List ℕ) → Says (took c len u w b)
unfolding took
took_says c len u w b e a = zero_one (cc e)

-- either it is the same with more behind, or it waits, and the codec that it leaves reads on as the one before
pub data Grows (c : PacketCodec) (u v w : List ℕ) (room : ℕ) (b : List ℕ) (t : Lap) : Type 0 where
  on : frame_at c (u ++ v) w room b ≡ t → Says t → Grows c u v w room b t
  waits : (c' : PacketCodec) → t ≡ stop need_more c' w b → plain_of c' ≡ plain_of c → c'.frame ≡ c.frame → c'.unread ≡ c.unread
      → frame_at c (u ++ v) w room b ≡ frame_at c' (u ++ v) w room b → Grows c u v w room b t

module _ (u v w : List ℕ) (room : ℕ) (b : List ℕ) where
  body_on : (c : PacketCodec) (len num : ℕ) → len + 7 ≤ length u → body_at c len num (u ++ v) w room b ≡ body_at c len num u w room b
  unfolding body_at took
  body_on c len num h =
      let h' : len + 7 ≤ length (u ++ v) = rw length-append (omega arith) in
      let d : drop 7 (u ++ v) ≡ drop 7 u ++ v = drop-append-le 7 u v (omega arith) in
      let l : len ≤ length (drop 7 u) = rw length-drop (omega arith) in
      rw (le-ltb _ _ h, le-ltb _ _ h', d, take-append-le len (drop 7 u) v l)

  body_says : (c : PacketCodec) (len num : ℕ) → len + 7 ≤ length u → Says (body_at c len num u w room b)
  unfolding body_at
  body_says c len num h =
      rw (le-ltb _ _ h)
      (by_test Says (num == c.frame) _ (stop (refused 3) (closed c) w b)
      (λ _. by_test Says (nat_lt room (c.unread + len)) (stop (refused 6) c w b) (took c len u w b) (λ _. refused_says 6 c w b) (λ _. took_says c len u w b))
      (λ _. refused_says 3 (closed c) w b))

  body_grows : (c c' : PacketCodec) (len num : ℕ) → plain_of c' ≡ plain_of c → c'.frame ≡ c.frame → c'.unread ≡ c.unread
      → frame_at c (u ++ v) w room b ≡ body_at c' len num (u ++ v) w room b → frame_at c' (u ++ v) w room b ≡ body_at c' len num (u ++ v) w room b
      → Grows c u v w room b (body_at c' len num u w room b)
  body_grows c c' len num p f n e e' =
      elim (dec_le (len + 7) (length u)) [
        | yes h ↦ on (e ∙ body_on c' len num h) (body_says c' len num h)
        | no h ↦ waits c' (body-short c' len num u w room b (omega arith)) p f n (e ∙ sym e')
      ]

  module _ (c : PacketCodec) (e : frame_held_of c ≡ none) (h : 7 ≤ length u) where
    abbrev len : ℕ
    len = le_at u 0 3

    abbrev num : ℕ
    num = slice_index u 3

    abbrev plain : ℕ
    plain = le_at u 4 3

    -- a header that is there is the same with more behind it
    same : frame_at c (u ++ v) w room b ≡ headed c len num plain (u ++ v) w room b
    same =
        let d : drop 4 (u ++ v) ≡ drop 4 u ++ v = drop-append-le 4 u v (omega arith) in
        let l : 3 ≤ length (drop 4 u) = rw length-drop (omega arith) in
        frame-headed c (u ++ v) w room b e (rw length-append (omega arith))
        ∙ ap (λ (x : List ℕ). headed c (le_of x) (slice_index (u ++ v) 3) (le_at (u ++ v) 4 3) (u ++ v) w room b) (take-append-le 3 u v (omega arith))
        ∙ ap (λ (k : ℕ). headed c len k (le_at (u ++ v) 4 3) (u ++ v) w room b) (get_or-append u v 0 3 (omega arith))
        ∙ ap (λ (x : List ℕ). headed c len num (le_of x) (u ++ v) w room b) (ap (take 3) d ∙ take-append-le 3 (drop 4 u) v l)

    refuses : (k : ℕ) → headed c len num plain u w room b ≡ stop (refused k) (closed c) w b → headed c len num plain (u ++ v) w room b ≡ stop
        (refused k) (closed c) w b
        → Grows c u v w room b (headed c len num plain u w room b)
    refuses k x y = rw x (on (same ∙ y) (refused_says k (closed c) w b))

    fresh : Grows c u v w room b (headed c len num plain u w room b)
    fresh =
        elim (dec_le len c.limit) [
          | no l ↦ refuses 2 (headed_large c len num plain u w room b (omega arith)) (headed_large c len num plain (u ++ v) w room b (omega arith))
          | yes l ↦ elim (dec_le plain c.limit) [
            | no g ↦ refuses 2 (headed_full c len num plain u w room b l (omega arith)) (headed_full c len num plain (u ++ v) w room b l (omega arith))
            | yes g ↦ elim (dec_le len 0) [
              | yes z ↦
                  let n : len ≡ 0 = omega arith in
                  elim (dec_le plain 0) [
                    | yes y ↦
                        let k : plain ≡ 0 = omega arith in
                        let o : frame_at c (u ++ v) w room b ≡ body_at c 0 num (u ++ v) w room b = same ∙ headed_empty c len num plain
                        (u ++ v) w room b l g n k in
                        rw (headed_empty c len num plain u w room b l g n k) (body_grows c c 0 num refl refl refl o o)
                    | no y ↦
                        let k : plain ≡ 0 → ⊥ = λ x. y (omega arith) in
                        refuses 4 (headed_bad c len num plain u w room b l g n k) (headed_bad c len num plain (u ++ v) w room b l g n k)
                  ]
              | no z ↦
                  let n : len ≡ 0 → ⊥ = λ x. z (omega arith) in
                  elim (dec_le plain 0) [
                    | yes y ↦
                        let k : plain ≡ 0 = omega arith in
                        rw (headed_held c len num plain u w room b l g n k)
                        (body_grows c (holding_frame c len num) len num refl refl refl (same ∙ headed_held c len num plain (u ++ v) w room b l g n k)
                        (frame_held (holding_frame c len num) (u ++ v) w room b len num refl))
                    | no y ↦
                        let k : plain ≡ 0 → ⊥ = λ x. y (omega arith) in
                        refuses 5 (headed_packed c len num plain u w room b l g n k) (headed_packed c len num plain (u ++ v) w room b l g n k)
                  ]
            ]
          ]
        ]

  grows_by : (c : PacketCodec) (h : FrameHeld) → frame_held_of c ≡ h → Grows c u v w room b (frame_at c u w room b)
  grows_by c none e =
      elim (dec_le 7 (length u)) [
        | yes h ↦ rw (frame-headed c u w room b e h) (fresh c e h)
        | no h ↦ waits c (frame-short c u w room b e (omega arith)) refl refl refl refl
      ]
  grows_by c (held len num) e =
      let o = frame_held c (u ++ v) w room b len num e in
      rw (frame_held c u w room b len num e) (body_grows c c len num refl refl refl o o)

  pub grows : (c : PacketCodec) → Grows c u v w room b (frame_at c u w room b)
  grows c = grows_by c (frame_held_of c) refl

-- ---- the plain reader: where it asked for more, it asks for more again and changes nothing

done_same : {a a' : Answered} {n n' : ℕ} {st st' : PlainPacketCodec} {b b' : List ℕ} → a ≡ a' → n ≡ n' → st ≡ st' → b ≡ b'
    → ◌≡◌ {A = P.Done} (record { answer = a; used = n; next = st; buf = b }) (record { answer = a'; used = n'; next = st'; buf = b' })
done_same e f g h = rw (e, f, g, h)

again : (m : ℕ) (x : Option ℕ) (st : PlainPacketCodec) (w b : List ℕ) → (read m x st w b).answer ≡ need_more
    → read m x (read m x st w b).next (drop (read m x st w b).used w) (read m x st w b).buf
    ≡ record { answer = need_more; used = 0; next = (read m x st w b).next; buf = (read m x st w b).buf }
again m x st w b a =
    let R = read m x st w b in
    let S = read m x R.next (drop R.used w) R.buf in
    let e : R ≡ P.later R.used S = rw (append-nil w, append-nil (drop R.used w)) at (resume m x st w [] b a) in
    let n : R.used ≡ R.used + S.used = ap (λ (d : P.Done). d.used) e in
    done_same (sym (ap (λ (d : P.Done). d.answer) e) ∙ a) (omega (arith, n)) (sym (ap (λ (d : P.Done). d.next) e)) (sym (ap (λ (d : P.Done). d.buf) e))

module _ (m : ℕ) (c : PacketCodec) (w b : List ℕ) (a : (drained m c w b).answer ≡ need_more) where
  drained_again : (c' : PacketCodec) → plain_of c' ≡ plain_of (drained m c w b).next → c'.frame ≡ (drained m c w b).next.frame
      → drained m c' (drained m c w b).unread (drained m c w b).buf
      ≡ record { answer = need_more; used = 0; next = c'; unread = (drained m c w b).unread; buf = (drained m c w b).buf }
  unfolding drained
  drained_again c' p f =
      let x = Some (last_number c.frame) in
      let R = read m x (plain_of c) w b in
      let e : read m (Some (last_number c'.frame)) (plain_of c') (drop R.used w) R.buf
      ≡ record { answer = need_more; used = 0; next = plain_of c'; buf = R.buf } =
      ap (λ (k : ℕ). read m (Some (last_number k)) (plain_of c') (drop R.used w) R.buf) f
      ∙ ap (λ (s : PlainPacketCodec). read m x s (drop R.used w) R.buf) p
      ∙ again m x (plain_of c) w b a
      ∙ ap (λ (s : PlainPacketCodec). record { answer = need_more; used = 0; next = s; buf = R.buf }) (sym p) in
      rw (e, sub-zero c'.unread)

live_by : (m : ℕ) (c : PacketCodec) (w b : List ℕ) (k : Bool) → c.closed ≡ k → (drained m c w b).answer ≡ need_more → c.closed ≡ false
unfolding drained
live_by m c w b true e a = let y : refused 7 ≡ need_more = rw (read-closed m (Some (last_number c.frame)) (plain_of c) w b e) at a in absurd (zero_one (cc y))
live_by m c w b false e a = e

-- ---- the rounds

-- a call is its first round's
running_as : (m : ℕ) (c c' : PacketCodec) (u w w' : List ℕ) (room : ℕ) (b b' : List ℕ) → lap_at m c u w room b ≡ lap_at m c' u w' room b'
    → running m c u w room b ≡ running m c' u w' room b'
unfolding running laps
running_as m c c' u w w' room b b' e = rw e

asks_more : (a : Answered) → asks a ≡ true → a ≡ need_more
asks_more need_more e = refl
asks_more (packet n) e = absurd (zero_one (cc e))
asks_more (refused n) e = absurd (zero_one (cc e))

-- what a call on u and then v gives, from what a call on u left; and that a call can be made there
pub record Resumes (m : ℕ) (c : PacketCodec) (u v w : List ℕ) (room : ℕ) (b : List ℕ) (d : Done) : Type 0 where
  pub is : running m c (u ++ v) w room b ≡ later d.used (running m d.next (drop d.used u ++ v) d.unread room d.buf)
  pub live : d.next.closed ≡ false
  pub within : d.next.unread ≤ room

module _ (m : ℕ) (v : List ℕ) (room : ℕ) where
  module _ (c : PacketCodec) (u w b : List ℕ) (g : c.unread ≤ room) (a : asks (drained m c w b).answer ≡ true) where
    abbrev d : Done
    d = drained m c w b

    abbrev t : Lap
    t = frame_at d.next u d.unread room d.buf

    lap_is : lap_at m c u w room b ≡ t
    lap_is = lap_frame m c u w room b a

    waiting : (c' : PacketCodec) → t ≡ stop need_more c' d.unread d.buf → plain_of c' ≡ plain_of d.next → c'.frame ≡ d.next.frame
        → c'.unread ≡ d.next.unread
        → frame_at d.next (u ++ v) d.unread room d.buf ≡ frame_at c' (u ++ v) d.unread room d.buf
        → Resumes m c u v w room b (running m c u w room b)
    waiting c' e p f n x =
        let s = drained_again m c w b (asks_more d.answer a) c' p f in
        let y : lap_at m c' (u ++ v) d.unread room d.buf ≡ frame_at c' (u ++ v) d.unread room d.buf =
        lap_frame m c' (u ++ v) d.unread room d.buf (rw s) ∙ rw s in
        let l : lap_at m c (u ++ v) w room b ≡ lap_at m c' (u ++ v) d.unread room d.buf = lap_frame m c (u ++ v) w room b a ∙ x ∙ sym y in
        let q : lap_at m c u w room b ≡ stop need_more c' d.unread d.buf = lap_is ∙ e in
        let o : running m c u w room b ≡ record { answer = need_more; used = 0; next = c'; unread = d.unread; buf = d.buf } =
        running-stop m c u w room b (rw q) ∙ rw q in
        let i : c'.unread ≤ room = (let k = (lap_uses m c u w room b g).within in rw q at k) in
        rw o
        (record {
          is = simp zero-add (running_as m c c' (u ++ v) w d.unread room b d.buf l);
          live = live_by m c' d.unread d.buf c'.closed refl (rw s);
          within = i;
        })

    going : frame_at d.next (u ++ v) d.unread room d.buf ≡ t → t.more ≡ true
        → Resumes m t.done.next (drop t.done.used u) v t.done.unread room t.done.buf
        (running m t.done.next (drop t.done.used u) t.done.unread room t.done.buf)
        → Resumes m c u v w room b (running m c u w room b)
    going x k r =
        let z = lap_uses m c u w room b g in
        let o : running m c u w room b ≡ later t.done.used (running m t.done.next (drop t.done.used u) t.done.unread room t.done.buf) =
        running_more m c u w room b g (rw lap_is k) ∙ rw lap_is in
        let l : lap_at m c (u ++ v) w room b ≡ t = lap_frame m c (u ++ v) w room b a ∙ x in
        let n : t.done.used ≤ length u = rw lap_is at z.most in
        let j : running m c (u ++ v) w room b ≡ later t.done.used
        (running m t.done.next (drop t.done.used (u ++ v)) t.done.unread room t.done.buf) =
        running_more m c (u ++ v) w room b g (rw l k) ∙ rw l in
        rw o
        (record {
          is = rw (j, drop-append-le t.done.used u v n, r.is) (simp (add_assoc, drop-drop));
          live = r.live;
          within = r.within;
        })

  by_grows : (c : PacketCodec) (u w b : List ℕ) → (g : c.unread ≤ room) (a : asks (drained m c w b).answer ≡ true)
      → ((t c u w b g a).more ≡ true → (running m (t c u w b g a).done.next (drop (t c u w b g a).done.used u) (t c u w b g a).done.unread room
      (t c u w b g a).done.buf).answer ≡ need_more
      → Resumes m (t c u w b g a).done.next (drop (t c u w b g a).done.used u) v (t c u w b g a).done.unread room (t c u w b g a).done.buf
      (running m (t c u w b g a).done.next (drop (t c u w b g a).done.used u) (t c u w b g a).done.unread room (t c u w b g a).done.buf))
      → (running m c u w room b).answer ≡ need_more → (k : Bool) → (t c u w b g a).more ≡ k
      → Grows (d c u w b g a).next u v (d c u w b g a).unread room (d c u w b g a).buf (t c u w b g a)
      → Resumes m c u v w room b (running m c u w room b)
  by_grows c u w b g a ih q k e (waits c' x p f n y) = waiting c u w b g a c' x p f n y
  by_grows c u w b g a ih q true e (on x s) =
      let l = lap_is c u w b g a in
      let T = t c u w b g a in
      let o : running m c u w room b ≡ later T.done.used (running m T.done.next (drop T.done.used u) T.done.unread room T.done.buf) =
      running_more m c u w room b g (rw l e) ∙ rw l in
      going c u w b g a x e (ih e (sym (ap (λ (y : Done). y.answer) o) ∙ q))
  by_grows c u w b g a ih q false e (on x s) =
      let l = lap_is c u w b g a in
      let o : running m c u w room b ≡ (t c u w b g a).done = running-stop m c u w room b (rw l e) ∙ rw l in
      absurd (s e (sym (ap (λ (y : Done). y.answer) o) ∙ q))

  stopped : (c : PacketCodec) (u w b : List ℕ) → asks (drained m c w b).answer ≡ false → (running m c u w room b).answer ≢ need_more
  stopped c u w b a q =
      let l = lap_stop m c u w room b a in
      let o : running m c u w room b ≡ drained m c w b = running-stop m c u w room b (rw l) ∙ rw l in
      let y : (drained m c w b).answer ≡ need_more = rw o at q in
      zero_one (let z : true ≡ false = rw y at a in cc z)

  go : (f : ℕ) (c : PacketCodec) (u w b : List ℕ) → length u < f → c.unread ≤ room → (running m c u w room b).answer ≡ need_more
      → Resumes m c u v w room b (running m c u w room b)
  go zero c u w b h g q = absurd (not-suc-le-zero h)
  go (suc f) c u w b h g q =
      elim (asks (drained m c w b).answer) as (λ k. asks (drained m c w b).answer ≡ k → Resumes m c u v w room b (running m c u w room b)) [
        | true ↦ λ a.
            let z = lap_uses m c u w room b g in
            let l = lap_is c u w b g a in
            by_grows c u w b g a
            (λ e. go f (t c u w b g a).done.next (drop (t c u w b g a).done.used u) (t c u w b g a).done.unread (t c u w b g a).done.buf
            (let n : 7 ≤ (t c u w b g a).done.used = rw l at (z.least (rw l e)) in let n' : (t c u w b g a).done.used ≤ length u = rw l at
            z.most in rw length-drop (omega arith))
            (rw l at z.within))
            q (t c u w b g a).more refl (grows u v (d c u w b g a).unread room (d c u w b g a).buf (d c u w b g a).next)
        | false ↦ λ a. absurd (stopped c u w b a q)
      ] refl

  pub running_resume : (c : PacketCodec) (u w b : List ℕ) → c.unread ≤ room → (running m c u w room b).answer ≡ need_more
      → Resumes m c u v w room b (running m c u w room b)
  running_resume c u w b g q = go (suc (length u)) c u w b (omega arith) g q

  -- ---- a call that does not ask for more: the same with more behind

  stops_at : (c : PacketCodec) (u w b : List ℕ) (t : Lap) → lap_at m c u w room b ≡ t → t.more ≡ false → running m c u w room b ≡ t.done
  stops_at c u w b t l e = running-stop m c u w room b (rw l e) ∙ ap (λ (x : Lap). x.done) l

  abbrev Fixed : PacketCodec → (u w b : List ℕ) → Type 0
  Fixed c u w b = ((running m c u w room b).answer ≢ need_more) → running m c (u ++ v) w room b ≡ running m c u w room b

  fixed_by : (c : PacketCodec) (u w b : List ℕ) (g : c.unread ≤ room) (a : asks (drained m c w b).answer ≡ true)
      → ((t c u w b g a).more ≡ true
      → Fixed (t c u w b g a).done.next (drop (t c u w b g a).done.used u) (t c u w b g a).done.unread (t c u w b g a).done.buf)
      → (k : Bool) → (t c u w b g a).more ≡ k
      → Grows (d c u w b g a).next u v (d c u w b g a).unread room (d c u w b g a).buf (t c u w b g a)
      → Fixed c u w b
  fixed_by c u w b g a ih k e (waits c' x p f n y) q =
      let l : lap_at m c u w room b ≡ stop need_more c' (d c u w b g a).unread (d c u w b g a).buf = lap_is c u w b g a ∙ x in
      let o : (running m c u w room b).answer ≡ need_more = rw (running-stop m c u w room b (rw l)) (rw l) in
      absurd (q o)
  fixed_by c u w b g a ih true e (on x s) q =
      let T = t c u w b g a in
      let l = lap_is c u w b g a in
      let l' : lap_at m c (u ++ v) w room b ≡ T = lap_frame m c (u ++ v) w room b a ∙ x in
      let n : T.done.used ≤ length u = rw l at (lap_uses m c u w room b g).most in
      let o : running m c u w room b ≡ later T.done.used (running m T.done.next (drop T.done.used u) T.done.unread room T.done.buf) =
      running_more m c u w room b g (rw l e) ∙ rw l in
      let o' : running m c (u ++ v) w room b
      ≡ later T.done.used (running m T.done.next (drop T.done.used (u ++ v)) T.done.unread room T.done.buf) =
      running_more m c (u ++ v) w room b g (rw l' e) ∙ rw l' in
      o' ∙ rw (drop-append-le T.done.used u v n) (ap (later T.done.used) (ih e (λ y. q (ap (λ (z : Done). z.answer) o ∙ y)))) ∙ sym o
  fixed_by c u w b g a ih false e (on x s) q =
      stops_at c (u ++ v) w b (t c u w b g a) (lap_frame m c (u ++ v) w room b a ∙ x) e
      ∙ sym (stops_at c u w b (t c u w b g a) (lap_is c u w b g a) e)

  fixed_go : (f : ℕ) (c : PacketCodec) (u w b : List ℕ) → length u < f → c.unread ≤ room → Fixed c u w b
  fixed_go zero c u w b h g q = absurd (not-suc-le-zero h)
  fixed_go (suc f) c u w b h g q =
      elim (asks (drained m c w b).answer) as
      (λ k. asks (drained m c w b).answer ≡ k → running m c (u ++ v) w room b ≡ running m c u w room b) [
        | true ↦ λ a.
            let z = lap_uses m c u w room b g in
            let l = lap_is c u w b g a in
            fixed_by c u w b g a
            (λ e. fixed_go f (t c u w b g a).done.next (drop (t c u w b g a).done.used u) (t c u w b g a).done.unread (t c u w b g a).done.buf
            (let n : 7 ≤ (t c u w b g a).done.used = rw l at (z.least (rw l e)) in
            let n' : (t c u w b g a).done.used ≤ length u = rw l at z.most in
            rw length-drop (omega arith))
            (rw l at z.within))
            (t c u w b g a).more refl (grows u v (d c u w b g a).unread room (d c u w b g a).buf (d c u w b g a).next) q
        | false ↦ λ a.
            stops_at c (u ++ v) w b (record { more = false; done = drained m c w b }) (lap_stop m c (u ++ v) w room b a) refl
            ∙ sym (stops_at c u w b (record { more = false; done = drained m c w b }) (lap_stop m c u w room b a) refl)
      ] refl

  pub running_stays : (c : PacketCodec) (u w b : List ℕ) → c.unread ≤ room → Fixed c u w b
  running_stays c u w b g q = fixed_go (suc (length u)) c u w b (omega arith) g q

-- ---- a call

module _ (m : ℕ) (c : PacketCodec) (u v s s' b : List ℕ) where
  abbrev first : Done
  first = read_framed m c u s b

  not_more : {A : Type 0} (k : ℕ) → first ≡ untouched k c s b → first.answer ≡ need_more → A
  not_more k e a = let y : refused k ≡ need_more = rw e at a in absurd (zero_one (cc y))

  resume_by : (k : Bool) → c.closed ≡ k → first.answer ≡ need_more → unread_of first.next s' ≡ first.unread → length s' ≡ length s
      → read_framed m c (u ++ v) s b ≡ later first.used (read_framed m first.next (drop first.used u ++ v) s' first.buf)
  resume_by true k a w l = not_more 7 (framed-closed m c u s b k) a
  resume_by false k a w l =
      elim (dec_le c.unread (length s)) [
        | no h ↦ not_more 6 (framed_no_room m c u s b k (omega arith)) a
        | yes h ↦
            let o : first ≡ running m c u (unread_of c s) (length s) b = framed_open m c u s b k h in
            let r = running_resume m v (length s) c u (unread_of c s) b h (rw o at a) in
            let D = running m c u (unread_of c s) (length s) b in
            let w' : unread_of D.next s' ≡ D.unread = rw o at w in
            let z : read_framed m D.next (drop D.used u ++ v) s' D.buf ≡ running m D.next (drop D.used u ++ v) D.unread (length s) D.buf =
            framed_open m D.next (drop D.used u ++ v) s' D.buf r.live (omega (arith, r.within, l)) ∙ rw (w', l) in
            rw o (framed_open m c (u ++ v) s b k h ∙ r.is ∙ ap (later D.used) (sym z))
      ]

  -- a call that asks for more, then a call on what it left and what came after: one call on all of it
  pub framed_resume : first.answer ≡ need_more → unread_of first.next s' ≡ first.unread → length s' ≡ length s
      → read_framed m c (u ++ v) s b ≡ later first.used (read_framed m first.next (drop first.used u ++ v) s' first.buf)
  framed_resume = resume_by c.closed refl

  stays_by : (k : Bool) → c.closed ≡ k → (first.answer ≢ need_more) → read_framed m c (u ++ v) s b ≡ first
  stays_by true k a = framed-closed m c (u ++ v) s b k ∙ sym (framed-closed m c u s b k)
  stays_by false k a =
      elim (dec_le c.unread (length s)) [
        | no h ↦ framed_no_room m c (u ++ v) s b k (omega arith) ∙ sym (framed_no_room m c u s b k (omega arith))
        | yes h ↦
            let o : first ≡ running m c u (unread_of c s) (length s) b = framed_open m c u s b k h in
            framed_open m c (u ++ v) s b k h ∙ running_stays m v (length s) c u (unread_of c s) b h (λ y. a (rw o y)) ∙ sym o
      ]

  -- a call that answers a packet or a refusal answers the same, state and buffers included, when more bytes follow
  pub framed_stays : (first.answer ≢ need_more) → read_framed m c (u ++ v) s b ≡ first
  framed_stays = stays_by c.closed refl
