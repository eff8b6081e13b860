-- Reading in parts: a call that asks for more has taken every chunk that was there, and the call after it, on what was left and
-- what came then, answers what one call on all the bytes would have. A call that does not ask for more answers the same with
-- more behind.
use Rattle.std.specs.Prelude.{◌≡◌, ℕ, zero, suc, ◌+◌, ◌<◌, ◌≤◌, Bool, true, false, List, ◌++◌, length, drop, ◌==◌, ◌≢◌, nat_lt, slice_index, refl, Option}
use Rattle.std.proofs.Common.{sym, ap, ◌∙◌, add_assoc, zero-add, not-suc-le-zero, arith, length-append, length-drop, drop-drop, le-ltb}
use Rattle.std.proofs.Math.Decide.{dec_le}
use Rattle.std.proofs.Math.ListN.{get_or-append}
use Rattle.std.proofs.lemmas.List.{take-append-le, drop-append-le}
use Rattle.wire.specs.Le.{le_of, le_at}
use Rattle.chunk.specs.declared.PlainPacketCodec.{PlainPacketCodec}
use Rattle.chunk.specs.Read.{closed, holding, Held, none, held, held_of, Answered, need_more, packet, refused, Done, Turned, accepted, stop, took}
use Rattle.chunk.specs.Read.{chunk_at, headed, turn_of, opened, later, read}
use Rattle.chunk.specs.ReadLaws.{by_test, took_more, took_last, Kept, turn_ends, headed_empty, headed_large, headed_held, chunk-short, turn_short}
use Rattle.chunk.specs.ReadLaws.{turn_headed, turn_held, turn_uses, opened-stop, opened_more, opened_as, read-closed, read_open}

-- how many bytes the first of the unread chunks takes: by the header that is remembered, or by its own
abbrev pub wanted : Held → List ℕ → ℕ
wanted none u = le_at u 0 3 + 4
wanted (held len num) u = len + 4

-- ---- a chunk that is there

chunk_grows : (m : ℕ) (x : Option ℕ) (st : PlainPacketCodec) (len num : ℕ) (u v b : List ℕ) → len + 4 ≤ length u
    → chunk_at m x st len num (u ++ v) b ≡ chunk_at m x st len num u b
unfolding chunk_at took
chunk_grows m x st len num u v b h =
    let h' : len + 4 ≤ length (u ++ v) = rw length-append (omega arith) in
    let d : drop 4 (u ++ v) ≡ drop 4 u ++ v = drop-append-le 4 u v (omega arith) in
    let l : len ≤ length (drop 4 u) = rw length-drop (omega arith) in
    rw (le-ltb _ _ h, le-ltb _ _ h', d, take-append-le len (drop 4 u) v l)

-- a turn that does not stop for want of bytes does not say that it wants some
abbrev Says : Turned → Type 0
Says t = t.more ≡ false → t.done.answer ≢ need_more

refused_says : (n : ℕ) (st : PlainPacketCodec) (b : List ℕ) → Says (stop (refused n) st b)
refused_says n st b e a = let z : ◌≡◌ {A = ℕ} 0 1 = cc in omega arith

took_says : (m : ℕ) (st : PlainPacketCodec) (len num : ℕ) (u b : List ℕ) → Says (took m st len num u b)
unfolding took
took_says m st len num u b =
    by_test Says (len == m) (took_more st len num u b) (took_last st len num u b)
    (λ _ e a. let z : ◌≡◌ {A = ℕ} 0 1 = cc in omega arith)
    (λ _ e a. let z : ◌≡◌ {A = ℕ} 0 1 = cc in omega arith)

chunk_says : (m : ℕ) (x : Option ℕ) (st : PlainPacketCodec) (len num : ℕ) (u b : List ℕ) → len + 4 ≤ length u → Says (chunk_at m x st len num u b)
unfolding chunk_at
chunk_says m x st len num u b h =
    rw (le-ltb _ _ h)
    (by_test Says (accepted x st.number num) _ (stop (refused 3) (closed st) b)
    (λ _. by_test Says (nat_lt (length b) (st.taken + len)) (stop (refused 6) st b) (took m st len num u b) (λ _. refused_says 6 st b)
    (λ _. took_says m st len num u b))
    (λ _. refused_says 3 (closed st) b))

-- ---- a turn, with more behind

record Grown (m : ℕ) (x : Option ℕ) (st : PlainPacketCodec) (u v b : List ℕ) (t : Turned) : Type 0 where
  pub goes : t.more ≡ true → turn_of m x st (u ++ v) b ≡ t
  pub fixed : (t.done.answer ≢ need_more) → turn_of m x st (u ++ v) b ≡ t
  pub none : t.more ≡ false → t.done.answer ≡ need_more → t.done.used ≡ 0
  pub kept : t.more ≡ false → t.done.answer ≡ need_more → t.done.buf ≡ b
  pub next : t.more ≡ false → t.done.answer ≡ need_more → turn_of m x st (u ++ v) b ≡ turn_of m x t.done.next (u ++ v) b
  pub short : t.more ≡ false → t.done.answer ≡ need_more → (length u < wanted (held_of t.done.next) u) × (length u < wanted (held_of st) u)

module _ (m : ℕ) (x : Option ℕ) (u v b : List ℕ) where
  -- it wants bytes, and the state that it leaves reads on as the one before
  wants_grown : (st st' : PlainPacketCodec) → (length u < wanted (held_of st') u) × (length u < wanted (held_of st) u) → turn_of m x st (u ++ v) b
      ≡ turn_of m x st' (u ++ v) b
      → Grown m x st u v b (stop need_more st' b)
  wants_grown st st' w e = record {
    goes = λ k. absurd (let z : ◌≡◌ {A = ℕ} 0 1 = cc in omega arith);
    fixed = λ k. absurd (k refl);
    none = λ _ _. refl;
    kept = λ _ _. refl;
    next = λ _ _. e;
    short = λ _ _. w;
  }

  -- it wants none
  says_grown : (st : PlainPacketCodec) (t : Turned) → Says t → turn_of m x st (u ++ v) b ≡ t → Grown m x st u v b t
  says_grown st t s e = record {
    goes = λ _. e;
    fixed = λ _. e;
    none = λ f a. absurd (s f a);
    kept = λ f a. absurd (s f a);
    next = λ f a. absurd (s f a);
    short = λ f a. absurd (s f a);
  }

  chunk-grown : (st st' : PlainPacketCodec) (len num : ℕ) → (wanted (held_of st') u ≡ len + 4) × (wanted (held_of st) u ≡ len + 4)
      → turn_of m x st (u ++ v) b ≡ chunk_at m x st' len num (u ++ v) b → turn_of m x st' (u ++ v) b ≡ chunk_at m x st' len num (u ++ v) b
      → Grown m x st u v b (chunk_at m x st' len num u b)
  chunk-grown st st' len num w e e' =
      elim (dec_le (len + 4) (length u)) [
        | yes h ↦ says_grown st (chunk_at m x st' len num u b) (chunk_says m x st' len num u b h) (e ∙ chunk_grows m x st' len num u v b h)
        | no h ↦ rw (chunk-short m x st' len num u b (omega arith)) (wants_grown st st' (rw w.0 (omega arith), rw w.1 (omega arith)) (e ∙ sym e'))
      ]

  module _ (st : PlainPacketCodec) (e : held_of st ≡ Rattle.chunk.specs.Read.none) (h : 4 ≤ length u) where
    abbrev len : ℕ
    len = le_at u 0 3

    abbrev num : ℕ
    num = slice_index u 3

    -- a header that is there is the same with more behind it
    on : turn_of m x st (u ++ v) b ≡ headed m x st len num (u ++ v) b
    on =
        turn_headed m x st (u ++ v) b e (rw length-append (omega arith))
        ∙ ap (λ (l : List ℕ). headed m x st (le_of l) (slice_index (u ++ v) 3) (u ++ v) b) (take-append-le 3 u v (omega arith))
        ∙ ap (λ (k : ℕ). headed m x st len k (u ++ v) b) (get_or-append u v 0 3 (omega arith))

    headed-grown : Grown m x st u v b (headed m x st len num u b)
    headed-grown =
        elim (dec_le len 0) [
          | yes z ↦
              let n : len ≡ 0 = omega arith in
              let o : turn_of m x st (u ++ v) b ≡ chunk_at m x st 0 num (u ++ v) b = on ∙ headed_empty m x st len num (u ++ v) b n in
              rw (headed_empty m x st len num u b n) (let w : wanted (held_of st) u ≡ 0 + 4 = rw e
              (ap (λ (j : ℕ). j + 4) n) in chunk-grown st st 0 num (w, w) o o)
          | no z ↦
              let n : len ≡ 0 → ⊥ = λ y. z (omega arith) in
              elim (dec_le (st.taken + len) st.limit) [
                | yes l ↦
                    rw (headed_held m x st len num u b n l)
                    (chunk-grown st (holding st len num) len num (refl, rw e) (on ∙ headed_held m x st len num (u ++ v) b n l)
                    (turn_held m x (holding st len num) (u ++ v) b len num refl))
                | no l ↦
                    rw (headed_large m x st len num u b n (omega arith))
                    (says_grown st (stop (refused 2) (closed st) b) (refused_says 2 (closed st) b)
                    (on ∙ headed_large m x st len num (u ++ v) b n (omega arith)))
              ]
        ]

  grown_by : (st : PlainPacketCodec) (h : Held) → held_of st ≡ h → Grown m x st u v b (turn_of m x st u b)
  grown_by st none e =
      elim (dec_le 4 (length u)) [
        | yes h ↦ rw (turn_headed m x st u b e h) (headed-grown st e h)
        | no h ↦ rw (turn_short m x st u b e (omega arith)) (wants_grown st st (rw e (omega arith), rw e (omega arith)) refl)
      ]
  grown_by st (held len num) e =
      rw (turn_held m x st u b len num e)
      (chunk-grown st st len num (rw e, rw e) (turn_held m x st (u ++ v) b len num e) (turn_held m x st (u ++ v) b len num e))

  grown : (st : PlainPacketCodec) → Grown m x st u v b (turn_of m x st u b)
  grown st = grown_by st (held_of st) refl

-- a turn that asks for more leaves an open state open
abbrev Live : PlainPacketCodec → Turned → Type 0
Live st t = t.done.answer ≡ need_more → t.done.next.closed ≡ st.closed

took_live : (m : ℕ) (st st' : PlainPacketCodec) (len num : ℕ) (u b : List ℕ) → Kept st st' → Live st (took m st' len num u b)
unfolding took
took_live m st st' len num u b k =
    by_test (Live st) (len == m) (took_more st' len num u b) (took_last st' len num u b) (λ _ a. k.1) (λ _ a. k.1)

turn_live : (m : ℕ) (x : Option ℕ) (st : PlainPacketCodec) (u b : List ℕ) → Live st (turn_of m x st u b)
turn_live m x st u b =
    turn_ends (Live st) m x st u b
    (record {
      wants = λ st' k a. k.1;
      refuses = λ n st' k a. absurd (let z : ◌≡◌ {A = ℕ} 0 1 = cc in omega arith);
      takes = λ st' k len num h r. took_live m st st' len num u b k;
    })

-- a turn that asks for another says that it wants more: the packet goes on
abbrev Asks : Turned → Type 0
Asks t = t.more ≡ true → t.done.answer ≡ need_more

took-asks : (m : ℕ) (st : PlainPacketCodec) (len num : ℕ) (u b : List ℕ) → Asks (took m st len num u b)
unfolding took
took-asks m st len num u b =
    by_test Asks (len == m) (took_more st len num u b) (took_last st len num u b) (λ _ e. refl) (λ _ e. absurd (let z : ◌≡◌ {A = ℕ} 0 1 = cc in omega arith))

turn_asks : (m : ℕ) (x : Option ℕ) (st : PlainPacketCodec) (u b : List ℕ) → Asks (turn_of m x st u b)
turn_asks m x st u b =
    turn_ends Asks m x st u b
    (record {
      wants = λ st' k e. refl;
      refuses = λ n st' k e. absurd (let z : ◌≡◌ {A = ℕ} 0 1 = cc in omega arith);
      takes = λ st' k len num h r. took-asks m st' len num u b;
    })

-- ---- a call, by its turns: each that asks for another leaves fewer bytes

pub by_turns : (P : PlainPacketCodec → List ℕ → List ℕ → Type 0) (m : ℕ) (x : Option ℕ)
    → ((st : PlainPacketCodec) (u b : List ℕ) → (turn_of m x st u b).more ≡ false → P st u b)
    → ((st : PlainPacketCodec) (u b : List ℕ) → (turn_of m x st u b).more ≡ true
    → P (turn_of m x st u b).done.next (drop (turn_of m x st u b).done.used u) (turn_of m x st u b).done.buf → P st u b)
    → (st : PlainPacketCodec) (u b : List ℕ) → P st u b
by_turns P m x last more st u b = go (suc (length u)) st u b (omega arith)
  where
    go : (f : ℕ) (st : PlainPacketCodec) (u b : List ℕ) → length u < f → P st u b
    go zero st u b h = absurd (not-suc-le-zero h)
    go (suc f) st u b h =
        elim (turn_of m x st u b).more as (λ k. (turn_of m x st u b).more ≡ k → P st u b) [
          | true ↦ λ e.
              let w = turn_uses m x st u b in
              more st u b e (go f (turn_of m x st u b).done.next (drop (turn_of m x st u b).done.used u) (turn_of m x st u b).done.buf
              (rw length-drop (omega (arith, w.least e, w.most))))
          | false ↦ λ e. last st u b e
        ] refl

-- what a call on u and then v answers, from what a call on u left
abbrev pub then_on : ℕ → Option ℕ → List ℕ → List ℕ → Done → Done
then_on m x u v d = later d.used (opened m x d.next (drop d.used u ++ v) d.buf)

module _ (m : ℕ) (x : Option ℕ) (v : List ℕ) where
  abbrev Goes : PlainPacketCodec → List ℕ → List ℕ → Type 0
  Goes st u b = (opened m x st u b).answer ≡ need_more → opened m x st (u ++ v) b ≡ then_on m x u v (opened m x st u b)

  goes_last : (st : PlainPacketCodec) (u b : List ℕ) → (turn_of m x st u b).more ≡ false → Goes st u b
  goes_last st u b e a =
      let g = grown m x u v b st in
      let o = opened-stop m x st u b e in
      let a' : (turn_of m x st u b).done.answer ≡ need_more = rw o at a in
      rw (o, g.none e a', g.kept e a') (simp zero-add (opened_as m x st (turn_of m x st u b).done.next (u ++ v) b b (g.next e a')))

  goes_more : (st : PlainPacketCodec) (u b : List ℕ) → (turn_of m x st u b).more ≡ true
      → Goes (turn_of m x st u b).done.next (drop (turn_of m x st u b).done.used u) (turn_of m x st u b).done.buf → Goes st u b
  goes_more st u b e ih a =
      let g : turn_of m x st (u ++ v) b ≡ turn_of m x st u b = (grown m x u v b st).goes e in
      let o = opened_more m x st u b e in
      rw (opened_more m x st (u ++ v) b (rw g e), g, drop-append-le (turn_of m x st u b).done.used u v (turn_uses m x st u b).most, ih (rw o at a), o)
      (simp (add_assoc, drop-drop))

  pub opened_resume : (st : PlainPacketCodec) (u b : List ℕ) → (opened m x st u b).answer ≡ need_more
      → opened m x st (u ++ v) b ≡ then_on m x u v (opened m x st u b)
  opened_resume = by_turns Goes m x goes_last goes_more

  abbrev Stays : PlainPacketCodec → List ℕ → List ℕ → Type 0
  Stays st u b = ((opened m x st u b).answer ≢ need_more) → opened m x st (u ++ v) b ≡ opened m x st u b

  stays_last : (st : PlainPacketCodec) (u b : List ℕ) → (turn_of m x st u b).more ≡ false → Stays st u b
  stays_last st u b e a =
      let o = opened-stop m x st u b e in
      let g : turn_of m x st (u ++ v) b ≡ turn_of m x st u b = (grown m x u v b st).fixed (λ y. a (rw o y)) in
      rw (opened-stop m x st (u ++ v) b (rw g e), g, o)

  stays_more : (st : PlainPacketCodec) (u b : List ℕ) → (turn_of m x st u b).more ≡ true
      → Stays (turn_of m x st u b).done.next (drop (turn_of m x st u b).done.used u) (turn_of m x st u b).done.buf → Stays st u b
  stays_more st u b e ih a =
      let g : turn_of m x st (u ++ v) b ≡ turn_of m x st u b = (grown m x u v b st).goes e in
      let o = opened_more m x st u b e in
      rw (opened_more m x st (u ++ v) b (rw g e), g, drop-append-le (turn_of m x st u b).done.used u v (turn_uses m x st u b).most, ih (λ y. a (rw o y)), o)

  pub opened_stays : (st : PlainPacketCodec) (u b : List ℕ) → ((opened m x st u b).answer ≢ need_more) → opened m x st (u ++ v) b ≡ opened m x st u b
  opened_stays = by_turns Stays m x stays_last stays_more

-- ---- a call that asks for more leaves an open state open, and no whole chunk unread

module _ (m : ℕ) (x : Option ℕ) where
  abbrev Ready : PlainPacketCodec → List ℕ → List ℕ → Type 0
  Ready st u b = (opened m x st u b).answer ≡ need_more
      → ((opened m x st u b).next.closed ≡ st.closed)
      × (length (drop (opened m x st u b).used u) < wanted (held_of (opened m x st u b).next) (drop (opened m x st u b).used u))

  ready_last : (st : PlainPacketCodec) (u b : List ℕ) → (turn_of m x st u b).more ≡ false → Ready st u b
  ready_last st u b e a =
      let g = grown m x u u b st in
      let o = opened-stop m x st u b e in
      let a' : (turn_of m x st u b).done.answer ≡ need_more = rw o at a in
      rw (o, g.none e a') (turn_live m x st u b a', (g.short e a').0)

  ready_more : (st : PlainPacketCodec) (u b : List ℕ) → (turn_of m x st u b).more ≡ true
      → Ready (turn_of m x st u b).done.next (drop (turn_of m x st u b).done.used u) (turn_of m x st u b).done.buf → Ready st u b
  ready_more st u b e ih a =
      let o = opened_more m x st u b e in
      let r = ih (rw o at a) in
      rw o (r.0 ∙ turn_live m x st u b (turn_asks m x st u b e), rw drop-drop at r.1)

  pub opened_ready : (st : PlainPacketCodec) (u b : List ℕ) → Ready st u b
  opened_ready = by_turns Ready m x ready_last ready_more

-- ---- the same of whole calls, closed states included

module _ (m : ℕ) (x : Option ℕ) (st : PlainPacketCodec) (u v b : List ℕ) where
  -- a closed state does not ask for more
  shut : {A : Type 0} → st.closed ≡ true → (read m x st u b).answer ≡ need_more → A
  shut c a = let a' : refused 7 ≡ need_more = rw (read-closed m x st u b c) at a in absurd (let z : ◌≡◌ {A = ℕ} 0 1 = cc in omega arith)

  resume_by : (c : Bool) → st.closed ≡ c → (read m x st u b).answer ≡ need_more
      → read m x st (u ++ v) b
      ≡ later (read m x st u b).used (read m x (read m x st u b).next (drop (read m x st u b).used u ++ v) (read m x st u b).buf)
  resume_by true c a = shut c a
  resume_by false c a =
      let o = read_open m x st u b c in
      let a' : (opened m x st u b).answer ≡ need_more = rw o at a in
      let d = opened m x st u b in
      rw (read_open m x st (u ++ v) b c, o, read_open m x d.next (drop d.used u ++ v) d.buf ((opened_ready m x st u b a').0 ∙ c))
      (opened_resume m x v st u b a')

  -- a call that asks for more, then a call on what it left and what came after: one call on all of it
  pub resume : (read m x st u b).answer ≡ need_more
      → read m x st (u ++ v) b
      ≡ later (read m x st u b).used (read m x (read m x st u b).next (drop (read m x st u b).used u ++ v) (read m x st u b).buf)
  resume = resume_by st.closed refl

  stays_by : (c : Bool) → st.closed ≡ c → ((read m x st u b).answer ≢ need_more) → read m x st (u ++ v) b ≡ read m x st u b
  stays_by true c a = rw (read-closed m x st (u ++ v) b c, read-closed m x st u b c)
  stays_by false c a =
      let o = read_open m x st u b c in
      rw (read_open m x st (u ++ v) b c, o) (opened_stays m x v st u b (λ y. a (rw o y)))

  -- a call that does not: the same with more behind
  pub stays : ((read m x st u b).answer ≢ need_more) → read m x st (u ++ v) b ≡ read m x st u b
  stays = stays_by st.closed refl

-- ---- "A call lent a whole chunk never says need more before taking it or refusing"

module _ (m : ℕ) (x : Option ℕ) (st : PlainPacketCodec) (u b : List ℕ) where
  -- one turn on a whole chunk: it does not stop for want of bytes
  pub turn_never_waits : wanted (held_of st) u ≤ length u → (turn_of m x st u b).more ≡ false → (turn_of m x st u b).done.answer ≢ need_more
  turn_never_waits h e a = let w = ((grown m x u u b st).short e a).1 in omega (arith, w)

  never_by : (c : Bool) → st.closed ≡ c → (read m x st u b).answer ≡ need_more
      → length (drop (read m x st u b).used u) < wanted (held_of (read m x st u b).next) (drop (read m x st u b).used u)
  never_by true c a = shut m x st u u b c a
  never_by false c a = let o = read_open m x st u b c in rw o (opened_ready m x st u b (rw o at a)).1

  -- a call: where it asks for more, what it leaves unread holds no whole chunk
  pub never_waits : (read m x st u b).answer ≡ need_more
      → length (drop (read m x st u b).used u) < wanted (held_of (read m x st u b).next) (drop (read m x st u b).used u)
  never_waits = never_by st.closed refl
