-- Laws of reading: each case of a chunk, of a turn and of a call by itself, and how many bytes are used. No proof past these
-- looks at the number of turns.
use Rattle.chunk.specs.declared.Decoded.{Decoded}
use Rattle.chunk.specs.declared.Encoded.{Encoded}
use Rattle.chunk.specs.declared.Shut.{Shut}
use Rattle.refusal.specs.declared.Refusal.{Refusal}
use Rattle.std.specs.Prelude.{◌≡◌, ℕ, zero, suc, ◌+◌, ◌<◌, ◌≤◌, Bool, true, false, cond, List, [], length, get_or, take, drop, ◌==◌, ◌≢◌, nat_lt, refl, Result, Ok, Err, Option, Some, None}
use Rattle.std.proofs.Common.{sym, ap, ◌∙◌, arith, not-suc-le-zero, zero-add, length-drop}
use Rattle.std.proofs.Math.Decide.{dec_le}
use borrow.Author.Tests.{ltb-false, lt-ltb, le-ltb, eq-eqb, ne_eqb}
use Rattle.refusal.specs.Number.{number_same}
use Rattle.wire.specs.Le.{le_at}
use Rattle.wire.specs.Room.{patch}
use Rattle.chunk.specs.declared.PlainPacketCodec.{PlainPacketCodec}
use Rattle.chunk.specs.Chunks.{next}
use Rattle.chunk.specs.Read.{idle, closed, holding, past, Held, none, held, held_of, need_more, packet, refused, answer_said, Done, opened_said}
use Rattle.chunk.specs.Read.{Turned, stop, took, accepted, chunk_at, headed, turn_from, turn_of, later, turns, opened, read}

-- ---- one chunk

-- a chunk that the packet goes on behind; the last one
abbrev pub took_more : PlainPacketCodec → (len num : ℕ) (u b : List ℕ) → Turned
took_more st len num u b = record {
  more = true;
  done = record { answer = need_more; used = len + 4; next = past st num (st.taken + len); buf = patch b st.taken (take len (drop 4 u)) };
}

abbrev pub took_last : PlainPacketCodec → (len num : ℕ) (u b : List ℕ) → Turned
took_last st len num u b = record {
  more = false;
  done = record { answer = packet (st.taken + len); used = len + 4; next = past st num 0; buf = patch b st.taken (take len (drop 4 u)) };
}

module _ (m : ℕ) (st : PlainPacketCodec) (len num : ℕ) (u b : List ℕ) where
  pub took_more_lem : len ≡ m → took m st len num u b ≡ took_more st len num u b
  unfolding took
  took_more_lem e = rw (eq-eqb len m e)

  pub took_last_lem : (len ≢ m) → took m st len num u b ≡ took_last st len num u b
  unfolding took
  took_last_lem e = rw (ne_eqb len m e)

module _ (m : ℕ) (x : Option ℕ) (st : PlainPacketCodec) (len num : ℕ) (u b : List ℕ) where
  pub chunk-short : length u < len + 4 → chunk_at m x st len num u b ≡ stop need_more st b
  unfolding chunk_at
  chunk-short h = rw (lt-ltb _ _ h)

  module _ (h : len + 4 ≤ length u) where
    pub chunk_sync : accepted x st.number num ≡ false → chunk_at m x st len num u b ≡ stop (refused 3) (closed st) b
    unfolding chunk_at
    chunk_sync e = rw (le-ltb _ _ h, e)

    pub chunk_no_room : accepted x st.number num ≡ true → length b < st.taken + len → chunk_at m x st len num u b ≡ stop (refused 6) st b
    unfolding chunk_at
    chunk_no_room e r = rw (le-ltb _ _ h, e, lt-ltb _ _ r)

    pub chunk-took : accepted x st.number num ≡ true → st.taken + len ≤ length b → chunk_at m x st len num u b ≡ took m st len num u b
    unfolding chunk_at
    chunk-took e r = rw (le-ltb _ _ h, e, le-ltb _ _ r)

  pub headed_empty : len ≡ 0 → headed m x st len num u b ≡ chunk_at m x st 0 num u b
  unfolding headed
  headed_empty e = rw (eq-eqb _ _ e)

  module _ (e : len ≡ 0 → ⊥) where
    pub headed_large : st.limit < st.taken + len → headed m x st len num u b ≡ stop (refused 2) (closed st) b
    unfolding headed
    headed_large h = rw (ne_eqb _ _ e, lt-ltb _ _ h)

    pub headed_held : st.taken + len ≤ st.limit → headed m x st len num u b ≡ chunk_at m x (holding st len num) len num u b
    unfolding headed
    headed_held h = rw (ne_eqb _ _ e, le-ltb _ _ h)

module _ (m : ℕ) (x : Option ℕ) (st : PlainPacketCodec) (u b : List ℕ) where
  pub turn_short : held_of st ≡ none → length u < 4 → turn_of m x st u b ≡ stop need_more st b
  unfolding turn_of turn_from
  turn_short e h = rw (e, lt-ltb _ _ h)

  pub turn_headed : held_of st ≡ none → 4 ≤ length u → turn_of m x st u b ≡ headed m x st (le_at u 0 3) (get_or u 3 0) u b
  unfolding turn_of turn_from
  turn_headed e h = rw (e, le-ltb _ _ h)

  pub turn_held : (len num : ℕ) → held_of st ≡ held len num → turn_of m x st u b ≡ chunk_at m x st len num u b
  unfolding turn_of turn_from
  turn_held len num e = rw e

-- a chunk that is taken is taken so whether its header was remembered or not
held_took : (m : ℕ) (st : PlainPacketCodec) (l n len num : ℕ) (u b : List ℕ) → took m (holding st l n) len num u b ≡ took m st len num u b
unfolding took
held_took m st l n len num u b = refl

-- a state that remembers no header takes a whole chunk with an accepted number, where it fits
pub turn_takes : (m : ℕ) (x : Option ℕ) (st : PlainPacketCodec) (u b : List ℕ) → held_of st ≡ none → le_at u 0 3 + 4 ≤ length u
    → accepted x st.number (get_or u 3 0) ≡ true → st.taken + le_at u 0 3 ≤ st.limit → st.taken + le_at u 0 3 ≤ length b
    → turn_of m x st u b ≡ took m st (le_at u 0 3) (get_or u 3 0) u b
turn_takes m x st u b e h a lim room =
    let len = le_at u 0 3 in
    let num = get_or u 3 0 in
    turn_headed m x st u b e (omega arith)
    ∙ elim (dec_le len 0) [
      | yes z ↦
          let none : len ≡ 0 = omega arith in
          headed_empty m x st len num u b none
          ∙ chunk-took m x st 0 num u b (omega arith) a (omega arith)
          ∙ ap (λ (j : ℕ). took m st j num u b) (sym none)
      | no z ↦
          headed_held m x st len num u b (λ y. z (omega arith)) lim
          ∙ chunk-took m x (holding st len num) len num u b h a room
          ∙ held_took m st len num len num u b
    ]

-- ---- a turn uses no more bytes than there are, and four at least where it asks for another

pub by_test {ℓ} : {X : Type 0} (P : X → Type ℓ) (t : Bool) (x y : X) → (t ≡ true → P x) → (t ≡ false → P y) → P (cond t x y)
by_test P true x y f g = f refl
by_test P false x y f g = g refl

-- a property of turns, over every way that a turn can end. The header may be remembered by then; the rest of the state is as
-- it was
abbrev pub Kept : PlainPacketCodec → PlainPacketCodec → Type 0
Kept st st' = (st'.taken ≡ st.taken) × (st'.closed ≡ st.closed)

pub record Ends (P : Turned → Type 0) (m : ℕ) (st : PlainPacketCodec) (u b : List ℕ) : Type 0 where
  pub wants : (st' : PlainPacketCodec) → Kept st st' → P (stop need_more st' b)
  pub refuses : (k : ℕ) (st' : PlainPacketCodec) → st'.taken ≡ st.taken → P (stop (refused k) st' b)
  pub takes : (st' : PlainPacketCodec) → Kept st st' → (len num : ℕ) → len + 4 ≤ length u → st'.taken + len ≤ length b → P (took m st' len num u b)

module _ (P : Turned → Type 0) (m : ℕ) (x : Option ℕ) (st : PlainPacketCodec) (u b : List ℕ) (h : Ends P m st u b) where
  chunk-ends : (st' : PlainPacketCodec) → Kept st st' → (len num : ℕ) → P (chunk_at m x st' len num u b)
  unfolding chunk_at
  chunk-ends st' k len num =
      by_test P (nat_lt (length u) (len + 4)) (stop need_more st' b) _ (λ _. h.wants st' k)
      (λ g. by_test P (accepted x st'.number num) _ (stop (refused 3) (closed st') b)
      (λ _. by_test P (nat_lt (length b) (st'.taken + len)) (stop (refused 6) st' b) (took m st' len num u b) (λ _. h.refuses 6 st' k.0)
      (λ r. h.takes st' k len num (ltb-false _ _ g) (ltb-false _ _ r)))
      (λ _. h.refuses 3 (closed st') k.0))

  from_ends : (d : Held) → P (turn_from m x st d u b)
  unfolding turn_from headed
  from_ends none =
      by_test P (nat_lt (length u) 4) (stop need_more st b) _ (λ _. h.wants st (refl, refl))
      (λ _. by_test P (le_at u 0 3 == 0) _ _ (λ _. chunk-ends st (refl, refl) 0 (get_or u 3 0))
      (λ _. by_test P (nat_lt st.limit (st.taken + le_at u 0 3)) (stop (refused 2) (closed st) b) _ (λ _. h.refuses 2 (closed st) refl)
      (λ _. chunk-ends (holding st (le_at u 0 3) (get_or u 3 0)) (refl, refl) (le_at u 0 3) (get_or u 3 0))))
  from_ends (held len num) = chunk-ends st (refl, refl) len num

  pub turn_ends : P (turn_of m x st u b)
  unfolding turn_of
  turn_ends = from_ends (held_of st)

pub record Uses (u : List ℕ) (t : Turned) : Type 0 where
  pub most : t.done.used ≤ length u
  pub least : t.more ≡ true → 4 ≤ t.done.used

took_uses : (m : ℕ) (st : PlainPacketCodec) (len num : ℕ) (u b : List ℕ) → len + 4 ≤ length u → Uses u (took m st len num u b)
unfolding took
took_uses m st len num u b h =
    by_test (Uses u) (len == m) (took_more st len num u b) (took_last st len num u b)
    (λ _. record { most = h; least = λ _. omega arith })
    (λ _. record { most = h; least = λ _. omega arith })

pub turn_uses : (m : ℕ) (x : Option ℕ) (st : PlainPacketCodec) (u b : List ℕ) → Uses u (turn_of m x st u b)
turn_uses m x st u b =
    turn_ends (Uses u) m x st u b
    (record {
      wants = λ st' k. record { most = omega arith; least = λ e. let z : ◌≡◌ {A = ℕ} 0 1 = cc in omega arith };
      refuses = λ n st' k. record { most = omega arith; least = λ e. let z : ◌≡◌ {A = ℕ} 0 1 = cc in omega arith };
      takes = λ st' k len num h r. took_uses m st' len num u b h;
    })

-- ---- a call: its first turn, and the rest

-- any count above the length gives the same
same : (f g m : ℕ) (x : Option ℕ) (st : PlainPacketCodec) (u b : List ℕ) → length u < f → length u < g → turns f m x st u b ≡ turns g m x st u b
unfolding turns
same zero g m x st u b hf hg = absurd (not-suc-le-zero hf)
same (suc f) zero m x st u b hf hg = absurd (not-suc-le-zero hg)
same (suc f) (suc g) m x st u b hf hg =
    let t = turn_of m x st u b in
    let w = turn_uses m x st u b in
    elim t.more as
    (λ k. t.more ≡ k
    → cond k (later t.done.used (turns f m x t.done.next (drop t.done.used u) t.done.buf)) t.done
    ≡ cond k (later t.done.used (turns g m x t.done.next (drop t.done.used u) t.done.buf)) t.done) [
      | true ↦ λ e. ap (later t.done.used) (same f g m x t.done.next (drop t.done.used u) t.done.buf
          (rw length-drop (omega (arith, w.least e, w.most))) (rw length-drop (omega (arith, w.least e, w.most))))
      | false ↦ λ e. refl
    ] refl

pub opened-stop : (m : ℕ) (x : Option ℕ) (st : PlainPacketCodec) (u b : List ℕ) → (turn_of m x st u b).more ≡ false
    → opened m x st u b ≡ (turn_of m x st u b).done
unfolding opened turns
opened-stop m x st u b e = rw e

pub opened_more : (m : ℕ) (x : Option ℕ) (st : PlainPacketCodec) (u b : List ℕ) → (turn_of m x st u b).more ≡ true
    → opened m x st u b
    ≡ later (turn_of m x st u b).done.used
    (opened m x (turn_of m x st u b).done.next (drop (turn_of m x st u b).done.used u) (turn_of m x st u b).done.buf)
unfolding opened turns
opened_more m x st u b e =
    let t = turn_of m x st u b in
    let w = turn_uses m x st u b in
    rw e
    (ap (later t.done.used)
    (same (length u) (suc (length (drop t.done.used u))) m x t.done.next (drop t.done.used u) t.done.buf
    (rw length-drop (omega (arith, w.least e, w.most))) (omega arith)))

-- a call is its first turn's
pub opened_as : (m : ℕ) (x : Option ℕ) (st st' : PlainPacketCodec) (u b b' : List ℕ) → turn_of m x st u b ≡ turn_of m x st' u b'
    → opened m x st u b ≡ opened m x st' u b'
unfolding opened turns
opened_as m x st st' u b b' e = rw e

module _ (m : ℕ) (x : Option ℕ) (st : PlainPacketCodec) (u b : List ℕ) where
  pub read-closed : st.closed ≡ true → read m x st u b ≡ record { answer = refused 7; used = 0; next = st; buf = b }
  unfolding read
  read-closed e = rw e

  pub read_open : st.closed ≡ false → read m x st u b ≡ opened m x st u b
  unfolding read
  read_open e = rw e

-- the common call: an open state that has begun nothing, and a whole packet of one chunk at the front
pub read_whole : (m : ℕ) (x : Option ℕ) (limit k : ℕ) (u b : List ℕ) → le_at u 0 3 + 4 ≤ length u → accepted x k (get_or u 3 0) ≡ true → le_at u 0 3 ≤ limit
    → le_at u 0 3 ≤ length b → (le_at u 0 3 ≢ m) → read m x (idle limit k) u b
    ≡ record { answer = packet (le_at u 0 3); used = le_at u 0 3 + 4; next = idle limit (next (get_or u 3 0)); buf = patch b 0 (take (le_at u 0 3) (drop 4 u)) }
read_whole m x limit k u b h e lim room last =
    let st = idle limit k in
    let t : turn_of m x st u b ≡ took_last st (le_at u 0 3) (get_or u 3 0) u b =
    turn_takes m x st u b refl h e (omega arith) (omega arith) ∙ took_last_lem m st (le_at u 0 3) (get_or u 3 0) u b last in
    read_open m x st u b refl ∙ opened-stop m x st u b (rw t refl) ∙ ap (λ (r : Turned). r.done) t ∙ rw (zero-add (le_at u 0 3)) refl

-- ---- a call uses no more bytes than there are

turns_use : (f m : ℕ) (x : Option ℕ) (st : PlainPacketCodec) (u b : List ℕ) → (turns f m x st u b).used ≤ length u
unfolding turns
turns_use zero m x st u b = omega arith
turns_use (suc f) m x st u b =
    let t = turn_of m x st u b in
    let w = turn_uses m x st u b in
    let r = turns f m x t.done.next (drop t.done.used u) t.done.buf in
    let i : r.used ≤ length (drop t.done.used u) = turns_use f m x t.done.next (drop t.done.used u) t.done.buf in
    by_test (λ (d : Done). d.used ≤ length u) t.more (later t.done.used r) t.done
    (λ _. omega (arith, rw length-drop at i, w.most))
    (λ _. w.most)

pub read_uses : (m : ℕ) (x : Option ℕ) (st : PlainPacketCodec) (u b : List ℕ) → (read m x st u b).used ≤ length u
unfolding read opened
read_uses m x st u b =
    by_test (λ (d : Done). d.used ≤ length u) st.closed (record { answer = refused 7; used = 0; next = st; buf = b }) (turns (suc (length u)) m x st u b)
    (λ _. omega arith)
    (λ _. turns_use (suc (length u)) m x st u b)

-- ---- of no bytes a call wants more, and changes nothing

none_from : (m : ℕ) (x : Option ℕ) (st : PlainPacketCodec) (h : Held) (b : List ℕ) → held_of st ≡ h → turn_of m x st [] b ≡ stop need_more st b
none_from m x st none b e = turn_short m x st [] b e (omega arith)
none_from m x st (held len num) b e = turn_held m x st [] b len num e ∙ chunk-short m x st len num [] b (omega arith)

pub opened_none : (m : ℕ) (x : Option ℕ) (st : PlainPacketCodec) (b : List ℕ) → opened m x st [] b ≡ record { answer = need_more; used = 0; next = st; buf = b }
opened_none m x st b = let e = none_from m x st (held_of st) b refl in opened-stop m x st [] b (rw e) ∙ rw e

-- ---- what an answer says determines it

pub answer_same : (a a' : Result (Option ℕ) Refusal) → answer_said a ≡ answer_said a' → a ≡ a'
answer_same (Ok None) (Ok None) e = refl
answer_same (Ok None) (Ok (Some n)) e = cc e
answer_same (Ok None) (Err r) e = cc e
answer_same (Ok (Some n)) (Ok None) e = cc e
answer_same (Ok (Some n)) (Ok (Some n')) e = ap (λ (k : ℕ). Ok (Some k)) (cc e)
answer_same (Ok (Some n)) (Err r) e = cc e
answer_same (Err r) (Ok None) e = cc e
answer_same (Err r) (Ok (Some n)) e = cc e
answer_same (Err r) (Err r') e = ap Err (number_same r r' (cc e))

shut_same : {S : Type 0} {r r' : Refusal} {st st' : S} → r ≡ r' → st ≡ st'
    → ◌≡◌ {A = Shut S} (record { why = r; state = st }) (record { why = r'; state = st' })
shut_same e f = rw (e, f)

pub opened_same : {S : Type 0} (o o' : Result S (Shut S)) → opened_said o ≡ opened_said o' → o ≡ o'
opened_same (Ok st) (Ok st') e = ap Ok (cc e)
opened_same (Ok st) (Err x) e = cc e
opened_same (Err x) (Ok st) e = cc e
opened_same (Err x) (Err x') e = ap Err (shut_same (number_same x.why x'.why (cc e)) (cc e))

-- ---- what the code's answers are made of determines them

pub decoded_same : {P S : Type 0} {a a' : Result (Option P) Refusal} {n n' : ℕ} {st st' : S} → a ≡ a' → n ≡ n' → st ≡ st'
    → ◌≡◌ {A = Decoded P S} (record { answer = a; used = n; next = st }) (record { answer = a'; used = n'; next = st' })
decoded_same e f g = rw (e, f, g)

pub encoded_same : {S : Type 0} {p p' : Result ℕ Refusal} {st st' : S} → p ≡ p' → st ≡ st'
    → ◌≡◌ {A = Encoded S} (record { put = p; next = st }) (record { put = p'; next = st' })
encoded_same e f = rw (e, f)
