-- Laws of the host, over any reader that can be read in parts (`Steady`): one equation for its calls, and what it sees does not
-- depend on how the bytes are cut.
use Prim.Native.Nat.{ℕ, zero, suc, ◌+◌, ◌≤◌, ◌<◌}
use Rattle.std.proofs.Math.Path.{◌≡◌, refl}
use Rattle.std.proofs.Common.{sym, ap, ◌∙◌, not-suc-le-zero, arith, drop-drop}
use Rattle.std.specs.Prelude.{Bool, true, take, drop, replicate}
use Rattle.std.proofs.Math.Bool.{false}
use mathlib.Core.List.{List, [], ◌∷◌, ◌++◌, flatten, append-nil, append_assoc}
use Rattle.std.proofs.Math.ListN.{length, length-drop}
use Rattle.std.proofs.lemmas.List.{drop-append-le}
use Rattle.chunk.specs.Read.{Answered, need_more, packet, refused}
use Rattle.line.specs.Host.{Event, handed, refusal, Called, Reader, Habit, Host, first, joined, after_call, calls_up_to, calls, serve}

-- n bytes more were used before it
abbrev pub later : {S : Type 0} → ℕ → Called S → Called S
later n c = record { answer = c.answer; used = n + c.used; next = c.next; buf = c.buf }

-- a packet takes bytes, and no call more than there are; a call that asks for more goes on where it stopped; any other answers the
-- same with more behind
pub record Steady (S : Type 0) (r : Reader S) : Type 0 where
  pub uses : (st : S) (u b : List ℕ) → (r st u b).used ≤ length u
  pub takes : (st : S) (u b : List ℕ) (n : ℕ) → (r st u b).answer ≡ packet n → 0 < (r st u b).used
  pub resumes : (st : S) (u v b : List ℕ) → (r st u b).answer ≡ need_more
      → r st (u ++ v) b ≡ later (r st u b).used (r (r st u b).next (drop (r st u b).used u ++ v) (r st u b).buf)
  pub stays : (st : S) (u v b : List ℕ) → ((r st u b).answer ≡ need_more → ⊥) → r st (u ++ v) b ≡ r st u b

-- a host that has seen nothing
abbrev pub still : {S : Type 0} → ℕ → S → (u b : List ℕ) → Host S
still n st u b = record { events = []; packets = n; state = st; unread = u; buffer = b }

-- what a host had, with more behind the unread bytes
abbrev pub longer : {S : Type 0} → List ℕ → Host S → Host S
longer v h = record { events = h.events; packets = h.packets; state = h.state; unread = h.unread ++ v; buffer = h.buffer }

-- what lies behind a call matters after a packet only
behind_same : {S : Type 0} (habit : Habit S) (n : ℕ) (u : List ℕ) (c : Called S) (x y : Host S) (a : Answered)
    → ((len : ℕ) → a ≡ packet len → x ≡ y) → after_call habit n u c x a ≡ after_call habit n u c y a
behind_same habit n u c x y need_more f = refl
behind_same habit n u c x y (refused k) f = refl
behind_same habit n u c x y (packet len) f = ap (first (handed (take len c.buf))) (f len refl)

abbrev pub refusing : List Event → Bool
refusing [] = false
refusing (handed p ∷ es) = refusing es
refusing (refusal c ∷ es) = true

quiet_rest : (es fs : List Event) → refusing (es ++ fs) ≡ false → refusing fs ≡ false
quiet_rest [] fs q = q
quiet_rest (handed p ∷ es) fs q = quiet_rest es fs q
quiet_rest (refusal c ∷ es) fs q = absurd (let z : ◌≡◌ {A = ℕ} 0 1 = cc in omega arith)

module _ {S : Type 0} (r : Reader S) (habit : Habit S) (law : Steady S r) where
  -- ---- one equation

  pub bound : (f g n : ℕ) (st : S) (u b : List ℕ) → length u < f → length u < g → calls_up_to r habit f n st u b ≡ calls_up_to r habit g n st u b
  unfolding calls_up_to
  bound zero g n st u b hf hg = absurd (not-suc-le-zero hf)
  bound (suc f) zero n st u b hf hg = absurd (not-suc-le-zero hg)
  bound (suc f) (suc g) n st u b hf hg =
      behind_same habit n u (r st u b) _ _ (r st u b).answer
      (λ len e.
      let t = law.takes st u b len e in
      let w = law.uses st u b in
      bound f g (suc n) (habit.acts (r st u b).next) (drop (r st u b).used u) (habit.lends n (r st u b).buf)
      (rw length-drop (omega arith)) (rw length-drop (omega arith)))

  -- the calls behind a packet
  abbrev rest : ℕ → Called S → List ℕ → Host S
  rest n c u = calls r habit (suc n) (habit.acts c.next) (drop c.used u) (habit.lends n c.buf)

  pub calls_are : (n : ℕ) (st : S) (u b : List ℕ) → calls r habit n st u b ≡ after_call habit n u (r st u b) (rest n (r st u b) u) (r st u b).answer
  unfolding calls calls_up_to
  calls_are n st u b =
      behind_same habit n u (r st u b) _ _ (r st u b).answer
      (λ len e.
      let t = law.takes st u b len e in
      let w = law.uses st u b in
      bound (length u) (suc (length (drop (r st u b).used u))) (suc n) (habit.acts (r st u b).next) (drop (r st u b).used u)
      (habit.lends n (r st u b).buf)
      (rw length-drop (omega arith)) (omega arith))

  pub calls_packet : (n : ℕ) (st : S) (u b : List ℕ) (c : Called S) (len : ℕ) → r st u b ≡ c → c.answer ≡ packet len
      → calls r habit n st u b ≡ first (handed (take len c.buf)) (rest n c u)
  calls_packet n st u b c len e a = calls_are n st u b ∙ rw (e, a)

  pub calls_refused : (n : ℕ) (st : S) (u b : List ℕ) (c : Called S) (k : ℕ) → r st u b ≡ c → c.answer ≡ refused k
      → calls r habit n st u b
      ≡ record { events = refusal k ∷ []; packets = n; state = c.next; unread = drop c.used u; buffer = c.buf }
  calls_refused n st u b c k e a = calls_are n st u b ∙ rw (e, a)

  pub calls_wait : (n : ℕ) (st : S) (u b : List ℕ) (c : Called S) → r st u b ≡ c → c.answer ≡ need_more
      → calls r habit n st u b ≡ still n c.next (drop c.used u) c.buf
  calls_wait n st u b c e a = calls_are n st u b ∙ rw (e, a)

  after-later : (n k : ℕ) (u w : List ℕ) (c : Called S) (a : Answered) → drop k u ≡ w
      → after_call habit n u (later k c) (rest n (later k c) u) a ≡ after_call habit n w c (rest n c w) a
  after-later n k u w c need_more e = rw (← e, drop-drop)
  after-later n k u w c (refused j) e = rw (← e, drop-drop)
  after-later n k u w c (packet j) e = rw (← e, drop-drop)

  -- a call that goes on as another from w on
  pub calls_later : (n k : ℕ) (st st' : S) (u w b b' : List ℕ) → drop k u ≡ w → r st u b ≡ later k (r st' w b')
      → calls r habit n st u b ≡ calls r habit n st' w b'
  calls_later n k st st' u w b b' e l =
      calls_are n st u b ∙ rw l (after-later n k u w (r st' w b') (r st' w b').answer e) ∙ sym (calls_are n st' w b')

  -- ---- the calls on some bytes, and then on more: they end waiting, and go on from there; or refused, and more bytes stay unread

  data Ending (n : ℕ) (st : S) (u b : List ℕ) (h : Host S) : Type 0 where
    waits : calls r habit h.packets h.state h.unread h.buffer ≡ still h.packets h.state h.unread h.buffer
        → ((v : List ℕ) → calls r habit n st (u ++ v) b ≡ joined h.events (calls r habit h.packets h.state (h.unread ++ v) h.buffer))
        → Ending n st u b h
    refuses : refusing h.events ≡ true → ((v : List ℕ) → calls r habit n st (u ++ v) b ≡ longer v h) → Ending n st u b h

  ending_first : (p : List ℕ) (n n' : ℕ) (st st' : S) (u u' b b' : List ℕ) (h : Host S)
      → ((v : List ℕ) → calls r habit n st (u ++ v) b ≡ first (handed p) (calls r habit n' st' (u' ++ v) b')) → Ending n' st' u' b' h
      → Ending n st u b (first (handed p) h)
  ending_first p n n' st st' u u' b b' h e (waits w t) = waits w (λ v. e v ∙ ap (first (handed p)) (t v))
  ending_first p n n' st st' u u' b b' h e (refuses w t) = refuses w (λ v. e v ∙ ap (first (handed p)) (t v))

  ending_by : (n : ℕ) (st : S) (u b : List ℕ) (a : Answered) → (r st u b).answer ≡ a
      → ((len : ℕ) → a ≡ packet len
      → Ending (suc n) (habit.acts (r st u b).next) (drop (r st u b).used u) (habit.lends n (r st u b).buf) (rest n (r st u b) u))
      → Ending n st u b (calls r habit n st u b)
  ending_by n st u b need_more e ih =
      let c = r st u b in
      let again : r st u b ≡ later c.used (r c.next (drop c.used u) c.buf) = simp append-nil at (law.resumes st u [] b e) in
      let w : calls r habit n st u b ≡ still n c.next (drop c.used u) c.buf = calls_wait n st u b c refl e in
      rw w
      (waits (sym (calls_later n c.used st c.next u (drop c.used u) b c.buf refl again) ∙ w)
      (λ v. calls_later n c.used st c.next (u ++ v) (drop c.used u ++ v) b c.buf (drop-append-le c.used u v (law.uses st u b))
      (law.resumes st u v b e)))
  ending_by n st u b (refused k) e ih =
      let c = r st u b in
      rw (calls_refused n st u b c k refl e)
      (refuses refl
      (λ v. calls_refused n st (u ++ v) b c k (law.stays st u v b (λ y. let z : ◌≡◌ {A = ℕ} 0 1 = cc in omega arith)) e
      ∙ rw (drop-append-le c.used u v (law.uses st u b))))
  ending_by n st u b (packet len) e ih =
      let c = r st u b in
      rw (calls_packet n st u b c len refl e)
      (ending_first (take len c.buf) n (suc n) st (habit.acts c.next) u (drop c.used u) b (habit.lends n c.buf) (rest n c u)
      (λ v. calls_packet n st (u ++ v) b c len (law.stays st u v b (λ y. let z : ◌≡◌ {A = ℕ} 0 1 = cc in omega arith)) e
      ∙ rw (drop-append-le c.used u v (law.uses st u b)))
      (ih len refl))

  ending : (f n : ℕ) (st : S) (u b : List ℕ) → length u < f → Ending n st u b (calls r habit n st u b)
  ending zero n st u b h = absurd (not-suc-le-zero h)
  ending (suc f) n st u b h =
      ending_by n st u b (r st u b).answer refl
      (λ len e.
      let t = law.takes st u b len e in
      let w = law.uses st u b in
      ending f (suc n) (habit.acts (r st u b).next) (drop (r st u b).used u) (habit.lends n (r st u b).buf) (rw length-drop (omega arith)))

  -- ---- the pieces

  -- a host at rest: no packet is left in what it has
  abbrev pub AtRest : ℕ → S → List ℕ → List ℕ → Type 0
  AtRest n st u b = calls r habit n st u b ≡ still n st u b

  abbrev Whole : ℕ → S → List ℕ → List ℕ → List (List ℕ) → Type 0
  Whole n st u b cs = AtRest n st u b → refusing (calls r habit n st (u ++ flatten cs) b).events ≡ false
      → serve r habit n st u b cs ≡ calls r habit n st (u ++ flatten cs) b

  waits_piece : (n : ℕ) (st : S) (u c b : List ℕ) (cs : List (List ℕ)) (h : Host S) → calls r habit n st (u ++ c) b ≡ h → Ending n st (u ++ c) b h
      → refusing (calls r habit n st (u ++ c ++ flatten cs) b).events ≡ false → Whole h.packets h.state h.unread h.buffer cs
      → serve r habit n st u b (c ∷ cs) ≡ calls r habit n st (u ++ c ++ flatten cs) b
  unfolding serve
  waits_piece n st u c b cs h e (waits w t) q ih =
      let q' = rw (t (flatten cs)) at q in
      rw (e, t (flatten cs))
      (ap (joined h.events) (ih w (quiet_rest h.events (calls r habit h.packets h.state (h.unread ++ flatten cs) h.buffer).events q')))
  waits_piece n st u c b cs h e (refuses w t) q ih =
      let q' : refusing h.events ≡ false = rw (t (flatten cs)) at q in
      absurd (let z : ◌≡◌ {A = ℕ} 0 1 = cc in omega arith)

  -- the bytes as a whole bring no refusal: cut in pieces they bring the same
  pub serve_waits : (n : ℕ) (st : S) (u b : List ℕ) (cs : List (List ℕ)) → AtRest n st u b → refusing (calls r habit n st (u ++ flatten cs) b).events ≡ false
      → serve r habit n st u b cs ≡ calls r habit n st (u ++ flatten cs) b
  unfolding serve flatten
  serve_waits n st u b [] w q = rw append-nil (sym w)
  serve_waits n st u b (c ∷ cs) w q =
      let h = calls r habit n st (u ++ c) b in
      rw (← append_assoc u c (flatten cs))
      (waits_piece n st u c b cs h refl (ending (suc (length (u ++ c))) n st (u ++ c) b (omega arith)) (rw (← append_assoc u c (flatten cs)) at q)
      (serve_waits h.packets h.state h.unread h.buffer cs))

  -- a reader that answers 7 to all, and stays so
  abbrev pub Shut : S → Type 0
  Shut st = (u b : List ℕ) → r st u b ≡ record { answer = refused 7; used = 0; next = st; buf = b }

  pub shut_serve : (n : ℕ) (st : S) (u b : List ℕ) (cs : List (List ℕ)) → Shut st → (serve r habit n st u b cs).events ≡ replicate (length cs) (refusal 7)
  unfolding serve
  shut_serve n st u b [] z = refl
  shut_serve n st u b (c ∷ cs) z =
      rw (calls_refused n st (u ++ c) b _ 7 (z (u ++ c) b) refl) (ap {B = List Event} (λ es. refusal 7 ∷ es) (shut_serve n st (u ++ c) b cs z))

  abbrev Sevens : ℕ → S → List ℕ → List ℕ → List (List ℕ) → Type 0
  Sevens n st u b cs = (j : ℕ) × ((serve r habit n st u b cs).events ≡ (calls r habit n st (u ++ flatten cs) b).events ++ replicate j (refusal 7))

  shut_piece : (n : ℕ) (st : S) (u c b : List ℕ) (cs : List (List ℕ)) (h : Host S) → calls r habit n st (u ++ c) b ≡ h → Ending n st (u ++ c) b h
      → Shut (calls r habit n st (u ++ c ++ flatten cs) b).state
      → (AtRest h.packets h.state h.unread h.buffer → Shut (calls r habit h.packets h.state (h.unread ++ flatten cs) h.buffer).state
      → Sevens h.packets h.state h.unread h.buffer cs)
      → (j : ℕ) × ((serve r habit n st u b (c ∷ cs)).events ≡ (calls r habit n st (u ++ c ++ flatten cs) b).events ++ replicate j (refusal 7))
  unfolding serve
  shut_piece n st u c b cs h e (waits w t) q ih =
      let i = ih w (rw (t (flatten cs)) at q) in (
        i.0,
        rw (e, t (flatten cs), i.1)
            (sym (append_assoc h.events (calls r habit h.packets h.state (h.unread ++ flatten cs) h.buffer).events
            (replicate i.0 (refusal 7)))),
      )
  shut_piece n st u c b cs h e (refuses w t) q ih = (
    length cs,
    rw (e, t (flatten cs)) (ap (λ (es : List Event). h.events ++ es)
        (shut_serve h.packets h.state h.unread h.buffer cs (rw (t (flatten cs)) at q))),
  )

  -- the bytes as a whole close the reader: cut in pieces they bring the same, and after it 7 alone
  pub serve_shut : (n : ℕ) (st : S) (u b : List ℕ) (cs : List (List ℕ)) → AtRest n st u b → Shut (calls r habit n st (u ++ flatten cs) b).state
      → (j : ℕ) × ((serve r habit n st u b cs).events ≡ (calls r habit n st (u ++ flatten cs) b).events ++ replicate j (refusal 7))
  unfolding serve flatten
  serve_shut n st u b [] w q = (0, rw (append-nil u, w))
  serve_shut n st u b (c ∷ cs) w q =
      let h = calls r habit n st (u ++ c) b in
      rw (← append_assoc u c (flatten cs))
      (shut_piece n st u c b cs h refl (ending (suc (length (u ++ c))) n st (u ++ c) b (omega arith)) (rw (← append_assoc u c (flatten cs)) at q)
      (serve_shut h.packets h.state h.unread h.buffer cs))
