-- A reader whose states are those of another, seen through f, as long as they keep to a property: what a host sees of the two is the same.
use Prim.Native.Nat.{ℕ, zero, suc}
use mathlib.Core.Path.{◌≡◌, refl, ap}
use mathlib.Core.List.{List, [], ◌∷◌, ◌++◌}
use lib.ListN.{length, take, drop}
use Rattle.chunk.specs.Read.{Answered, need_more, packet, refused}
use Rattle.line.specs.Host.{handed, Called, Reader, Habit, Host, first, joined, after_call, calls_up_to, calls, serve}

module _ {S T : Type 0} (f : S → T) where
  abbrev pub seen_call : Called S → Called T
  seen_call c = record { answer = c.answer; used = c.used; next = f c.next; buf = c.buf }

  abbrev pub seen_host : Host S → Host T
  seen_host h = record { events = h.events; packets = h.packets; state = f h.state; unread = h.unread; buffer = h.buffer }

module _ {S T : Type 0} (f : S → T) (Keeps : S → Type 0) (R : Reader S) (r : Reader T)
    (same : (c : S) (u b : List ℕ) → Keeps c → r (f c) u b ≡ seen_call f (R c u b))
    (keeps : (c : S) (u b : List ℕ) → Keeps c → Keeps (R c u b).next)
    (habit : Habit S) (acts : (c : S) → habit.acts c ≡ c) where
  -- the habit seen through f: a host that does nothing to the state between its calls
  abbrev pub seen_habit : Habit T
  seen_habit = record { acts = λ x. x; lends = habit.lends }

  pub record Seen (x : Host S) (y : Host T) : Type 0 where
    pub is : y ≡ seen_host f x
    pub kept : Keeps x.state

  after_seen : (n : ℕ) (u : List ℕ) (c : Called S) (x : Host S) (y : Host T) (a : Answered) → Keeps c.next → Seen x y
      → Seen (after_call habit n u c x a) (after_call seen_habit n u (seen_call f c) y a)
  after_seen n u c x y need_more k s = record { is = refl; kept = k }
  after_seen n u c x y (refused j) k s = record { is = refl; kept = k }
  after_seen n u c x y (packet len) k s = record { is = ap (first (handed (take len c.buf))) s.is; kept = s.kept }

  calls_seen : (q n : ℕ) (c : S) (u b : List ℕ) → Keeps c → Seen (calls_up_to R habit q n c u b) (calls_up_to r seen_habit q n (f c) u b)
  unfolding calls_up_to
  calls_seen zero n c u b k = record { is = refl; kept = k }
  calls_seen (suc q) n c u b k =
      let C = R c u b in
      let i = calls_seen q (suc n) C.next (drop C.used u) (habit.lends n C.buf) (keeps c u b k) in
      rw (same c u b k, acts C.next) (after_seen n u C _ _ C.answer (keeps c u b k) i)

  pub serve_seen : (n : ℕ) (c : S) (u b : List ℕ) (cs : List (List ℕ)) → Keeps c → Seen (serve R habit n c u b cs) (serve r seen_habit n (f c) u b cs)
  unfolding serve calls
  serve_seen n c u b [] k = record { is = refl; kept = k }
  serve_seen n c u b (p ∷ cs) k =
      let h = calls_up_to R habit (suc (length (u ++ p))) n c (u ++ p) b in
      let s = calls_seen (suc (length (u ++ p))) n c (u ++ p) b k in
      let i = serve_seen h.packets h.state h.unread h.buffer cs s.kept in
      record { is = rw s.is (ap (joined h.events) i.is); kept = i.kept }
