-- Demand 3 with the straight-through reader (`straight_line`), by what the waiting one does on the same bytes, and so with all code that
-- meets the contract of `stream::pass` (`code_straight_line`).
use Rattle.chunk.specs.declared.Decoded.{Decoded}
use Rattle.stream.specs.declared.Piece.{Piece}
use Prim.Native.Nat.{ℕ, zero, suc, ◌+◌, ◌-◌, ◌%◌, ◌≤◌, ◌<◌}
use mathlib.Core.Path.{◌≡◌, refl, sym, ap, ◌∙◌, subst}
use mathlib.Core.Bool.{Bool, true, false, cond}
use mathlib.Core.List.{List, [], ◌∷◌, ◌++◌, append-nil, flatten, map}
use native.Mathlib.Nat.{add-zero}
use native.Mathlib.Omega.{arith}
use native.Mathlib.Decide.{dec_le}
use lib.ListN.{length, take, drop, replicate, length-drop, length-replicate}
use Rattle.chunk.specs.Chunks.{largest}
use Rattle.chunk.specs.declared.PlainPacketCodec.{PlainPacketCodec}
use Rattle.chunk.specs.Read as Waiting
use Rattle.chunk.specs.ReadLaws.{by_test}
use Rattle.stream.specs.Stream.{idle, kept, keeping, further, ended, refuse, payload, pass}
use Rattle.stream.specs.StreamLaws.{pass-closed}
use Rattle.stream.specs.declared.Stream.{Stream}
use Rattle.line.specs.Host.{Event, handed, refusal, Called, Reader, Habit, Host, after_call, calls_up_to, calls, serve}
use Rattle.line.specs.HostLaws.{refusing}
use Rattle.line.specs.Arrivals.{arrived, InPlace, Misplaced}
use Rattle.line.specs.Written.{written, writer, complete}
use Rattle.line.specs.Line.{Sent, Given, refusal_of}
use Rattle.line.specs.Code.{plain_end}
use Rattle.line.specs.Straight.{Watched, still, before, watch, Agrees, same, sooner, StraightLine, Passes, code_through}
use Rattle.line.proofs.Plain.{within}
use Rattle.line.proofs.Passes.{Goes, stops, pays, keeps, goes, bare, run, run_none, run_refused, run_keeps, ends, run_ends, run_cut}
use Rattle.line.proofs.Cuts.{shown, watch_joined}
use Rattle.line.proofs.Same.{Tied, both}
use Rattle.line.proofs.Straight.{straight, same_through}
use Rattle.line.proofs.Main.{Wholly, wholly, all_in_place, reach, writer_is, line}

-- ---- a host that says that it was refused has seen it, and its reader is closed

record Sound (w : Watched) : Type 0 where
  pub says : w.refusing ≡ refusing w.events
  pub shuts : w.refusing ≡ true → w.state.closed ≡ true

still_sound : (st : Stream) (sofar : List ℕ) → Sound (still st sofar)
still_sound st sofar = record { says = refl; shuts = λ e. absurd (let z : ◌≡◌ {A = ℕ} 0 1 = cc in omega arith) }

refusing-after : (es fs : List Event) → refusing es ≡ false → refusing (es ++ fs) ≡ refusing fs
refusing-after [] fs q = refl
refusing-after (handed p ∷ es) fs q = refusing-after es fs q
refusing-after (refusal c ∷ es) fs q = absurd (let z : ◌≡◌ {A = ℕ} 0 1 = cc in omega arith)

module _ (m : ℕ) where
  ends_sound : (full : Bool) (p : List ℕ) (behind : List ℕ → Watched) → ((s : List ℕ) → Sound (behind s)) → Sound (ends m full p behind)
  ends_sound true p behind f = f p
  ends_sound false p behind f = record { says = (f []).says; shuts = (f []).shuts }

  goes_sound : (st : Stream) (sofar u : List ℕ) → 0 < length u → Goes m st u
      → ((st' : Stream) (s x : List ℕ) → length x < length u → Sound (run m st' s x)) → Sound (run m st sofar u)
  goes_sound st sofar u some (stops k st' c f) ih =
      rw (run_refused m st sofar u some k st' (bare m st u (λ x. refuse k st') f)) (record { says = refl; shuts = λ _. c })
  goes_sound st sofar u some (keeps c z few) ih = rw (run_keeps m st sofar u some c z few) (still_sound (keeping st (kept st ++ u)) sofar)
  goes_sound st sofar u some (pays st₀ at n c s pos f) ih =
      let p : pass m st u ≡ payload st₀ at n = bare m st u (λ x. payload st₀ at (n + length x)) f ∙ ap (payload st₀ at) (add-zero n) in
      elim (dec_le st₀.left n) [
        | yes h ↦
            rw (run_ends m st sofar u st₀ at n p some h)
            (ends_sound st₀.full (sofar ++ take st₀.left (drop at u)) (λ x. run m (ended st₀) x (drop (at + st₀.left) u))
            (λ x. ih (ended st₀) x (drop (at + st₀.left) u) (rw length-drop (omega arith))))
        | no h ↦ rw (run_cut m st sofar u st₀ at n p some (omega arith) s) (still_sound (further st₀ n) (sofar ++ take n (drop at u)))
      ]

  run_sound_by : (f : ℕ) (st : Stream) (sofar u : List ℕ) → length u < f → Sound (run m st sofar u)
  run_sound_by zero st sofar u h = absurd (omega arith)
  run_sound_by (suc f) st sofar [] h = rw (run_none m st sofar [] refl) (still_sound st sofar)
  run_sound_by (suc f) st sofar (x ∷ u) h =
      goes_sound st sofar (x ∷ u) (omega arith) (goes m st (x ∷ u) (omega arith)) (λ st' s y l. run_sound_by f st' s y (omega arith))

  joined_sound : (w x : Watched) → Sound w → Sound x → Sound (cond w.refusing w (before w.events x))
  joined_sound w x s s' =
      by_test Sound w.refusing w (before w.events x) (λ _. s)
      (λ e. record { says = s'.says ∙ sym (refusing-after w.events x.events (sym s.says ∙ e)); shuts = s'.shuts })

  watch_sound : (st : Stream) (sofar : List ℕ) (pieces : List (List ℕ)) → Sound (watch (pass m) st sofar pieces)
  unfolding watch
  watch_sound st sofar [] = still_sound st sofar
  watch_sound st sofar (c ∷ cs) =
      let w : Watched = run m st sofar c in
      joined_sound w (watch (pass m) w.state w.sofar cs) (run_sound_by (suc (length c)) st sofar c (omega arith))
      (watch_sound w.state w.sofar cs)

-- ---- the waiting host sees no more than one refusal in one piece

abbrev up_to : List Event → List Event
up_to [] = []
up_to (handed p ∷ es) = handed p ∷ up_to es
up_to (refusal c ∷ es) = refusal c ∷ []

module _ (r : Reader PlainPacketCodec) (habit : Habit PlainPacketCodec) where
  after_once : (n : ℕ) (u : List ℕ) (c : Called PlainPacketCodec) (h : Host PlainPacketCodec) (a : Waiting.Answered)
      → h.events ≡ up_to h.events → (after_call habit n u c h a).events ≡ up_to (after_call habit n u c h a).events
  after_once n u c h Waiting.need_more e = refl
  after_once n u c h (Waiting.refused k) e = refl
  after_once n u c h (Waiting.packet len) e = ap (λ (x : List Event). handed (take len c.buf) ∷ x) e

  calls_once : (f n : ℕ) (st : PlainPacketCodec) (u b : List ℕ) → (calls_up_to r habit f n st u b).events ≡ up_to (calls_up_to r habit f n st u b).events
  unfolding calls_up_to
  calls_once zero n st u b = refl
  calls_once (suc f) n st u b =
      let c = r st u b in
      after_once n u c _ c.answer (calls_once f (suc n) (habit.acts c.next) (drop c.used u) (habit.lends n c.buf))

  once : (n : ℕ) (st : PlainPacketCodec) (u b : List ℕ) → (calls r habit n st u b).events ≡ up_to (calls r habit n st u b).events
  unfolding calls
  once n st u b = calls_once (suc (length u)) n st u b

  one_piece : (n : ℕ) (st : PlainPacketCodec) (u b : List ℕ) → (serve r habit n st [] b (u ∷ [])).events ≡ (calls r habit n st u b).events
  unfolding serve
  one_piece n st u b = append-nil (calls r habit n st u b).events

up_to-first : (ps : List (List ℕ)) (c : ℕ) (es : List Event) → up_to (map handed ps ++ (refusal c ∷ es)) ≡ map handed ps ++ (refusal c ∷ [])
up_to-first [] c es = refl
up_to-first (p ∷ ps) c es = ap (λ (x : List Event). handed p ∷ x) (up_to-first ps c es)

refusing-map : (ps : List (List ℕ)) (es : List Event) → refusing (map handed ps ++ es) ≡ refusing es
refusing-map [] es = refl
refusing-map (p ∷ ps) es = refusing-map ps es

-- a host that has seen a refusal agrees by seeing the same
refused_agree : (es : List Event) (h : Host PlainPacketCodec) (ps : List (List ℕ)) (c : ℕ) → Agrees es h → h.events ≡ map handed ps ++ (refusal c ∷ [])
    → es ≡ map handed ps ++ (refusal c ∷ [])
refused_agree es h ps c (same e) q = e ∙ q
refused_agree es h ps c (sooner qs e e' long short) q =
    let a : refusing (map handed qs ++ []) ≡ true = rw (append-nil (map handed qs), ← e, q) (refusing-map ps (refusal c ∷ [])) in
    let f : refusing [] ≡ true = sym (refusing-map qs []) ∙ a in
    absurd (let z : ◌≡◌ {A = ℕ} 0 1 = cc in omega arith)

-- ---- both halves

-- a waiting host with a buffer of the limit, which it lends again and again
abbrev host : Habit PlainPacketCodec
host = record { acts = λ st. st; lends = λ n d. d }

abbrev buffer : ℕ → List ℕ
buffer l = replicate l 0

room : (l : ℕ) → l ≤ length (buffer l)
room l = rw (length-replicate {A = ℕ} l 0) (omega arith)

module _ (m : ℕ) (pos : 0 < m) (fits : m ≤ largest) (k l : ℕ) (ps : List (List ℕ)) (a : List ℕ) (G : Sent m k l ps a) where
  abbrev r : Reader PlainPacketCodec
  r = (plain_end m).reader

  abbrev W : List (List ℕ)
  W = written m k ps

  abbrev watched : List (List ℕ) → Watched
  watched pieces = watch (pass m) (idle l k) [] pieces

  given : Given PlainPacketCodec m k l (buffer l) host ps a
  given = record { sent = G; room = room l; lent = λ n d h. h; acts = λ st. refl }

  abbrev waited : List ℕ → Host PlainPacketCodec
  waited u = calls r host 0 (Waiting.idle l k) u (buffer l)

  -- the two hosts on the same bytes
  tied : (u : List ℕ) → Tied (run m (idle l k) [] u) (waited u)
  tied u = both m l host (λ st. refl) (λ n d h. h) k u (buffer l) (room l)

  module _ (i : ℕ) (D : Misplaced a i) (t : ℕ) (ht : length (arrived W (take (suc i) a)) ≤ t) (pieces : List (List ℕ))
      (e : flatten pieces ≡ take t (arrived W a)) where
    abbrev es : List Event
    es = map handed (complete m ps i) ++ (refusal (refusal_of m k l ps a i) ∷ [])

    waiting_refused : (waited (flatten pieces)).events ≡ es
    unfolding flatten
    waiting_refused =
        let u : List ℕ = flatten pieces in
        let f = (line m pos fits).misplaced k l (buffer l) host ps a given i D t ht (u ∷ []) (append-nil u ∙ e) in
        once r host 0 (Waiting.idle l k) u (buffer l)
        ∙ ap up_to (sym (one_piece r host 0 (Waiting.idle l k) u (buffer l)) ∙ f.1)
        ∙ up_to-first (complete m ps i) (refusal_of m k l ps a i) (replicate f.0 (refusal 7))

    refused : (watched pieces).events ≡ es
    refused =
        refused_agree (watched pieces).events (waited (flatten pieces)) (complete m ps i) (refusal_of m k l ps a i)
        ((straight m).agrees l k (buffer l) host (room l) (λ n d h. h) (λ st. refl) pieces) waiting_refused

    shut : (watched pieces).state.closed ≡ true
    shut =
        let s = watch_sound m (idle l k) [] pieces in
        s.shuts (s.says ∙ ap refusing refused ∙ refusing-map (complete m ps i) (refusal (refusal_of m k l ps a i) ∷ []))

  -- what is known of the host on one piece, when the waiting one has all packets and nothing unread
  record AllIn (w : Watched) : Type 0 where
    pub events : w.events ≡ map handed (complete m ps (length a))
    pub quiet : w.refusing ≡ false
    pub number : w.state.number ≡ (k + length a) % 256

  all_agree : (es : List Event) (h : Host PlainPacketCodec) → Agrees es h → length h.unread ≡ 0 → es ≡ h.events
  all_agree es h (same e) z = e
  all_agree es h (sooner qs e e' long short) z = absurd (omega arith)

  all_in : (w : Watched) (h : Host PlainPacketCodec) (n' t : ℕ) (b' : List ℕ)
      → h ≡ record {
        events = map handed (complete m ps (length a));
        packets = n';
        state = within l ((k + length a) % 256) t;
        unread = [];
        buffer = b';
      }
      → Tied w h → AllIn w
  all_in w h n' t b' e T =
      let z : length h.unread ≡ 0 = rw e in
      record {
        events = all_agree w.events h T.agrees z ∙ rw e;
        quiet = (T.number z).0;
        number = (T.number z).1 ∙ rw e;
      }

  all_by : (u : List ℕ) → Wholly m pos fits k l (buffer l) host ps a given u → AllIn (run m (idle l k) [] u)
  all_by u (wholly n' t b' c) = all_in (run m (idle l k) [] u) (waited u) n' t b' c (tied u)

  all_shown : (w x : Watched) → shown w ≡ shown x → AllIn x → AllIn w
  all_shown w x e A =
      let q : w.refusing ≡ false = ap (λ (y : Watched). y.refusing) e ∙ A.quiet in
      let s : cond w.refusing (idle 0 0) w.state ≡ cond x.refusing (idle 0 0) x.state = ap (λ (y : Watched). y.state) e in
      let s' : w.state ≡ x.state = rw (q, A.quiet) at s in
      record {
        events = ap (λ (y : Watched). y.events) e ∙ A.events;
        quiet = q;
        number = ap (λ (y : Stream). y.number) s' ∙ A.number;
      }

  all_watched : InPlace a → (pieces : List (List ℕ)) → flatten pieces ≡ arrived W a → AllIn (watched pieces)
  all_watched h pieces e =
      all_shown (watched pieces) (run m (idle l k) [] (flatten pieces)) (watch_joined m (idle l k) [] pieces)
      (rw e (all_by (arrived W a) (all_in_place m pos fits k l (buffer l) host ps a given h)))

  in_place_lem : InPlace a → (pieces : List (List ℕ)) → AllIn (watched pieces)
      → ((watched pieces).events ≡ map handed (complete m ps (length a)))
      × ((watched pieces).state.number < 256)
      × (((watched pieces).state.number + (length W - length a)) % 256 ≡ writer m k ps)
  in_place_lem h pieces A =
      let hn : length a ≤ length W = reach (length a) a (length W) (omega arith) h G.real in
      (A.events, rw A.number (omega arith), rw (A.number, writer_is m k ps G.start) (omega arith))

pub straight_line : (m : ℕ) → 0 < m → m ≤ largest → StraightLine m (pass m)
straight_line m pos fits = record {
  misplaced = λ k l ps a G i D t ht pieces e. (
    refused m pos fits k l ps a G i D t ht pieces e,
    λ u. pass-closed m (watch (pass m) (idle l k) [] pieces).state u (shut m pos fits k l ps a G i D t ht pieces e),
  );
  in_place = λ k l ps a G h pieces e. in_place_lem m pos fits k l ps a G h pieces (all_watched m pos fits k l ps a G h pieces e);
}

pub code_straight_line : (f : Stream → List ℕ → Decoded Piece Stream) → Passes f → StraightLine largest (code_through f)
code_straight_line f h = subst (StraightLine largest) (same_through f h) (straight_line largest (omega arith) (omega arith))
