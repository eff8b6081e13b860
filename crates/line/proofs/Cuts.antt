-- How the bytes are cut does not matter to the host of a straight-through reader: it sees in pieces what it sees in one.
use Prim.Native.Nat.{ℕ, zero, suc, ◌+◌, ◌-◌, ◌≤◌, ◌<◌}
use mathlib.Core.Path.{◌≡◌, refl, sym, ap, ◌∙◌}
use mathlib.Core.Bool.{Bool, true, false, cond}
use mathlib.Core.List.{List, [], ◌∷◌, ◌++◌, append-nil, append_assoc, flatten}
use native.Mathlib.Nat.{add-zero}
use native.Mathlib.Omega.{arith}
use native.Mathlib.Decide.{dec_le, ℕ_discrete}
use lib.ListN.{length, take, drop, get_or, length-append, length-drop}
use lib.Seq.{take-append-le, drop-append-le, take-append-add, drop-append-add, take_all}
use Rattle.wire.specs.Le.{le_at}
use Rattle.stream.specs.Stream.{idle, closed, kept, keeping, begun, further, ended, refuse, payload, headed, header, pass}
use Rattle.stream.specs.StreamLaws.{headed_large, header-whole, pass-header, pass-payload, kept_back}
use Rattle.stream.specs.declared.Stream.{Stream}
use Rattle.line.specs.Host.{handed}
use Rattle.line.specs.Straight.{Watched, still, before, watch}
use Rattle.line.proofs.Passes.{headed_wrong, headed_right, Goes, stops, pays, keeps, goes, bare}
use Rattle.line.proofs.Passes.{run, run_none, run_refused, run_keeps, ends, run_ends, run_cut}

-- all that a host has but the state of a reader that has refused: header bytes that came in an earlier piece stand in it, and those of
-- the last one don't
abbrev pub shown : Watched → Watched
shown w = record { events = w.events; refusing = w.refusing; sofar = w.sofar; state = cond w.refusing (idle 0 0) w.state }

module _ (m : ℕ) where
  -- another piece, behind what was seen
  abbrev then : Watched → List ℕ → Watched
  then w v = cond w.refusing w (before w.events (run m w.state w.sofar v))

  -- ---- payload at a place of v, and behind u the same later by u

  module _ (st st' : Stream) (sofar u v : List ℕ) (st₀ : Stream) (at n : ℕ) (some : 0 < length v) (s : at + n ≡ length v)
      (e : pass m st (u ++ v) ≡ payload st₀ (length u + at) n) (e' : pass m st' v ≡ payload st₀ at n) where
    pay_later : run m st sofar (u ++ v) ≡ run m st' sofar v
    pay_later =
        let some' : 0 < length (u ++ v) = rw length-append (omega arith) in
        let d : drop (length u + at) (u ++ v) ≡ drop at v = drop-append-add u v at in
        elim (dec_le st₀.left n) [
          | yes h ↦
              let a : length u + at + st₀.left ≡ length u + (at + st₀.left) = omega arith in
              let d' : drop (length u + at + st₀.left) (u ++ v) ≡ drop (at + st₀.left) v = rw a (drop-append-add u v (at + st₀.left)) in
              run_ends m st sofar (u ++ v) st₀ (length u + at) n e some' h ∙ rw (d, d') (sym (run_ends m st' sofar v st₀ at n e' some h))
          | no h ↦
              run_cut m st sofar (u ++ v) st₀ (length u + at) n e some' (omega arith) (rw length-append (omega arith))
              ∙ rw d (sym (run_cut m st' sofar v st₀ at n e' some (omega arith) s))
        ]

  -- ---- a piece that ends inside a header

  module _ (st : Stream) (sofar u v : List ℕ) (c : st.closed ≡ false) (z : st.left ≡ 0) (few : length (kept st ++ u) < 4) (some : 0 < length v) where
    abbrev h : List ℕ
    h = kept st ++ u

    abbrev len : ℕ
    len = le_at (h ++ v) 0 3

    abbrev num : ℕ
    num = get_or (h ++ v) 3 0

    abbrev n : ℕ
    n = length (h ++ v) - 4

    some' : 0 < length (u ++ v)
    some' = rw length-append (omega arith)

    all : pass m st (u ++ v) ≡ header m st (u ++ v) (h ++ v)
    all = pass-header m st (u ++ v) c some' z ∙ ap (header m st (u ++ v)) (sym (append_assoc (kept st) u v))

    rest : pass m (keeping st h) v ≡ header m (keeping st h) v (h ++ v)
    rest = pass-header m (keeping st h) v c some z ∙ ap (λ (x : List ℕ). header m (keeping st h) v (x ++ v)) (kept_back st h few)

    module _ (long : 4 ≤ length (h ++ v)) where
      all_headed : pass m st (u ++ v) ≡ headed m st len num (length u + (4 - length h)) n
      all_headed =
          let a : 4 - length (kept st) ≡ length u + (4 - length h) = omega (arith, length-append (kept st) u) in
          all ∙ header-whole m st (u ++ v) (h ++ v) long ∙ ap (λ (j : ℕ). headed m st len num j n) a

      rest-headed : pass m (keeping st h) v ≡ headed m (keeping st h) len num (4 - length h) n
      rest-headed =
          rest ∙ header-whole m (keeping st h) v (h ++ v) long
          ∙ ap (λ (x : List ℕ). headed m (keeping st h) len num (4 - length x) n) (kept_back st h few)

      both_refused : (k : ℕ) → headed m st len num (length u + (4 - length h)) n ≡ refuse k (closed st)
          → headed m (keeping st h) len num (4 - length h) n ≡ refuse k (closed (keeping st h))
          → shown (run m (keeping st h) sofar v) ≡ shown (run m st sofar (u ++ v))
      both_refused k e e' =
          rw (
            run_refused m st sofar (u ++ v) some' k (closed st) (all_headed ∙ e),
            run_refused m (keeping st h) sofar v some k (closed (keeping st h)) (rest-headed ∙ e'),
          )

      within_limit : ((len ≡ 0 → ⊥) → st.taken + len ≤ st.limit) → shown (run m (keeping st h) sofar v) ≡ shown (run m st sofar (u ++ v))
      within_limit w =
          elim (ℕ_discrete num st.number) [
            | yes q ↦
                ap shown
                (sym
                (pay_later st (keeping st h) sofar u v (begun m st len num) (4 - length h) n some (omega (arith, length-append h v))
                (all_headed ∙ headed_right m st len num (length u + (4 - length h)) n w q)
                (rest-headed ∙ headed_right m (keeping st h) len num (4 - length h) n w q)))
            | no q ↦
                both_refused 3 (headed_wrong m st len num (length u + (4 - length h)) n w q)
                (headed_wrong m (keeping st h) len num (4 - length h) n w q)
          ]

      header-later : shown (run m (keeping st h) sofar v) ≡ shown (run m st sofar (u ++ v))
      header-later =
          elim (dec_le (st.taken + len) st.limit) [
            | yes w ↦ within_limit (λ _. w)
            | no w ↦
                elim (ℕ_discrete len 0) [
                  | yes y ↦ within_limit (λ x. absurd (x y))
                  | no y ↦
                      both_refused 2 (headed_large m st len num (length u + (4 - length h)) n y (omega arith))
                      (headed_large m (keeping st h) len num (4 - length h) n y (omega arith))
                ]
          ]

    -- the header is still not complete
    keeps_on : length (h ++ v) < 4 → shown (run m (keeping st h) sofar v) ≡ shown (run m st sofar (u ++ v))
    keeps_on l =
        let b : kept (keeping st h) ++ v ≡ h ++ v = ap (λ (x : List ℕ). x ++ v) (kept_back st h few) in
        let a : kept st ++ (u ++ v) ≡ h ++ v = sym (append_assoc (kept st) u v) in
        ap shown
        (run_keeps m (keeping st h) sofar v some c z (rw b l)
        ∙ ap (λ (x : List ℕ). still (keeping st x) sofar) (b ∙ sym a)
        ∙ sym (run_keeps m st sofar (u ++ v) some' c z (rw a l)))

    header-cut : shown (run m (keeping st h) sofar v) ≡ shown (run m st sofar (u ++ v))
    header-cut =
        elim (dec_le 4 (length (h ++ v))) [
          | yes l ↦ header-later l
          | no l ↦ keeps_on (omega arith)
        ]

  -- ---- a piece that ends inside a chunk's payload, of which it has n bytes from place at on

  module _ (st : Stream) (sofar u v : List ℕ) (st₀ : Stream) (at n : ℕ) (c : st₀.closed ≡ false) (s : at + n ≡ length u)
      (e : pass m st (u ++ v) ≡ payload st₀ at (n + length v)) (cut : n < st₀.left) (some : 0 < length v) where
    abbrev on : Stream
    on = further st₀ n

    abbrev sofar' : List ℕ
    sofar' = sofar ++ take n (drop at u)

    rest_pays : pass m on v ≡ payload on 0 (length v)
    rest_pays = pass-payload m on v c some (omega arith)

    few : length (drop at u) ≡ n
    few = rw length-drop (omega arith)

    -- what has come of the chunk, and what comes of it
    joins : (k : ℕ) → sofar ++ take (n + k) (drop at (u ++ v)) ≡ sofar' ++ take k (drop 0 v)
    joins k =
        ap (λ (x : List ℕ). sofar ++ take (n + k) x) (drop-append-le at u v (omega arith))
        ∙ ap (λ (j : ℕ). sofar ++ take (j + k) (drop at u ++ v)) (sym few)
        ∙ ap (λ (x : List ℕ). sofar ++ x) (take-append-add (drop at u) v k)
        ∙ ap (λ (x : List ℕ). sofar ++ (x ++ take k v)) (sym (take_all n (drop at u) (omega (arith, few))))
        ∙ sym (append_assoc sofar (take n (drop at u)) (take k v))

    payload_cut : run m on sofar' v ≡ run m st sofar (u ++ v)
    payload_cut =
        let some' : 0 < length (u ++ v) = rw length-append (omega arith) in
        elim (dec_le st₀.left (n + length v)) [
          | yes h ↦
              let l : n + (st₀.left - n) ≡ st₀.left = omega arith in
              let a : at + st₀.left ≡ length u + (0 + (st₀.left - n)) = omega arith in
              let d : drop (at + st₀.left) (u ++ v) ≡ drop (0 + (st₀.left - n)) v = rw a (drop-append-add u v (0 + (st₀.left - n))) in
              let j : sofar ++ take st₀.left (drop at (u ++ v)) ≡ sofar' ++ take (st₀.left - n) (drop 0 v) = rw l at (joins (st₀.left - n)) in
              run_ends m on sofar' v on 0 (length v) rest_pays some (omega arith)
              ∙ rw (← j, ← d) (sym (run_ends m st sofar (u ++ v) st₀ at (n + length v) e some' h))
          | no h ↦
              let l : st₀.left - n - length v ≡ st₀.left - (n + length v) = omega arith in
              run_cut m on sofar' v on 0 (length v) rest_pays some (omega arith) (omega arith)
              ∙ rw (l, ← joins (length v))
              (sym (run_cut m st sofar (u ++ v) st₀ at (n + length v) e some' (omega arith) (rw length-append (omega arith))))
        ]

  -- ---- a piece, and then another

  then_before : (p : List ℕ) (w : Watched) (v : List ℕ) (z : Bool) → w.refusing ≡ z → then (before (handed p ∷ []) w) v ≡ before (handed p ∷ []) (then w v)
  then_before p w v true e = rw e
  then_before p w v false e = rw e

  then_ends : (x y : List ℕ → Watched) (v p : List ℕ) (full : Bool) → ((s : List ℕ) → shown (then (x s) v) ≡ shown (y s))
      → shown (then (ends m full p x) v) ≡ shown (ends m full p y)
  then_ends x y v p true ih = ih p
  then_ends x y v p false ih = ap shown (then_before p (x []) v (x []).refusing refl) ∙ ap (before (handed p ∷ [])) (ih [])

  abbrev Joins : Stream → List ℕ → List ℕ → List ℕ → Type 0
  Joins st sofar u v = shown (then (run m st sofar u) v) ≡ shown (run m st sofar (u ++ v))

  -- nothing comes behind
  joins_none : (st : Stream) (sofar u v : List ℕ) → length v ≡ 0 → (st' : Stream) (s : List ℕ) → run m st sofar u ≡ still st' s → Joins st sofar u v
  joins_none st sofar u [] l st' s e = rw (append-nil u, e, run_none m st' s [] refl)
  joins_none st sofar u (x ∷ v) l st' s e = absurd (omega arith)

  joins_some : (st : Stream) (sofar u v : List ℕ) → 0 < length u → Goes m st u
      → ((st' : Stream) (s x : List ℕ) → length x < length u → Joins st' s x v) → Joins st sofar u v
  joins_some st sofar u v some (stops k st' c f) ih =
      rw (
        run_refused m st sofar u some k st' (bare m st u (λ x. refuse k st') f),
        run_refused m st sofar (u ++ v) (rw length-append (omega arith)) k st' (f v),
      )
  joins_some st sofar u v some (keeps c z few) ih =
      let e : run m st sofar u ≡ still (keeping st (kept st ++ u)) sofar = run_keeps m st sofar u some c z few in
      elim (ℕ_discrete (length v) 0) [
        | yes l ↦ joins_none st sofar u v l (keeping st (kept st ++ u)) sofar e
        | no l ↦ rw e (header-cut st sofar u v c z few (omega arith))
      ]
  joins_some st sofar u v some (pays st₀ at n c s pos f) ih =
      let p : pass m st u ≡ payload st₀ at n = bare m st u (λ x. payload st₀ at (n + length x)) f ∙ ap (payload st₀ at) (add-zero n) in
      elim (dec_le st₀.left n) [
        | yes h ↦
            let k : ℕ = at + st₀.left in
            let d : drop at (u ++ v) ≡ drop at u ++ v = drop-append-le at u v (omega arith) in
            let t : take st₀.left (drop at u ++ v) ≡ take st₀.left (drop at u) =
            take-append-le st₀.left (drop at u) v (rw length-drop (omega arith)) in
            let d' : drop k (u ++ v) ≡ drop k u ++ v = drop-append-le k u v (omega arith) in
            ap (λ (w : Watched). shown (then w v)) (run_ends m st sofar u st₀ at n p some h)
            ∙ then_ends (λ x. run m (ended st₀) x (drop k u)) (λ x. run m (ended st₀) x (drop k u ++ v)) v (sofar ++ take st₀.left (drop at u)) st₀.full
            (λ x. ih (ended st₀) x (drop k u) (rw length-drop (omega arith)))
            ∙ rw (← d', ← t, ← d)
            (ap shown (sym (run_ends m st sofar (u ++ v) st₀ at (n + length v) (f v) (rw length-append (omega arith)) (omega arith))))
        | no h ↦
            let e : run m st sofar u ≡ still (further st₀ n) (sofar ++ take n (drop at u)) = run_cut m st sofar u st₀ at n p some (omega arith) s in
            elim (ℕ_discrete (length v) 0) [
              | yes l ↦ joins_none st sofar u v l (further st₀ n) (sofar ++ take n (drop at u)) e
              | no l ↦ rw e (ap shown (payload_cut st sofar u v st₀ at n c s (f v) (omega arith) (omega arith)))
            ]
      ]

  joins_go : (f : ℕ) (st : Stream) (sofar u v : List ℕ) → length u < f → Joins st sofar u v
  joins_go zero st sofar u v h = absurd (omega arith)
  joins_go (suc f) st sofar [] v h = rw (run_none m st sofar [] refl)
  joins_go (suc f) st sofar (x ∷ u) v h =
      joins_some st sofar (x ∷ u) v (omega arith) (goes m st (x ∷ u) (omega arith)) (λ st' s y l. joins_go f st' s y v (omega arith))

  -- every state, also one that no call leaves
  pub watch_joined : (st : Stream) (sofar : List ℕ) (pieces : List (List ℕ)) → shown (watch (pass m) st sofar pieces) ≡ shown (run m st sofar (flatten pieces))
  unfolding watch flatten
  watch_joined st sofar [] = ap shown (sym (run_none m st sofar [] refl))
  watch_joined st sofar (c ∷ cs) =
      let w : Watched = run m st sofar c in
      after w (watch_joined w.state w.sofar cs) w.refusing refl ∙ joins_go (suc (length c)) st sofar c (flatten cs) (omega arith)
    where
      after : (w : Watched) → shown (watch (pass m) w.state w.sofar cs) ≡ shown (run m w.state w.sofar (flatten cs)) → (z : Bool) → w.refusing ≡ z
          → shown (cond w.refusing w (before w.events (watch (pass m) w.state w.sofar cs))) ≡ shown (then w (flatten cs))
      after w ih true e = rw e
      after w ih false e = rw e (ap (before w.events) ih)
