-- The straight-through reader as a host calls it: each way that a call can go, and an equation for the calls on a piece in each.
use Prim.Native.Nat.{ℕ, zero, suc, ◌+◌, ◌-◌, ◌≤◌, ◌<◌}
use mathlib.Core.Path.{◌≡◌, refl, sym, ap, ◌∙◌}
use mathlib.Core.Bool.{Bool, true, false, not}
use mathlib.Core.List.{List, [], ◌∷◌, ◌++◌, append-nil, append_assoc}
use native.Mathlib.Omega.{arith}
use native.Mathlib.Decide.{dec_le, ℕ_discrete}
use lib.ListN.{length, take, drop, get_or, length-append, length-drop, get_or-append}
use lib.Seq.{take-append-le}
use borrow.Author.Tests.{eq-eqb, ne_eqb}
use Rattle.wire.specs.Le.{le_of, le_at}
use Rattle.stream.specs.Stream.{closed, kept, keeping, begun, further, ended}
use Rattle.stream.specs.Stream.{Answered, need_more, part, refused, Done, refuse, payload, numbered, headed, header, pass}
use Rattle.stream.specs.StreamLaws.{asks, hands_rest, hands_some, payload-rest, payload-some, numbered_right, numbered_wrong, headed_empty, headed_large}
use Rattle.stream.specs.StreamLaws.{headed-some, header-short, header-whole, pass-closed, pass-header, pass-payload, kept-most, pass_takes}
use Rattle.stream.specs.declared.Stream.{Stream}
use Rattle.line.specs.Host.{handed, refusal}
use Rattle.line.specs.Straight.{Watched, still, before, after_pass, passes}

-- ---- a complete header of an empty chunk, or of one within the limit

module _ (m : ℕ) (st : Stream) (len num at n : ℕ) (within : (len ≡ 0 → ⊥) → st.taken + len ≤ st.limit) where
  headed_is : headed m st len num at n ≡ numbered m st len num at n
  headed_is =
      elim (ℕ_discrete len 0) [
        | yes z ↦ headed_empty m st len num at n z ∙ ap (λ (j : ℕ). numbered m st j num at n) (sym z)
        | no z ↦ headed-some m st len num at n z (within z)
      ]

  pub headed_wrong : (num ≡ st.number → ⊥) → headed m st len num at n ≡ refuse 3 (closed st)
  headed_wrong e = headed_is ∙ numbered_wrong m st len num at n e

  pub headed_right : num ≡ st.number → headed m st len num at n ≡ payload (begun m st len num) at n
  headed_right e = headed_is ∙ numbered_right m st len num at n e

-- ---- a call on some bytes, with any behind them

pub data Goes (m : ℕ) (st : Stream) (u : List ℕ) : Type 0 where
  -- it is refused, and then closed
  stops : (k : ℕ) (st' : Stream) → st'.closed ≡ true → ((v : List ℕ) → pass m st (u ++ v) ≡ refuse k st') → Goes m st u
  -- it comes to payload at a place, in a state that is then the reader's, and n bytes of u are that
  pays : (st₀ : Stream) (at n : ℕ) → st₀.closed ≡ false → at + n ≡ length u → 0 < at + st₀.left
      → ((v : List ℕ) → pass m st (u ++ v) ≡ payload st₀ at (n + length v)) → Goes m st u
  -- a header is not complete
  keeps : st.closed ≡ false → st.left ≡ 0 → length (kept st ++ u) < 4 → Goes m st u

module _ (m : ℕ) (st : Stream) (u : List ℕ) (some : 0 < length u) where
  more : (v : List ℕ) → 0 < length (u ++ v)
  more v = rw length-append (omega arith)

  module _ (c : st.closed ≡ false) (e : st.left ≡ 0) (long : 4 ≤ length (kept st ++ u)) where
    abbrev h : List ℕ
    h = kept st ++ u

    abbrev len : ℕ
    len = le_at h 0 3

    abbrev num : ℕ
    num = get_or h 3 0

    abbrev at : ℕ
    at = 4 - length (kept st)

    pass-headed : (v : List ℕ) → pass m st (u ++ v) ≡ headed m st len num at (length h - 4 + length v)
    pass-headed v =
        let l : length (h ++ v) - 4 ≡ length h - 4 + length v = rw (length-append h v) (omega arith) in
        pass-header m st (u ++ v) c (more v) e
        ∙ ap (header m st (u ++ v)) (sym (append_assoc (kept st) u v))
        ∙ header-whole m st (u ++ v) (h ++ v) (rw (length-append h v) (omega arith))
        ∙ ap (λ (x : List ℕ). headed m st (le_of x) (get_or (h ++ v) 3 0) at (length (h ++ v) - 4)) (take-append-le 3 h v (omega arith))
        ∙ rw (get_or-append h v 0 3 (omega arith), l)

    goes_right : ((len ≡ 0 → ⊥) → st.taken + len ≤ st.limit) → num ≡ st.number → Goes m st u
    goes_right w q =
        pays (begun m st len num) at (length h - 4) c (omega (arith, length-append (kept st) u, kept-most st)) (omega (arith, kept-most st))
        (λ v. pass-headed v ∙ headed_right m st len num at (length h - 4 + length v) w q)

    goes-within : ((len ≡ 0 → ⊥) → st.taken + len ≤ st.limit) → Goes m st u
    goes-within w =
        elim (ℕ_discrete num st.number) [
          | yes q ↦ goes_right w q
          | no q ↦ stops 3 (closed st) refl (λ v. pass-headed v ∙ headed_wrong m st len num at (length h - 4 + length v) w q)
        ]

    goes-headed : Goes m st u
    goes-headed =
        elim (dec_le (st.taken + len) st.limit) [
          | yes w ↦ goes-within (λ _. w)
          | no w ↦
              elim (ℕ_discrete len 0) [
                | yes z ↦ goes-within (λ y. absurd (y z))
                | no z ↦ stops 2 (closed st) refl (λ v. pass-headed v ∙ headed_large m st len num at (length h - 4 + length v) z (omega arith))
              ]
        ]

  goes_open : st.closed ≡ false → Goes m st u
  goes_open c =
      elim (ℕ_discrete st.left 0) [
        | yes e ↦
            elim (dec_le 4 (length (kept st ++ u))) [
              | yes l ↦ goes-headed c e l
              | no l ↦ keeps c e (omega arith)
            ]
        | no e ↦
            pays st 0 (length u) c (omega arith) (omega arith)
            (λ v. pass-payload m st (u ++ v) c (more v) (omega arith) ∙ ap (payload st 0) (length-append u v))
      ]

  goes_by : (c : Bool) → st.closed ≡ c → Goes m st u
  goes_by true c = stops 7 st c (λ v. pass-closed m st (u ++ v) c)
  goes_by false c = goes_open c

  pub goes : Goes m st u
  goes = goes_by st.closed refl

-- with none behind
pub bare : (m : ℕ) (st : Stream) (u : List ℕ) (d : List ℕ → Done) → ((v : List ℕ) → pass m st (u ++ v) ≡ d v) → pass m st u ≡ d []
bare m st u d f = ap (pass m st) (sym (append-nil u)) ∙ f []

-- ---- the calls on a piece

-- a part takes bytes, and no more than there are
part_takes : (m : ℕ) (st : Stream) (u : List ℕ) → 0 < length u → (at len : ℕ) (t : Bool) → (pass m st u).answer ≡ part at len t
    → length (drop (pass m st u).used u) < length u
part_takes m st u some at len t e =
    let w = pass_takes m st u in
    let p : 0 < (pass m st u).used = w.least some (λ k q. let y = sym e ∙ q in absurd (let z : ◌≡◌ {A = ℕ} 0 1 = cc in omega arith)) in
    rw length-drop (omega (arith, w.most))

-- what lies behind a call matters after a part only
behind_same : (x y : List ℕ → Watched) (sofar u : List ℕ) (d : Done) (a : Answered) → ((at len : ℕ) (t : Bool) → a ≡ part at len t → (s : List ℕ) → x s ≡ y s)
    → after_pass x sofar u d a ≡ after_pass y sofar u d a
behind_same x y sofar u d need_more f = refl
behind_same x y sofar u d (refused k) f = refl
behind_same x y sofar u d (part at len true) f = ap (before (handed (sofar ++ take len (drop at u)) ∷ [])) (f at len true refl [])
behind_same x y sofar u d (part at len false) f = f at len false refl (sofar ++ take len (drop at u))

module _ (m : ℕ) where
  -- any number of calls that is the piece's length or more gives the same
  empty : (f : ℕ) (st : Stream) (sofar u : List ℕ) → length u ≡ 0 → passes (pass m) f st sofar u ≡ still st sofar
  unfolding passes
  empty zero st sofar u e = refl
  empty (suc f) st sofar u e = rw (eq-eqb (length u) 0 e)

  bound_some : (f g : ℕ) (st : Stream) (sofar u : List ℕ) → 0 < length u
      → ((st' : Stream) (s x : List ℕ) → length x < length u → passes (pass m) f st' s x ≡ passes (pass m) g st' s x)
      → passes (pass m) (suc f) st sofar u ≡ passes (pass m) (suc g) st sofar u
  unfolding passes
  bound_some f g st sofar u some ih =
      rw (ne_eqb (length u) 0 (λ z. omega arith))
      (behind_same _ _ sofar u (pass m st u) (pass m st u).answer
      (λ at len t e s. ih (pass m st u).next s (drop (pass m st u).used u) (part_takes m st u some at len t e)))

  bound : (f g : ℕ) (st : Stream) (sofar u : List ℕ) → length u ≤ f → length u ≤ g → passes (pass m) f st sofar u ≡ passes (pass m) g st sofar u
  bound zero g st sofar u hf hg = empty zero st sofar u (omega arith) ∙ sym (empty g st sofar u (omega arith))
  bound (suc f) zero st sofar u hf hg = empty (suc f) st sofar u (omega arith) ∙ sym (empty zero st sofar u (omega arith))
  bound (suc f) (suc g) st sofar u hf hg =
      elim (ℕ_discrete (length u) 0) [
        | yes z ↦ empty (suc f) st sofar u z ∙ sym (empty (suc g) st sofar u z)
        | no z ↦ bound_some f g st sofar u (omega arith) (λ st' s x h. bound f g st' s x (omega arith) (omega arith))
      ]

  -- the host on one piece
  abbrev pub run : Stream → (sofar u : List ℕ) → Watched
  run st sofar u = passes (pass m) (length u) st sofar u

  pub run_none : (st : Stream) (sofar u : List ℕ) → length u ≡ 0 → run st sofar u ≡ still st sofar
  run_none st sofar u e = empty (length u) st sofar u e

  pub run_is : (st : Stream) (sofar u : List ℕ) (d : Done) → 0 < length u → pass m st u ≡ d
      → run st sofar u ≡ after_pass (λ s. run d.next s (drop d.used u)) sofar u d d.answer
  unfolding passes
  run_is st sofar u d some e =
      rw (← e)
      (bound (length u) (suc (length u)) st sofar u (omega arith) (omega arith)
      ∙ rw (ne_eqb (length u) 0 (λ z. omega arith))
      (behind_same _ _ sofar u (pass m st u) (pass m st u).answer
      (λ at len t q s.
      bound (length u) (length (drop (pass m st u).used u)) (pass m st u).next s (drop (pass m st u).used u) (rw length-drop (omega arith)) (omega arith))))

  -- ---- its first call, by the ways that it can go

  module _ (st : Stream) (sofar u : List ℕ) (some : 0 < length u) where
    pub run_refused : (k : ℕ) (st' : Stream) → pass m st u ≡ refuse k st'
        → run st sofar u ≡ record { events = refusal k ∷ []; refusing = true; sofar = sofar; state = st' }
    run_refused k st' e = run_is st sofar u (refuse k st') some e

    pub run_keeps : st.closed ≡ false → st.left ≡ 0 → length (kept st ++ u) < 4 → run st sofar u ≡ still (keeping st (kept st ++ u)) sofar
    run_keeps c z l =
        run_is st sofar u (asks (length u) (keeping st (kept st ++ u))) some (pass-header m st u c some z ∙ header-short m st u (kept st ++ u) l)

  -- a chunk's end: the packet goes on behind it, or it is handed out
  abbrev pub ends : Bool → List ℕ → (List ℕ → Watched) → Watched
  ends true p behind = behind p
  ends false p behind = before (handed p ∷ []) (behind [])

  after-ends : (behind : List ℕ → Watched) (sofar u : List ℕ) (d : Done) (at len : ℕ) (full : Bool)
      → after_pass behind sofar u d (part at len (not full)) ≡ ends full (sofar ++ take len (drop at u)) behind
  after-ends behind sofar u d at len true = refl
  after-ends behind sofar u d at len false = refl

  module _ (st : Stream) (sofar u : List ℕ) (st₀ : Stream) (at n : ℕ) (e : pass m st u ≡ payload st₀ at n) (some : 0 < length u) where
    pub run_ends : st₀.left ≤ n
        → run st sofar u ≡ ends st₀.full (sofar ++ take st₀.left (drop at u)) (λ s. run (ended st₀) s (drop (at + st₀.left) u))
    run_ends h =
        run_is st sofar u (hands_rest st₀ at) some (e ∙ payload-rest st₀ at n h)
        ∙ after-ends (λ s. run (ended st₀) s (drop (at + st₀.left) u)) sofar u (hands_rest st₀ at) at st₀.left st₀.full

    pub run_cut : n < st₀.left → at + n ≡ length u → run st sofar u ≡ still (further st₀ n) (sofar ++ take n (drop at u))
    run_cut h s =
        run_is st sofar u (hands_some st₀ at n) some (e ∙ payload-some st₀ at n h)
        ∙ run_none (further st₀ n) (sofar ++ take n (drop at u)) (drop (at + n) u) (rw length-drop (omega arith))
