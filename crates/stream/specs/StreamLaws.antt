-- Laws of the straight-through reader: each case of a call by itself, how many bytes it uses, and what a state keeps of a header.
use Rattle.stream.specs.declared.Piece.{Piece}
use Rattle.refusal.specs.declared.Refusal.{Refusal}
use Rattle.std.specs.Prelude.{◌≡◌, ℕ, ◌+◌, ◌-◌, ◌<◌, ◌≤◌, Bool, true, false, not, List, [], ◌∷◌, ◌++◌, length, take, ◌==◌, ◌≢◌, nat_le, nat_lt, slice_index, refl, Result, Ok, Err, Option, Some, None}
use Rattle.std.proofs.Common.{sym, ap, ◌∙◌, arith, length-take, length-append}
use Rattle.std.proofs.Math.Decide.{dec_le}
use borrow.Author.Tests.{eqb-true, eqb-false, ltb-false, leb-true, lt-ltb, le-ltb, le-leb, lt-leb, eq-eqb, ne_eqb}
use Rattle.refusal.specs.Number.{number_same}
use Rattle.wire.specs.Le.{le_at}
use Rattle.chunk.specs.ReadLaws.{by_test}
use Rattle.stream.specs.declared.Stream.{Stream}
use Rattle.stream.specs.Stream.{closed, kept, keeping, begun, further, ended}
use Rattle.stream.specs.Stream.{need_more, part, refused, answer_said, Done, refuse, payload, numbered, headed, header, pass}

-- ---- the ways that a call can end, but for a refusal

-- it used n bytes, and asks for more
abbrev pub asks : ℕ → Stream → Done
asks n st = record { answer = need_more; used = n; next = st }

-- the rest of the chunk, from place at on; n bytes of it
abbrev pub hands_rest : Stream → (at : ℕ) → Done
hands_rest st at = record { answer = part at st.left (not st.full); used = at + st.left; next = ended st }

abbrev pub hands_some : Stream → (at n : ℕ) → Done
hands_some st at n = record { answer = part at n false; used = at + n; next = further st n }

-- ---- payload

module _ (st : Stream) (at n : ℕ) where
  pub payload-rest : st.left ≤ n → payload st at n ≡ hands_rest st at
  unfolding payload
  payload-rest h = rw (le-leb _ _ h)

  pub payload-some : n < st.left → payload st at n ≡ hands_some st at n
  unfolding payload
  payload-some h = rw (lt-leb _ _ h)

-- ---- a header that is complete

module _ (m : ℕ) (st : Stream) (len num at n : ℕ) where
  pub numbered_right : num ≡ st.number → numbered m st len num at n ≡ payload (begun m st len num) at n
  unfolding numbered
  numbered_right e = rw (eq-eqb _ _ e)

  pub numbered_wrong : (num ≢ st.number) → numbered m st len num at n ≡ refuse 3 (closed st)
  unfolding numbered
  numbered_wrong e = rw (ne_eqb _ _ e)

  pub headed_empty : len ≡ 0 → headed m st len num at n ≡ numbered m st 0 num at n
  unfolding headed
  headed_empty e = rw (eq-eqb _ _ e)

  module _ (e : len ≡ 0 → ⊥) where
    pub headed_large : st.limit < st.taken + len → headed m st len num at n ≡ refuse 2 (closed st)
    unfolding headed
    headed_large h = rw (ne_eqb _ _ e, lt-ltb _ _ h)

    pub headed-some : st.taken + len ≤ st.limit → headed m st len num at n ≡ numbered m st len num at n
    unfolding headed
    headed-some h = rw (ne_eqb _ _ e, le-ltb _ _ h)

-- a chunk within the limit, empty or not
pub headed-within : (m : ℕ) (st : Stream) (len num at n : ℕ) → st.taken + len ≤ st.limit
    → headed m st len num at n ≡ numbered m st len num at n
headed-within m st len num at n h = elim (dec_le len 0) [
  | yes z ↦
      let none : len ≡ 0 = omega arith in
      headed_empty m st len num at n none ∙ ap (λ (j : ℕ). numbered m st j num at n) (sym none)
  | no z ↦ headed-some m st len num at n (λ y. z (omega arith)) h
]

-- ---- between two chunks

module _ (m : ℕ) (st : Stream) (u h : List ℕ) where
  pub header-short : length h < 4 → header m st u h ≡ asks (length u) (keeping st h)
  unfolding header
  header-short l = rw (lt-ltb _ _ l)

  pub header-whole : 4 ≤ length h → header m st u h ≡ headed m st (le_at h 0 3) (slice_index h 3) (4 - length (kept st)) (length h - 4)
  unfolding header
  header-whole l = rw (le-ltb _ _ l)

-- ---- a call

module _ (m : ℕ) (st : Stream) (u : List ℕ) where
  pub pass-closed : st.closed ≡ true → pass m st u ≡ refuse 7 st
  unfolding pass
  pass-closed e = rw e

  module _ (e : st.closed ≡ false) where
    pub pass_none : length u ≡ 0 → pass m st u ≡ asks 0 st
    unfolding pass
    pass_none l = rw (e, eq-eqb _ _ l)

    module _ (l : 0 < length u) where
      pub pass-header : st.left ≡ 0 → pass m st u ≡ header m st u (kept st ++ u)
      unfolding pass
      pass-header z = rw (e, ne_eqb (length u) 0 (λ y. omega arith), eq-eqb _ _ z)

      pub pass-payload : 0 < st.left → pass m st u ≡ payload st 0 (length u)
      unfolding pass
      pass-payload z = rw (e, ne_eqb (length u) 0 (λ y. omega arith), ne_eqb st.left 0 (λ y. omega arith))

-- ---- what is kept of a header

pub kept-most : (st : Stream) → length (kept st) ≤ 3
kept-most st = rw (length-take st.got (st.first ∷ st.second ∷ st.third ∷ [])) (omega arith)

pub kept_none : (st : Stream) → st.got ≡ 0 → kept st ≡ []
kept_none st e = ap (λ (j : ℕ). take j (st.first ∷ st.second ∷ st.third ∷ [])) e

-- what was kept is there at the next call
pub kept_back : (st : Stream) (h : List ℕ) → length h < 4 → kept (keeping st h) ≡ h
kept_back st [] l = refl
kept_back st (a ∷ []) l = refl
kept_back st (a ∷ b ∷ []) l = refl
kept_back st (a ∷ b ∷ c ∷ []) l = refl
kept_back st (a ∷ b ∷ c ∷ d ∷ h) l = absurd (omega arith)

-- ---- a call uses no more bytes than are lent, and one at least unless it refuses; a part lies among those used, at their end

pub record Takes (n : ℕ) (d : Done) : Type 0 where
  pub most : d.used ≤ n
  pub least : 0 < n → ((k : ℕ) → d.answer ≢ refused k) → 0 < d.used
  pub among : (at len : ℕ) (ends : Bool) → d.answer ≡ part at len ends → at + len ≡ d.used

refuse_takes : (n k : ℕ) (st : Stream) → Takes n (refuse k st)
refuse_takes n k st = record {
  most = omega arith;
  least = λ _ f. absurd (f k refl);
  among = λ at len ends e. let z : ◌≡◌ {A = ℕ} 0 1 = cc e in absurd (omega arith);
}

asks_takes : (n used : ℕ) (st : Stream) → used ≤ n → (0 < n → 0 < used) → Takes n (asks used st)
asks_takes n used st h g = record {
  most = h;
  least = λ l _. g l;
  among = λ at len ends e. let z : ◌≡◌ {A = ℕ} 0 1 = cc e in absurd (omega arith);
}

part_takes : (k at len : ℕ) (ends : Bool) (st : Stream) → at + len ≤ k → (0 < k → 0 < at + len)
    → Takes k (record { answer = part at len ends; used = at + len; next = st })
part_takes k at len ends st h g = record {
  most = h;
  least = λ l _. g l;
  among = λ at' len' ends' e. let x : at ≡ at' = cc e in let y : len ≡ len' = cc e in omega arith;
}

payload_takes : (st : Stream) (at n k : ℕ) → at + n ≡ k → 0 < at + st.left → Takes k (payload st at n)
unfolding payload
payload_takes st at n k e g =
    by_test (Takes k) (nat_le st.left n) (hands_rest st at) (hands_some st at n)
    (λ t. let l = leb-true st.left n t in part_takes k at st.left (not st.full) (ended st) (omega arith) (λ _. g))
    (λ t. part_takes k at n false (further st n) (omega arith) (λ z. omega arith))

module _ (m : ℕ) (st : Stream) (len num at n k : ℕ) (e : at + n ≡ k) (g : 0 < at) where
  numbered_takes : Takes k (numbered m st len num at n)
  unfolding numbered
  numbered_takes =
      by_test (Takes k) (num == st.number) (payload (begun m st len num) at n) (refuse 3 (closed st))
      (λ _. payload_takes (begun m st len num) at n k e (omega arith))
      (λ _. refuse_takes k 3 (closed st))

headed_takes : (m : ℕ) (st : Stream) (len num at n k : ℕ) → at + n ≡ k → 0 < at → Takes k (headed m st len num at n)
unfolding headed
headed_takes m st len num at n k e g =
    by_test (Takes k) (len == 0) (numbered m st 0 num at n) _ (λ _. numbered_takes m st 0 num at n k e g)
    (λ _. by_test (Takes k) (nat_lt st.limit (st.taken + len)) (refuse 2 (closed st)) (numbered m st len num at n)
    (λ _. refuse_takes k 2 (closed st))
    (λ _. numbered_takes m st len num at n k e g))

header_takes : (m : ℕ) (st : Stream) (u : List ℕ) → Takes (length u) (header m st u (kept st ++ u))
unfolding header
header_takes m st u =
    let h = kept st ++ u in
    let all = length-append (kept st) u in
    let few = kept-most st in
    by_test (Takes (length u)) (nat_lt (length h) 4) (asks (length u) (keeping st h)) _
    (λ _. asks_takes (length u) (length u) (keeping st h) (omega arith) (λ l. l))
    (λ t. let l = ltb-false (length h) 4 t in
    headed_takes m st (le_at h 0 3) (slice_index h 3) (4 - length (kept st)) (length h - 4) (length u) (omega arith) (omega arith))

pub pass_takes : (m : ℕ) (st : Stream) (u : List ℕ) → Takes (length u) (pass m st u)
unfolding pass
pass_takes m st u =
    by_test (Takes (length u)) st.closed (refuse 7 st) _ (λ _. refuse_takes (length u) 7 st)
    (λ _. by_test (Takes (length u)) (length u == 0) (asks 0 st) _
    (λ t. let z = eqb-true (length u) 0 t in asks_takes (length u) 0 st (omega arith) (λ l. omega arith))
    (λ _. by_test (Takes (length u)) (st.left == 0) (header m st u (kept st ++ u)) (payload st 0 (length u))
    (λ _. header_takes m st u)
    (λ t. payload_takes st 0 (length u) (length u) (omega arith) (omega (arith, eqb-false st.left 0 t)))))

-- ---- what an answer says determines it

piece_same : {at at' len len' : ℕ} {ends ends' : Bool} → at ≡ at' → len ≡ len' → ends ≡ ends'
    → ◌≡◌ {A = Piece} (record { at = at; len = len; ends = ends }) (record { at = at'; len = len'; ends = ends' })
piece_same e f g = rw (e, f, g)

pub answer_same : (a a' : Result (Option Piece) Refusal) → answer_said a ≡ answer_said a' → a ≡ a'
answer_same (Ok None) (Ok None) e = refl
answer_same (Ok None) (Ok (Some p)) e = cc e
answer_same (Ok None) (Err r) e = cc e
answer_same (Ok (Some p)) (Ok None) e = cc e
answer_same (Ok (Some p)) (Ok (Some q)) e = ap (λ (x : Piece). Ok (Some x)) (piece_same (cc e) (cc e) (cc e))
answer_same (Ok (Some p)) (Err r) e = cc e
answer_same (Err r) (Ok None) e = cc e
answer_same (Err r) (Ok (Some p)) e = cc e
answer_same (Err r) (Err r') e = ap Err (number_same r r' (cc e))
