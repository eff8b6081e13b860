-- Demand 3 is met by the plain reader at every piece size (`line`), and so by all code that meets the contract of `chunk::decode`
-- (`code_line`).
use Prim.Native.Nat.{ℕ, zero, suc, ◌+◌, ◌-◌, ◌*◌, ◌/◌, ◌%◌, ◌≤◌, ◌<◌}
use mathlib.Core.Path.{◌≡◌, refl, sym, ap, ◌∙◌, subst, fun_ext}
use mathlib.Core.Bool.{Bool, true, false}
use mathlib.Core.List.{List, [], ◌∷◌, ◌++◌, append-nil, append_assoc, flatten, map}
use native.Mathlib.Nat.{lt-div-mul-add}
use native.Mathlib.Omega.{arith}
use lib.Dec.{ltb}
use lib.ListN.{length, take, drop, get_or, take-append-drop, length-drop, length-take, length-append, replicate, get_or-append}
use lib.Seq.{take-suc, drop-cons, get_or-append-add, take-length}
use borrow.Author.Tests.{ltb-true, ltb-false}
use Rattle.chunk.specs.Chunks.{largest, next, chunk, cut, pieces, numbered, chunks_of, after}
use Rattle.chunk.specs.ChunksLaws.{length-chunk}
use Rattle.chunk.specs.Read.{idle}
use Rattle.chunk.specs.declared.PlainPacketCodec.{PlainPacketCodec}
use Rattle.line.specs.Host.{Event, handed, refusal, Reader, Habit, Host, joined, calls, serve}
use Rattle.line.specs.HostLaws.{refusing, calls_refused, serve_waits, serve_shut}
use Rattle.line.specs.Arrivals.{arrived, InPlace, Misplaced}
use Rattle.line.specs.Written.{count, written, writer, complete, begun}
use Rattle.line.specs.Line.{Given, refusal_of, Line}
use Rattle.line.specs.Code.{called_of, plain_end, Decoder, Decodes, code_end}
use Rattle.line.proofs.Plain.{steady, within, shut, calls_none, refusal_by, Shuts, shuts, chunk_shuts}
use Rattle.line.proofs.InPlace.{length-chunks_of, after_lt, after_add, take_past, Comes, comes, stream}

-- ---- chunk j of those written: its number and its payload

data Is (m k : ℕ) (c : List ℕ) : Type 0 where
  is : (p : List ℕ) → length p ≤ m → c ≡ chunk (k % 256) p → Is m k c

renumber : (m k k' : ℕ) (c : List ℕ) → k % 256 ≡ k' % 256 → Is m k c → Is m k' c
renumber m k k' c e (is p h q) = is p h (rw (← e) q)

cut_at : (q m k j : ℕ) (p : List ℕ) → length p < suc q * m → k < 256 → j < suc q → Is m (k + j) (get_or (numbered k (cut q m p)) j [])
unfolding numbered cut next
cut_at zero m k zero p hp hk hj = is p (omega arith) (ap (λ (y : ℕ). chunk y p) (omega arith))
cut_at zero m k (suc j) p hp hk hj = absurd (omega arith)
cut_at (suc q) m k zero p hp hk hj = is (take m p) (rw length-take (omega arith)) (ap (λ (y : ℕ). chunk y (take m p)) (omega arith))
cut_at (suc q) m k (suc j) p hp hk hj =
    renumber m (next k + j) (k + suc j) _ (omega arith) (cut_at q m (next k) j (drop m p) (rw length-drop (omega arith)) (omega arith) (omega arith))

past : (a c : List (List ℕ)) (j n : ℕ) → length a ≡ n → n ≤ j → get_or (a ++ c) j [] ≡ get_or c (j - n) []
past a c j n e h = let f : length a + (j - n) ≡ j = omega arith in rw f at (get_or-append-add a c (j - n) [])

packet_at : (m k : ℕ) (p : List ℕ) (ps : List (List ℕ)) (j : ℕ) (z : Bool) → ltb j (count m p) ≡ z → 0 < m → k < 256
    → (count m p ≤ j → Is m (after m k (length p) + (j - count m p)) (get_or (written m (after m k (length p)) ps) (j - count m p) []))
    → Is m (k + j) (get_or (written m k (p ∷ ps)) j [])
unfolding written chunks_of pieces
packet_at m k p ps j true e pos hk ih =
    let h : j < count m p = ltb-true j (count m p) e in
    rw (get_or-append (chunks_of m k p) (written m (after m k (length p)) ps) [] j (rw length-chunks_of h))
    (cut_at (length p / m) m k j p (omega (arith, lt-div-mul-add {a = length p} pos)) hk (omega arith))
packet_at m k p ps j false e pos hk ih =
    let h : count m p ≤ j = ltb-false j (count m p) e in
    rw (past (chunks_of m k p) (written m (after m k (length p)) ps) j (count m p) (length-chunks_of m k p) h)
    (renumber m (after m k (length p) + (j - count m p)) (k + j) _ (after_add m k j p h) (ih h))

written_at : (m k : ℕ) (ps : List (List ℕ)) (j : ℕ) → 0 < m → k < 256 → j < length (written m k ps) → Is m (k + j) (get_or (written m k ps) j [])
unfolding written
written_at m k [] j pos hk hj = absurd (omega arith)
written_at m k (p ∷ ps) j pos hk hj =
    packet_at m k p ps j (ltb j (count m p)) refl pos hk
    (λ h. written_at m (after m k (length p)) ps (j - count m p) pos (after_lt m k (length p))
    (omega (arith, length-append (chunks_of m k p) (written m (after m k (length p)) ps), length-chunks_of m k p)))

-- the writer's number: one more for each chunk
pub writer_is : (m k : ℕ) (ps : List (List ℕ)) → k < 256 → writer m k ps ≡ (k + length (written m k ps)) % 256
unfolding writer written after
writer_is m k [] hk = omega arith
writer_is m k (p ∷ ps) hk =
    writer_is m (after m k (length p)) ps (omega arith)
    ∙ omega (arith, length-append (chunks_of m k p) (written m (after m k (length p)) ps), length-chunks_of m k p)

-- ---- what arrives

arrived-append : (cs : List (List ℕ)) (a a' : List ℕ) → arrived cs (a ++ a') ≡ arrived cs a ++ arrived cs a'
unfolding arrived
arrived-append cs [] a' = refl
arrived-append cs (j ∷ a) a' = rw (arrived-append cs a a') (sym (append_assoc (get_or cs j []) (arrived cs a) (arrived cs a')))

arrived_from : (cs : List (List ℕ)) (o i : ℕ) (a : List ℕ) → i ≤ length a → o + i ≤ length cs → ((j : ℕ) → j < i → get_or a j 0 ≡ o + j)
    → arrived cs (take i a) ≡ flatten (take i (drop o cs))
unfolding arrived flatten
arrived_from cs o zero a hi ho h = refl
arrived_from cs o (suc i) [] hi ho h = absurd (omega arith)
arrived_from cs o (suc i) (y ∷ a) hi ho h =
    rw (drop-cons cs o [] (omega arith), arrived_from cs (suc o) i a (omega arith) (omega arith) (λ j hj. h (suc j) (omega arith) ∙ omega arith))
    (ap (λ (z : ℕ). get_or cs z [] ++ flatten (take i (drop (suc o) cs))) (h 0 (omega arith) ∙ omega arith))

-- arrivals in their places are the front of what was written
pub arrived_in_place : (cs : List (List ℕ)) (i : ℕ) (a : List ℕ) → i ≤ length a → i ≤ length cs → ((j : ℕ) → j < i → get_or a j 0 ≡ j) → arrived cs
    (take i a) ≡ flatten (take i cs)
arrived_in_place cs i a hi ho h = arrived_from cs 0 i a hi (omega arith) (λ j hj. h j hj ∙ omega arith)

pub reach : (n : ℕ) (a : List ℕ) (w : ℕ) → n ≤ length a → ((j : ℕ) → j < n → get_or a j 0 ≡ j) → ((j : ℕ) → j < length a → get_or a j 0 < w) → n ≤ w
reach zero a w hn h real = omega arith
reach (suc n) a w hn h real = omega (arith, h n (omega arith), real n (omega arith))

quiet : (ps : List (List ℕ)) → refusing (map handed ps) ≡ false
quiet [] = refl
quiet (p ∷ ps) = quiet ps

-- fewer than 256 places off: another number
far : (k i x : ℕ) → (x ≡ i → ⊥) → x < i + 256 → i < x + 256 → (k + x) % 256 ≡ (k + i) % 256 → ⊥
far k i x off late early e = off (omega arith)

-- ---- both halves

module _ (m : ℕ) (pos : 0 < m) (fits : m ≤ largest) (k l : ℕ) (b : List ℕ) (habit : Habit PlainPacketCodec) (ps : List (List ℕ)) (a : List ℕ)
    (G : Given PlainPacketCodec m k l b habit ps a) where
  abbrev r : Reader PlainPacketCodec
  r = (plain_end m).reader

  abbrev W : List (List ℕ)
  W = written m k ps

  data Served (h : Host PlainPacketCodec) (es : List Event) (k' : ℕ) : Type 0 where
    served : h.events ≡ es → h.state.number ≡ k' → Served h es k'

  -- the host on all the bytes at once, none out of place: nothing is left unread
  pub data Wholly (u : List ℕ) : Type 0 where
    wholly : (n' t : ℕ) (b' : List ℕ)
        → calls r habit 0 (idle l k) u b
        ≡ record {
          events = map handed (complete m ps (length a));
          packets = n';
          state = within l ((k + length a) % 256) t;
          unread = [];
          buffer = b';
        }
        → Wholly u

  wholly_by : (u : List ℕ) (t : ℕ) → Comes m habit l 0 (idle l k) u b (map handed (complete m ps (length a))) ((k + length a) % 256) t [] → Wholly u
  wholly_by u t (comes n' b' h c) =
      wholly n' t b' (c ∙ rw (calls_none m habit n' l ((k + length a) % 256) t b', append-nil (map handed (complete m ps (length a)))))

  pub all_in_place : InPlace a → Wholly (arrived W a)
  all_in_place h =
      let hn : length a ≤ length W = reach (length a) a (length W) (omega arith) h G.sent.real in
      let e : arrived W a ≡ flatten (take (length a) W) ++ [] =
      ap (arrived W) (sym (take-length a)) ∙ arrived_in_place W (length a) a (omega arith) hn h ∙ sym (append-nil (flatten (take (length a) W))) in
      rw e
      (wholly_by (flatten (take (length a) W) ++ []) (begun m ps (length a))
      (stream m habit pos fits l G.acts G.lent k ps (length a) 0 [] b G.sent.start G.sent.fit G.room hn))

  served_by : (cs : List (List ℕ)) (u : List ℕ) → flatten cs ≡ u → Wholly u
      → Served (serve r habit 0 (idle l k) [] b cs) (map handed (complete m ps (length a))) ((k + length a) % 256)
  served_by cs u e (wholly n' t b' c) =
      let all = rw (← e) at c in
      let s = serve_waits r habit (steady m) 0 (idle l k) [] b cs (calls_none m habit 0 l k 0 b) (rw all (quiet (complete m ps (length a)))) ∙ all in
      served (rw s) (rw s)

  in_place_lem : InPlace a → (cs : List (List ℕ)) → flatten cs ≡ arrived W a
      → Served (serve r habit 0 (idle l k) [] b cs) (map handed (complete m ps (length a))) ((k + length a) % 256)
  in_place_lem h cs e = served_by cs (arrived W a) e (all_in_place h)

  abbrev Refused : Host PlainPacketCodec → List Event → ℕ → Type 0
  Refused h es c = (n : ℕ) × (h.events ≡ es ++ (refusal c ∷ replicate n (refusal 7)))

  -- the host on all the bytes at once: the events es, and then a refusal that closes the reader
  sevens : (es : List Event) (c n' : ℕ) (st : PlainPacketCodec) (v b' : List ℕ) (cs : List (List ℕ)) → st.closed ≡ true
      → calls r habit 0 (idle l k) (flatten cs) b ≡ record { events = es ++ (refusal c ∷ []); packets = n'; state = st; unread = v; buffer = b' }
      → Refused (serve r habit 0 (idle l k) [] b cs) es c
  sevens es c n' st v b' cs z all =
      let f = serve_shut r habit (steady m) 0 (idle l k) [] b cs (calls_none m habit 0 l k 0 b) (rw all (shut m habit st z)) in
      (f.0, rw (f.1, all) (append_assoc es (refusal c ∷ []) (replicate f.0 (refusal 7))))

  shut_by_lem : (es : List Event) (k' t num : ℕ) (p x : List ℕ) (cs : List (List ℕ)) (u : List ℕ) → flatten cs ≡ u
      → Comes m habit l 0 (idle l k) u b es k' t (chunk num p ++ x) → length p ≤ m → (num ≡ k' → ⊥)
      → Refused (serve r habit 0 (idle l k) [] b cs) es (refusal_by l t (length p))
  shut_by_lem es k' t num p x cs u e (comes n' b' h c) hp other = go (chunk_shuts m l k' t num p x b' (omega arith) other)
    where
      go : Shuts m l k' t num p x b' → Refused (serve r habit 0 (idle l k) [] b cs) es (refusal_by l t (length p))
      go (shuts st z w) =
          sevens es (refusal_by l t (length p)) n' st (chunk num p ++ x) b' cs z
          (rw (e, c)
          (ap (joined es) (calls_refused r habit (steady m) n' (within l k' t) (chunk num p ++ x) b' _ (refusal_by l t (length p)) (ap called_of w) refl)))

  module _ (i : ℕ) (D : Misplaced a i) (t : ℕ) (ht : length (arrived W (take (suc i) a)) ≤ t) where
    abbrev w : List ℕ
    w = get_or W (get_or a i 0) []

    abbrev front : List ℕ
    front = arrived W (take (suc i) a)

    abbrev rest : List ℕ
    rest = take (t - length front) (arrived W (drop (suc i) a))

    hi : i ≤ length W
    hi = reach i a (length W) (omega (arith, D.arrives)) D.before G.sent.real

    front_is : front ≡ flatten (take i W) ++ w
    unfolding arrived
    front_is =
        ap (arrived W) (take-suc a i 0 D.arrives)
        ∙ arrived-append W (take i a) (get_or a i 0 ∷ [])
        ∙ rw (arrived_in_place W i a (omega (arith, D.arrives)) hi D.before, append-nil w)

    bytes : take t (arrived W a) ≡ flatten (take i W) ++ (w ++ rest)
    bytes =
        ap (take t) (ap (arrived W) (sym (take-append-drop (suc i) a)) ∙ arrived-append W (take (suc i) a) (drop (suc i) a))
        ∙ take_past front (arrived W (drop (suc i) a)) t (length front) refl ht
        ∙ ap (λ (z : List ℕ). z ++ rest) front_is
        ∙ append_assoc (flatten (take i W)) w rest

    misplaced_by : Is m (k + get_or a i 0) w → (cs : List (List ℕ)) → flatten cs ≡ take t (arrived W a)
        → Refused (serve r habit 0 (idle l k) [] b cs) (map handed (complete m ps i)) (refusal_of m k l ps a i)
    misplaced_by (is p hp q) cs e =
        let num : ℕ = (k + get_or a i 0) % 256 in
        let len : length w - 4 ≡ length p = omega (arith, ap length q, length-chunk num p) in
        rw len
        (shut_by_lem (map handed (complete m ps i)) ((k + i) % 256) (begun m ps i) num p rest cs (flatten (take i W) ++ (chunk num p ++ rest))
        (e ∙ bytes ∙ ap (λ (z : List ℕ). flatten (take i W) ++ (z ++ rest)) q)
        (stream m habit pos fits l G.acts G.lent k ps i 0 (chunk num p ++ rest) b G.sent.start G.sent.fit G.room hi)
        hp (far k i (get_or a i 0) D.off D.late D.early))

    misplaced : (cs : List (List ℕ)) → flatten cs ≡ take t (arrived W a)
        → Refused (serve r habit 0 (idle l k) [] b cs) (map handed (complete m ps i)) (refusal_of m k l ps a i)
    misplaced = misplaced_by (written_at m k ps (get_or a i 0) pos G.sent.start (G.sent.real i D.arrives))

  both : InPlace a → (cs : List (List ℕ)) → Served (serve r habit 0 (idle l k) [] b cs) (map handed (complete m ps (length a))) ((k + length a) % 256)
      → ((serve r habit 0 (idle l k) [] b cs).events ≡ map handed (complete m ps (length a)))
      × ((serve r habit 0 (idle l k) [] b cs).state.number < 256)
      × (((serve r habit 0 (idle l k) [] b cs).state.number + (length W - length a)) % 256 ≡ writer m k ps)
  both h cs (served e n) =
      let hn : length a ≤ length W = reach (length a) a (length W) (omega arith) h G.sent.real in
      (e, rw n (omega arith), rw (n, writer_is m k ps G.sent.start) (omega arith))

pub line : (m : ℕ) → 0 < m → m ≤ largest → Line m PlainPacketCodec (plain_end m)
line m pos fits = record {
  misplaced = λ k l b habit ps a G i D t ht cs e. misplaced m pos fits k l b habit ps a G i D t ht cs e;
  in_place = λ k l b habit ps a G h cs e. both m pos fits k l b habit ps a G h cs (in_place_lem m pos fits k l b habit ps a G h cs e);
}

-- ---- any code that meets the contract is the same reader

same_end : (f : Decoder) → Decodes f → plain_end largest ≡ code_end f
same_end f h =
    ap (λ (r : Reader PlainPacketCodec). record { reader = r; idle = idle; number = λ st. st.number })
    (fun_ext (λ st. fun_ext (λ u. fun_ext (λ b. ap called_of (sym (h st u b))))))

pub code_line : (f : Decoder) → Decodes f → Line largest PlainPacketCodec (code_end f)
code_line f h = subst (Line largest PlainPacketCodec) (same_end f h) (line largest (omega arith) (omega arith))
