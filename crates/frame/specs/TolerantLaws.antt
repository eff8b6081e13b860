-- A plain reader that accepts one number more reads what the strict one reads, where that does not refuse with 3. And no plain reader
-- changes the limit.
use Rattle.std.specs.Prelude.{◌≡◌, ℕ, zero, suc, ◌+◌, ◌<◌, true, false, List, length, drop, ◌==◌, ◌≢◌, nat_lt, slice_index, slice_index_or, Option, Some, None}
use Rattle.std.proofs.Math.Path.{refl, sym}
use Rattle.std.proofs.Common.{◌∙◌, le-ltb}
use native.Mathlib.Omega.{arith}
use Rattle.std.proofs.Math.Decide.{dec_le}
use Rattle.wire.specs.Le.{le_at}
use Rattle.chunk.specs.Read.{need_more, refused, Held, none, held, held_of, Done, Turned, closed, holding, accepted, stop, took, chunk_at, headed}
use Rattle.chunk.specs.Read.{turn_from, turn_of, turns, opened, later}
use Rattle.chunk.specs.ReadLaws.{by_test, took_more, took_last, chunk-short, chunk_sync, headed_empty, headed_large, headed_held, turn_short}
use Rattle.chunk.specs.ReadLaws.{turn_headed, turn_held}
use Rattle.chunk.specs.declared.PlainPacketCodec.{PlainPacketCodec}

accepts : (x : Option ℕ) (want num : ℕ) → (num == want) ≡ true → accepted x want num ≡ true
accepts None want num e = e
accepts (Some y) want num e = rw e

-- it does not refuse with 3
abbrev Fine : Turned → Type 0
Fine t = t.more ≡ false → t.done.answer ≢ refused 3

module _ (m : ℕ) (x : Option ℕ) (u b : List ℕ) where
  chunk_tolerant : (st : PlainPacketCodec) (len num : ℕ) → Fine (chunk_at m None st len num u b) → chunk_at m x st len num u b ≡ chunk_at m None st len num u b
  unfolding chunk_at
  chunk_tolerant st len num f =
      elim (dec_le (len + 4) (length u)) [
        | yes h ↦
            elim (num == st.number) as (λ k. (num == st.number) ≡ k → chunk_at m x st len num u b ≡ chunk_at m None st len num u b) [
              | true ↦ λ e. rw (le-ltb _ _ h, accepts x st.number num e, e)
              | false ↦ λ e. absurd (let z = chunk_sync m None st len num u b h e in f (rw z) (rw z))
            ] refl
        | no h ↦ let s : length u < len + 4 = omega arith in chunk-short m x st len num u b s ∙ sym (chunk-short m None st len num u b s)
      ]

  headed_tolerant : (st : PlainPacketCodec) (len num : ℕ) → Fine (headed m None st len num u b) → headed m x st len num u b ≡ headed m None st len num u b
  headed_tolerant st len num f =
      elim (dec_le len 0) [
        | yes z ↦
            let n : len ≡ 0 = omega arith in
            let e = headed_empty m None st len num u b n in
            headed_empty m x st len num u b n ∙ chunk_tolerant st 0 num (rw e at f) ∙ sym e
        | no z ↦
            let n : len ≡ 0 → ⊥ = λ y. z (omega arith) in
            elim (dec_le (st.taken + len) st.limit) [
              | yes l ↦ let e = headed_held m None st len num u b n l in headed_held m x st len num u b n l ∙ chunk_tolerant
                  (holding st len num) len num (rw e at f) ∙ sym e
              | no l ↦ let l' : st.limit < st.taken + len = omega arith in headed_large m x st len num u b n l' ∙ sym
                  (headed_large m None st len num u b n l')
            ]
      ]

  from_tolerant : (st : PlainPacketCodec) (h : Held) → held_of st ≡ h → Fine (turn_of m None st u b) → turn_of m x st u b ≡ turn_of m None st u b
  from_tolerant st none e f =
      elim (dec_le 4 (length u)) [
        | yes h ↦ let z = turn_headed m None st u b e h in turn_headed m x st u b e h ∙ headed_tolerant st (le_at u 0 3) (slice_index u 3) (rw z at f) ∙ sym z
        | no h ↦ let h' : length u < 4 = omega arith in turn_short m x st u b e h' ∙ sym (turn_short m None st u b e h')
      ]
  from_tolerant st (held len num) e f = let z = turn_held m None st u b len num e in turn_held m x st u b len num e ∙ chunk_tolerant st len num
      (rw z at f) ∙ sym z

  turn_tolerant : (st : PlainPacketCodec) → Fine (turn_of m None st u b) → turn_of m x st u b ≡ turn_of m None st u b
  turn_tolerant st f = from_tolerant st (held_of st) refl f

turns_tolerant : (f m : ℕ) (x : Option ℕ) (st : PlainPacketCodec) (u b : List ℕ) → ((turns f m None st u b).answer ≢ refused 3)
    → turns f m x st u b ≡ turns f m None st u b
unfolding turns
turns_tolerant zero m x st u b h = refl
turns_tolerant (suc f) m x st u b h =
    let t = turn_of m None st u b in
    elim t.more as (λ k. t.more ≡ k → turns (suc f) m x st u b ≡ turns (suc f) m None st u b) [
      | true ↦ λ e.
          let z : turn_of m x st u b ≡ t = turn_tolerant m x u b st
          (λ g _. (let y : true ≡ false = sym e ∙ g in let q : ◌≡◌ {A = ℕ} 0 1 = cc y in omega arith)) in
          let i = turns_tolerant f m x t.done.next (drop t.done.used u) t.done.buf (λ y. h (rw e y)) in
          rw (z, e, i)
      | false ↦ λ e. let z : turn_of m x st u b ≡ t = turn_tolerant m x u b st (λ _ y. h (rw e y)) in rw (z, e)
    ] refl

pub tolerant : (m : ℕ) (x : Option ℕ) (st : PlainPacketCodec) (u b : List ℕ) → ((opened m None st u b).answer ≢ refused 3)
    → opened m x st u b ≡ opened m None st u b
unfolding opened
tolerant m x st u b h = turns_tolerant (suc (length u)) m x st u b h

-- ---- the limit stays

abbrev Same : PlainPacketCodec → Turned → Type 0
Same st t = t.done.next.limit ≡ st.limit

chunk_limit : (m : ℕ) (x : Option ℕ) (st st' : PlainPacketCodec) (len num : ℕ) (u b : List ℕ) → st'.limit ≡ st.limit → Same st (chunk_at m x st' len num u b)
unfolding chunk_at took
chunk_limit m x st st' len num u b l =
    by_test (Same st) (nat_lt (length u) (len + 4)) (stop need_more st' b) _ (λ _. l)
    (λ _. by_test (Same st) (accepted x st'.number num) _ (stop (refused 3) (closed st') b)
    (λ _. by_test (Same st) (nat_lt (length b) (st'.taken + len)) (stop (refused 6) st' b) _ (λ _. l)
    (λ _. by_test (Same st) (len == m) (took_more st' len num u b) (took_last st' len num u b) (λ _. l) (λ _. l)))
    (λ _. l))

from_limit : (m : ℕ) (x : Option ℕ) (st : PlainPacketCodec) (h : Held) (u b : List ℕ) → Same st (turn_from m x st h u b)
unfolding turn_from headed
from_limit m x st none u b =
    let len : ℕ = le_at u 0 3 in
    let num : ℕ = slice_index_or u 3 0 in
    by_test (Same st) (nat_lt (length u) 4) (stop need_more st b) _ (λ _. refl)
    (λ _. by_test (Same st) (len == 0) _ _ (λ _. chunk_limit m x st st 0 num u b refl)
    (λ _. by_test (Same st) (nat_lt st.limit (st.taken + len)) (stop (refused 2) (closed st) b) _ (λ _. refl)
    (λ _. chunk_limit m x st (holding st len num) len num u b refl)))
from_limit m x st (held len num) u b = chunk_limit m x st st len num u b refl

turn_limit : (m : ℕ) (x : Option ℕ) (st : PlainPacketCodec) (u b : List ℕ) → Same st (turn_of m x st u b)
unfolding turn_of
turn_limit m x st u b = from_limit m x st (held_of st) u b

turns_limit : (f m : ℕ) (x : Option ℕ) (st : PlainPacketCodec) (u b : List ℕ) → (turns f m x st u b).next.limit ≡ st.limit
unfolding turns
turns_limit zero m x st u b = refl
turns_limit (suc f) m x st u b =
    let t = turn_of m x st u b in
    let k : t.done.next.limit ≡ st.limit = turn_limit m x st u b in
    by_test (λ (d : Done). d.next.limit ≡ st.limit) t.more
    (later t.done.used (turns f m x t.done.next (drop t.done.used u) t.done.buf)) t.done
    (λ _. turns_limit f m x t.done.next (drop t.done.used u) t.done.buf ∙ k)
    (λ _. k)

pub opened_limit : (m : ℕ) (x : Option ℕ) (st : PlainPacketCodec) (u b : List ℕ) → (opened m x st u b).next.limit ≡ st.limit
unfolding opened
opened_limit m x st u b = turns_limit (suc (length u)) m x st u b
