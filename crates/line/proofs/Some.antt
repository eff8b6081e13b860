-- There are functions that meet the two contracts on all bytes and states, so that no theorem over `Decodes` or `Encodes` is empty.
use Rattle.std.specs.Prelude.{Result, Ok, Err, Option, Some, None}
use Prim.Native.Nat.{ℕ, ◌+◌}
use mathlib.Core.Path.{◌≡◌, refl, ap}
use mathlib.Core.Bool.{cond}
use mathlib.Core.List.{List}
use lib.Dec.{ltb, eqb}
use lib.ListN.{length, get_or}
use Rattle.refusal.specs.Said.{Said, gives, said_of}
use Rattle.refusal.specs.Said as R
use Rattle.refusal.specs.declared.Refusal.{Refusal}
use Rattle.refusal.specs.declared.Refusal.TheVariants.{TooLarge, OutOfSync, NoRoom, Closed}
use Rattle.wire.specs.Le.{le_at}
use Rattle.chunk.specs.Chunks.{largest, needed}
use Rattle.chunk.specs.Read.{closed, holding, Held, none, held, held_of, Answered, need_more, packet, refused, answer_said, Done, Turned, stop, accepted}
use Rattle.chunk.specs.Read.{took, chunk_at, headed, turn_from, turn_of, opened, read}
use Rattle.chunk.specs.ReadLaws.{by_test, took_more, took_last, opened-stop, opened_more}
use Rattle.chunk.specs.ResumeLaws.{by_turns}
use Rattle.chunk.specs.Write.{Sent, write, unsent}
use Rattle.chunk.specs.WriteLaws.{sent}
use Rattle.chunk.specs.declared.PlainPacketCodec.{PlainPacketCodec}
use Rattle.line.specs.Code.{Decoder, Decodes, Encoder, Encodes}

abbrev named : ℕ → Refusal
named n = cond (eqb n 2) TooLarge (cond (eqb n 3) OutOfSync (cond (eqb n 6) NoRoom Closed))

abbrev answer_of : Answered → Result (Option ℕ) Refusal
answer_of need_more = Ok None
answer_of (packet n) = Ok (Some n)
answer_of (refused k) = Err (named k)

-- an answer that has a name
abbrev Named : Answered → Type 0
Named a = answer_said (answer_of a) ≡ a

abbrev NamedTurn : Turned → Type 0
NamedTurn t = Named t.done.answer

module _ (m : ℕ) (x : Option ℕ) where
  chunk-named : (st : PlainPacketCodec) (len num : ℕ) (u b : List ℕ) → NamedTurn (chunk_at m x st len num u b)
  unfolding chunk_at took
  chunk-named st len num u b =
      by_test NamedTurn (ltb (length u) (len + 4)) (stop need_more st b) _ (λ _. refl)
      (λ _. by_test NamedTurn (accepted x st.number num) _ (stop (refused 3) (closed st) b)
      (λ _. by_test NamedTurn (ltb (length b) (st.taken + len)) (stop (refused 6) st b) (took m st len num u b) (λ _. refl)
      (λ _. by_test NamedTurn (eqb len m) (took_more st len num u b) (took_last st len num u b) (λ _. refl) (λ _. refl)))
      (λ _. refl))

  from_named : (st : PlainPacketCodec) (d : Held) (u b : List ℕ) → NamedTurn (turn_from m x st d u b)
  unfolding turn_from headed
  from_named st none u b =
      by_test NamedTurn (ltb (length u) 4) (stop need_more st b) _ (λ _. refl)
      (λ _. by_test NamedTurn (eqb (le_at u 0 3) 0) _ _ (λ _. chunk-named st 0 (get_or u 3 0) u b)
      (λ _. by_test NamedTurn (ltb st.limit (st.taken + le_at u 0 3)) (stop (refused 2) (closed st) b) _ (λ _. refl)
      (λ _. chunk-named (holding st (le_at u 0 3) (get_or u 3 0)) (le_at u 0 3) (get_or u 3 0) u b)))
  from_named st (held len num) u b = chunk-named st len num u b

  turn_named : (st : PlainPacketCodec) (u b : List ℕ) → NamedTurn (turn_of m x st u b)
  unfolding turn_of
  turn_named st u b = from_named st (held_of st) u b

  opened-named : (st : PlainPacketCodec) (u b : List ℕ) → Named (opened m x st u b).answer
  opened-named =
      by_turns (λ st u b. Named (opened m x st u b).answer) m x
      (λ st u b e. rw (opened-stop m x st u b e) (turn_named st u b))
      (λ st u b e ih. rw (opened_more m x st u b e) ih)

  read_named : (st : PlainPacketCodec) (u b : List ℕ) → Named (read m x st u b).answer
  unfolding read
  read_named st u b =
      by_test (λ (d : Done). Named d.answer) st.closed (record { answer = refused 7; used = 0; next = st; buf = b }) (opened m x st u b)
      (λ _. refl)
      (λ _. opened-named st u b)

pub some_decoder_lem : (f : Decoder) × Decodes f
some_decoder_lem = (
  record {
    answers = λ st u b. let d : Done = read largest None st u b in record { answer = answer_of d.answer; used = d.used; next = d.next };
    leaves = λ st u b. (read largest None st u b).buf;
  },
  λ st u b. let d : Done = read largest None st u b in
      ap (λ (a : Answered). record { answer = a; used = d.used; next = d.next; buf = d.buf }) (read_named largest None st u b),
)

abbrev put_of : Said ℕ → Result ℕ Refusal
put_of (gives n) = Ok n
put_of (R.refused k) = Err (named k)

write-named : (m : ℕ) (st : PlainPacketCodec) (p d : List ℕ) → said_of (put_of (write m st p d).said) ≡ (write m st p d).said
unfolding write
write-named m st p d =
    by_test (λ (s : Sent). said_of (put_of s.said) ≡ s.said) st.closed (unsent 7 st d) _ (λ _. refl)
    (λ _. by_test (λ (s : Sent). said_of (put_of s.said) ≡ s.said) (ltb st.limit (length p)) (unsent 2 st d) _ (λ _. refl)
    (λ _. by_test (λ (s : Sent). said_of (put_of s.said) ≡ s.said) (ltb (length d) (needed m (length p))) (unsent 6 st d) (sent m st p d)
    (λ _. refl) (λ _. refl)))

pub some_encoder_lem : (g : Encoder) × Encodes g
some_encoder_lem = (
  record {
    answers = λ st p d. let s : Sent = write largest st p d in record { put = put_of s.said; next = s.next };
    leaves = λ st p d. (write largest st p d).buf;
  },
  λ st p d. let s : Sent = write largest st p d in
      ap (λ (a : Said ℕ). record { said = a; next = s.next; buf = s.buf }) (write-named largest st p d),
)
