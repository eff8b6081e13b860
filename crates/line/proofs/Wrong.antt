-- Four wrong readers, each refused by the demand. The line is two packets of one byte, 1 and 2, from number 254 on, at piece size 3.
use Rattle.std.specs.Prelude.{None}
use Prim.Native.Nat.{ℕ, zero, suc, ◌≤◌, ◌<◌}
use mathlib.Core.Path.{◌≡◌, refl, ap}
use mathlib.Core.Bool.{cond}
use mathlib.Core.List.{List, [], ◌∷◌, flatten}
use native.Mathlib.Omega.{arith}
use lib.ListN.{length, drop, get_or, replicate}
use Rattle.wire.specs.Le.{le_of, le_bytes}
use Rattle.chunk.specs.Chunks.{next, chunk, cut, pieces, numbered, chunks_of, after}
use Rattle.chunk.specs.Read.{idle, Answered, need_more, packet, refused, Done, took, chunk_at, headed, turn_from, turn_of, turns, opened, read}
use Rattle.chunk.specs.declared.PlainPacketCodec.{PlainPacketCodec}
use Rattle.line.specs.Host.{Event, handed, refusal, Reader, Habit, calls_up_to, calls, serve}
use Rattle.line.specs.Arrivals.{arrived, Misplaced}
use Rattle.line.specs.Written.{written, complete, begun}
use Rattle.line.specs.Line.{End, Given, Line}
use Rattle.line.specs.Code.{called_of}

abbrev packets : List (List ℕ)
packets = (1 ∷ []) ∷ (2 ∷ []) ∷ []

abbrev room : List ℕ
room = 0 ∷ 0 ∷ 0 ∷ 0 ∷ []

-- the host lends the same buffer again, and does nothing else
abbrev plain_habit : (S : Type 0) → Habit S
plain_habit S = record { acts = λ st. st; lends = λ n d. d }

fits : (j : ℕ) → j < 2 → length (get_or packets j []) ≤ 4
fits zero h = omega arith
fits (suc zero) h = omega arith
fits (suc (suc j)) h = absurd (omega arith)

given : (S : Type 0) (a : List ℕ) → ((j : ℕ) → j < length a → get_or a j 0 < 2) → Given S 3 254 4 room (plain_habit S) packets a
unfolding written chunks_of numbered pieces cut after
given S a real = record { sent = record { start = omega arith; fit = fits; real = real }; room = omega arith; lent = λ n d h. h; acts = λ st. refl }

-- ---- both chunks come, in one piece

in_place_lem : (j : ℕ) → j < 2 → get_or (0 ∷ 1 ∷ []) j 0 ≡ j
in_place_lem zero h = refl
in_place_lem (suc zero) h = refl
in_place_lem (suc (suc j)) h = absurd (omega arith)

seen_of : (S : Type 0) → End S → List Event
seen_of S end = (serve end.reader (plain_habit S) 0 (end.idle 4 254) [] room ((1 ∷ 0 ∷ 0 ∷ 254 ∷ 1 ∷ 1 ∷ 0 ∷ 0 ∷ 255 ∷ 2 ∷ []) ∷ [])).events

must : (S : Type 0) (end : End S) → Line 3 S end → seen_of S end ≡ handed (1 ∷ []) ∷ handed (2 ∷ []) ∷ []
unfolding seen_of written chunks_of numbered pieces cut after chunk le_bytes next arrived flatten complete
must S end L =
    (L.in_place 254 4 room (plain_habit S) packets (0 ∷ 1 ∷ []) (given S (0 ∷ 1 ∷ []) (λ j h. omega (arith, in_place_lem j h))) in_place_lem
    ((1 ∷ 0 ∷ 0 ∷ 254 ∷ 1 ∷ 1 ∷ 0 ∷ 0 ∷ 255 ∷ 2 ∷ []) ∷ []) refl).0

-- ---- the first chunk is lost: the second in one piece, then an empty piece

lost : Misplaced (1 ∷ []) 0
lost = record { arrives = omega arith; before = λ j h. absurd (omega arith); off = λ e. omega arith; late = omega arith; early = omega arith }

lost_real : (j : ℕ) → j < 1 → get_or (1 ∷ []) j 0 < 2
lost_real zero h = omega arith
lost_real (suc j) h = absurd (omega arith)

then_of : (S : Type 0) → End S → List Event
then_of S end = (serve end.reader (plain_habit S) 0 (end.idle 4 254) [] room ((1 ∷ 0 ∷ 0 ∷ 255 ∷ 2 ∷ []) ∷ [] ∷ [])).events

must_not : (S : Type 0) (end : End S) → Line 3 S end → (n : ℕ) × (then_of S end ≡ refusal 3 ∷ replicate n (refusal 7))
unfolding then_of written chunks_of numbered pieces cut after chunk le_bytes next arrived flatten complete begun
must_not S end L =
    L.misplaced 254 4 room (plain_habit S) packets (1 ∷ []) (given S (1 ∷ []) lost_real) 0 lost 5 (omega arith) ((1 ∷ 0 ∷ 0 ∷ 255 ∷ 2 ∷ []) ∷ [] ∷ []) refl

-- ---- it refuses all

pub refuses_all : End PlainPacketCodec
refuses_all = record { reader = λ st u b. record { answer = refused 3; used = 0; next = st; buf = b }; idle = idle; number = λ st. st.number }

pub refuses_all_wrong : Line 3 PlainPacketCodec refuses_all → ⊥
unfolding refuses_all seen_of serve calls calls_up_to
refuses_all_wrong L = let e : ◌≡◌ {A = ℕ} 1 2 = ap length (must PlainPacketCodec refuses_all L) in omega arith

-- ---- right for its first packet, and then it waits for ever

pub data Once : Type 0 where
  live : PlainPacketCodec → Once
  spent : Once

once_by : Answered → PlainPacketCodec → Once
once_by need_more st = live st
once_by (refused k) st = live st
once_by (packet n) st = spent

once_reads : Reader Once
once_reads (live st) u b = let d : Done = read 3 None st u b in record {
  answer = d.answer;
  used = d.used;
  next = once_by d.answer
      d.next;
  buf = d.buf;
}
once_reads spent u b = record { answer = need_more; used = 0; next = spent; buf = b }

once_number : Once → ℕ
once_number (live st) = st.number
once_number spent = 0

pub once : End Once
once = record { reader = once_reads; idle = λ l k. live (idle l k); number = once_number }

pub once_wrong : Line 3 Once once → ⊥
unfolding once once_reads once_by seen_of serve calls calls_up_to read opened turns turn_of turn_from headed chunk_at took le_of next
once_wrong L = let e : ◌≡◌ {A = ℕ} 1 2 = ap length (must Once once L) in omega arith

-- ---- it copies nothing

pub copies_nothing : End PlainPacketCodec
copies_nothing = record {
  reader = λ st u b. let d : Done = read 3 None st u b in record { answer = d.answer; used = d.used; next = d.next; buf = b };
  idle = idle;
  number = λ st. st.number;
}

first_byte : List Event → ℕ
first_byte [] = 0
first_byte (handed p ∷ es) = get_or p 0 0
first_byte (refusal c ∷ es) = 0

pub copies_nothing_wrong : Line 3 PlainPacketCodec copies_nothing → ⊥
unfolding copies_nothing first_byte seen_of serve calls calls_up_to read opened turns turn_of turn_from headed chunk_at took le_of next
copies_nothing_wrong L = let e : ◌≡◌ {A = ℕ} 0 1 = ap first_byte (must PlainPacketCodec copies_nothing L) in omega arith

-- ---- it hands out what came although it has refused

pub hands_after : End PlainPacketCodec
hands_after = record {
  reader = λ st u b. cond st.closed (record { answer = packet 1; used = length u; next = st; buf = drop 4 u }) (called_of (read 3 None st u b));
  idle = idle;
  number = λ st. st.number;
}

has_packet : List Event → ℕ
has_packet [] = 0
has_packet (handed p ∷ es) = 1
has_packet (refusal c ∷ es) = has_packet es

none_handed : (n : ℕ) → has_packet (replicate n (refusal 7)) ≡ 0
unfolding has_packet
none_handed zero = refl
none_handed (suc n) = none_handed n

pub hands_after_wrong : Line 3 PlainPacketCodec hands_after → ⊥
unfolding hands_after has_packet then_of serve calls calls_up_to read opened turns turn_of turn_from headed chunk_at took le_of next
hands_after_wrong L =
    let e = must_not PlainPacketCodec hands_after L in
    let f : 1 ≡ has_packet (replicate e.0 (refusal 7)) = ap has_packet e.1 in
    omega (arith, none_handed e.0)
