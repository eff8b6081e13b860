-- A line worked out by computing: ABCDEFG and ABC in pieces of three from number 254 on, five chunks.
use Prim.Native.Nat.{ℕ}
use mathlib.Core.Path.{◌≡◌, refl}
use mathlib.Core.Bool.{false}
use mathlib.Core.List.{List, [], ◌∷◌, flatten}
use lib.ListN.{replicate}
use Rattle.wire.specs.Le.{le_of, le_bytes}
use Rattle.chunk.specs.Chunks.{next, chunk, cut, pieces, numbered, chunks_of, after}
use Rattle.chunk.specs.Read.{idle, took, chunk_at, headed, turn_from, turn_of, turns, opened, read}
use Rattle.chunk.specs.declared.PlainPacketCodec.{PlainPacketCodec}
use Rattle.stream.specs.Stream as S
use Rattle.line.specs.Host.{handed, refusal, Habit, calls_up_to, calls, serve}
use Rattle.line.specs.Arrivals.{arrived}
use Rattle.line.specs.Written.{written, writer, complete, begun}
use Rattle.line.specs.Line.{refusal_of}
use Rattle.line.specs.Code.{plain_end}
use Rattle.line.specs.Straight.{Watched, passes, watch}

abbrev abcdefg : List ℕ
abcdefg = 0x41 ∷ 0x42 ∷ 0x43 ∷ 0x44 ∷ 0x45 ∷ 0x46 ∷ 0x47 ∷ []

abbrev abc : List ℕ
abc = 0x41 ∷ 0x42 ∷ 0x43 ∷ []

abbrev both : List (List ℕ)
both = abcdefg ∷ abc ∷ []

-- a limit of 8 and a buffer of 8; after each packet another one is lent
abbrev habit : Habit PlainPacketCodec
habit = record { acts = λ st. st; lends = λ n d. 9 ∷ 9 ∷ 9 ∷ 9 ∷ 9 ∷ 9 ∷ 9 ∷ 9 ∷ [] }

abbrev buffer : List ℕ
buffer = 0 ∷ 0 ∷ 0 ∷ 0 ∷ 0 ∷ 0 ∷ 0 ∷ 0 ∷ []

abbrev serves : List ℕ → List (List ℕ) → Rattle.line.specs.Host.Host PlainPacketCodec
serves u cs = serve (plain_end 3).reader habit 0 (idle 8 254) u buffer cs

-- cut into single bytes
abbrev singles : List ℕ → List (List ℕ)
singles [] = []
singles (x ∷ xs) = (x ∷ []) ∷ singles xs

-- nothing is lost: both packets, byte by byte, and then the writer's number
pub all_come : serves [] (singles (arrived (written 3 254 both) (0 ∷ 1 ∷ 2 ∷ 3 ∷ 4 ∷ [])))
    ≡ record {
      events = handed abcdefg ∷ handed abc ∷ [];
      packets = 2;
      state = idle 8 (writer 3 254 both);
      unread = [];
      buffer = 9 ∷ 9 ∷ 9 ∷ 9 ∷ 9 ∷ 9 ∷ 9 ∷ 9 ∷ [];
    }
unfolding written writer arrived chunks_of numbered pieces cut after chunk le_bytes next flatten serve calls calls_up_to read opened turns turn_of turn_from
    headed chunk_at took le_of
all_come = refl

-- chunk 3, the first of ABC, is lost: the first packet, then 3 at chunk 4, which is empty, then 7 for each later piece
pub one_lost :
    ((serves [] (arrived (written 3 254 both) (0 ∷ 1 ∷ 2 ∷ 4 ∷ []) ∷ (1 ∷ []) ∷ [] ∷ [])).events ≡ handed abcdefg ∷ refusal 3 ∷ refusal 7 ∷ refusal 7 ∷ [])
    × (complete 3 both 3 ≡ abcdefg ∷ [])
    × (refusal_of 3 254 8 both (0 ∷ 1 ∷ 2 ∷ 4 ∷ []) 3 ≡ 3)
unfolding written writer complete begun arrived chunks_of numbered pieces cut after chunk le_bytes next flatten serve calls calls_up_to read opened turns
    turn_of turn_from headed chunk_at took le_of
one_lost = (refl, refl, refl)

-- chunk 1 comes twice: after six bytes of the packet three more are over the limit, which is 2, at its header
pub one_twice :
    ((serves [] (singles (arrived (written 3 254 both) (0 ∷ 1 ∷ 1 ∷ [])))).events ≡ refusal 2 ∷ refusal 7 ∷ refusal 7 ∷ refusal 7 ∷ [])
    × (complete 3 both 2 ≡ [])
    × (refusal_of 3 254 8 both (0 ∷ 1 ∷ 1 ∷ []) 2 ≡ 2)
unfolding written writer complete begun arrived chunks_of numbered pieces cut after chunk le_bytes next flatten serve calls calls_up_to read opened turns
    turn_of turn_from headed chunk_at took le_of
one_twice = (refl, refl, refl)

-- ---- each of the demand's bounds is sharp: one further, and the reader does something else

-- chunk 3 comes twice, at place 4, where the last chunk of ABC belongs: ABC is not handed out, and after three bytes of it three more
-- are within the limit, so that it is 3
pub last_one_twice :
    ((serves [] (arrived (written 3 254 both) (0 ∷ 1 ∷ 2 ∷ 3 ∷ 3 ∷ []) ∷ [])).events ≡ handed abcdefg ∷ refusal 3 ∷ [])
    × (complete 3 both 5 ≡ both)
    × (begun 3 both 4 ≡ 3)
unfolding written writer complete begun arrived chunks_of numbered pieces cut after chunk le_bytes next flatten serve calls calls_up_to read opened turns
    turn_of turn_from headed chunk_at took le_of
last_one_twice = (refl, refl, refl)

-- a byte before the misplaced chunk is complete there is no refusal
pub a_byte_early : (serves [] ((3 ∷ 0 ∷ 0 ∷ 255 ∷ 0x44 ∷ 0x45 ∷ []) ∷ [])).events ≡ []
unfolding written writer complete begun arrived chunks_of numbered pieces cut after chunk le_bytes next flatten serve calls calls_up_to read opened turns
    turn_of turn_from headed chunk_at took le_of
a_byte_early = refl

-- a packet one byte over the limit; a buffer one byte below the limit, and a packet of that length
pub a_byte_over :
    ((serve (plain_end 3).reader habit 0 (idle 6 254) [] buffer (flatten (written 3 254 both) ∷ [])).events ≡ refusal 2 ∷ [])
    × ((serve (plain_end 3).reader habit 0 (idle 7 254) [] (0 ∷ 0 ∷ 0 ∷ 0 ∷ 0 ∷ 0 ∷ []) (flatten (written 3 254 both) ∷ [])).events ≡ refusal 6 ∷ [])
unfolding written writer complete begun arrived chunks_of numbered pieces cut after chunk le_bytes next flatten serve calls calls_up_to read opened turns
    turn_of turn_from headed chunk_at took le_of
a_byte_over = (refl, refl)

-- 256 places off: the number comes again. Of 257 empty packets the last comes first, and is handed out
pub comes_again : (serves [] (arrived (written 3 254 (replicate 257 [])) (256 ∷ []) ∷ [])).events ≡ handed [] ∷ []
unfolding written writer complete begun arrived chunks_of numbered pieces cut after chunk le_bytes next flatten serve calls calls_up_to read opened turns
    turn_of turn_from headed chunk_at took le_of
comes_again = refl

-- ---- straight through

abbrev watches : List (List ℕ) → Watched
watches cs = watch (S.pass 3) (S.idle 8 254) [] cs

-- both packets byte by byte, cut inside headers and payload alike, with the parts of ABCDEFG joined
pub straight_all : watches (singles (arrived (written 3 254 both) (0 ∷ 1 ∷ 2 ∷ 3 ∷ 4 ∷ [])))
    ≡ record { events = handed abcdefg ∷ handed abc ∷ []; refusing = false; sofar = []; state = S.idle 8 3 }
unfolding written arrived chunks_of numbered pieces cut after chunk le_bytes next watch passes S.pass S.header S.headed S.numbered S.payload le_of
straight_all = refl

-- 3 at the header, where the waiting reader sees nothing a byte before the chunk is complete (`a_byte_early`)
pub straight_sooner : (watches ((3 ∷ 0 ∷ []) ∷ (0 ∷ 255 ∷ []) ∷ (0x44 ∷ []) ∷ [])).events ≡ refusal 3 ∷ []
unfolding watch passes S.pass S.header S.headed S.numbered S.payload next le_of
straight_sooner = refl

-- a header that is too large and has a wrong number: 2, as the waiting reader
pub straight_large :
    ((watches ((9 ∷ 0 ∷ 0 ∷ 255 ∷ []) ∷ [])).events ≡ refusal 2 ∷ [])
    × ((serves [] ((9 ∷ 0 ∷ 0 ∷ 255 ∷ []) ∷ [])).events ≡ refusal 2 ∷ [])
unfolding watch passes S.pass S.header S.headed le_of serve calls calls_up_to read opened turns turn_of turn_from headed
straight_large = (refl, refl)

-- the packet has not ended: its bytes are there, and nothing vouches for them
pub straight_so_far : (watches ((3 ∷ 0 ∷ 0 ∷ 254 ∷ 0x41 ∷ 0x42 ∷ 0x43 ∷ 2 ∷ 0 ∷ 0 ∷ 255 ∷ 0x44 ∷ []) ∷ [])).sofar ≡ 0x41 ∷ 0x42 ∷ 0x43 ∷ 0x44 ∷ []
unfolding watch passes S.pass S.header S.headed S.numbered S.payload next le_of
straight_so_far = refl
