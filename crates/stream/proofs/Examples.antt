-- What the straight-through reader makes of short inputs at m = 3, computed.
use Rattle.std.proofs.Common.{◌≡◌, ℕ, true, false, List, [], ◌∷◌, refl}
use Rattle.wire.specs.Le.{le_of}
use Rattle.chunk.specs.Chunks.{next}
use Rattle.stream.specs.Stream.{idle, closed, keeping, begun, further, ended, need_more, part, refuse, payload, numbered, headed, header, pass}
use Rattle.stream.specs.declared.Stream.{Stream}

-- a packet of one chunk in one piece, and a byte behind it
pub one_piece : pass 3 (idle 100 5) (2 ∷ 0 ∷ 0 ∷ 5 ∷ 0x41 ∷ 0x42 ∷ 9 ∷ []) ≡ record { answer = part 4 2 true; used = 6; next = idle 100 6 }
unfolding pass header headed numbered payload le_of next
one_piece = refl

-- the same, cut inside the header and inside the payload
pub cut-first : pass 3 (idle 100 5) (2 ∷ 0 ∷ []) ≡ record { answer = need_more; used = 2; next = keeping (idle 100 5) (2 ∷ 0 ∷ []) }
unfolding pass header
cut-first = refl

pub cut_second : pass 3 (keeping (idle 100 5) (2 ∷ 0 ∷ [])) (0 ∷ 5 ∷ 0x41 ∷ [])
    ≡ record { answer = part 2 1 false; used = 3; next = further (begun 3 (idle 100 5) 2 5) 1 }
unfolding pass header headed numbered payload le_of next
cut_second = refl

pub cut_third : pass 3 (further (begun 3 (idle 100 5) 2 5) 1) (0x42 ∷ 9 ∷ []) ≡ record { answer = part 0 1 true; used = 1; next = idle 100 6 }
unfolding pass payload next
cut_third = refl

-- length 0 is a packet
pub no_bytes : pass 3 (idle 100 5) (0 ∷ 0 ∷ 0 ∷ 5 ∷ []) ≡ record { answer = part 4 0 true; used = 4; next = idle 100 6 }
unfolding pass header headed numbered payload le_of next
no_bytes = refl

-- behind a chunk of 3 bytes the packet goes on, with an empty one here
abbrev within : Stream
within = ended (begun 3 (idle 100 254) 3 254)

pub full_first : pass 3 (idle 100 254) (3 ∷ 0 ∷ 0 ∷ 254 ∷ 0x41 ∷ 0x42 ∷ 0x43 ∷ 0 ∷ 0 ∷ 0 ∷ 255 ∷ [])
    ≡ record { answer = part 4 3 false; used = 7; next = within }
unfolding pass header headed numbered payload le_of next
full_first = refl

pub full_second : pass 3 within (0 ∷ 0 ∷ 0 ∷ 255 ∷ []) ≡ record { answer = part 4 0 true; used = 4; next = idle 100 0 }
unfolding pass header headed numbered payload le_of next
full_second = refl

-- 2 before 3: two bytes where the limit is one, and the number is wrong besides
pub large_first : pass 3 (idle 1 5) (2 ∷ 0 ∷ 0 ∷ 9 ∷ []) ≡ refuse 2 (closed (idle 1 5))
unfolding pass header headed le_of
large_first = refl

-- 3 at a complete header, before any payload
pub wrong_header : pass 3 (idle 100 5) (2 ∷ 0 ∷ 0 ∷ 9 ∷ []) ≡ refuse 3 (closed (idle 100 5))
unfolding pass header headed numbered le_of
wrong_header = refl

-- and then 7, whatever comes
pub then_closed : (u : List ℕ) → pass 3 (closed (idle 100 5)) u ≡ refuse 7 (closed (idle 100 5))
unfolding pass
then_closed u = refl
