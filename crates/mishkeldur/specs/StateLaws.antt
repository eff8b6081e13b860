-- What was kept in a state is read back from it, and a state that no opening has made is closed.
use Rattle.std.specs.Prelude.{◌≡◌, ℕ, ◌^◌, ◌<◌, Bool, true, false, cond, List, length, ◌==◌, ◌≢◌, slice_index, refl}
use Rattle.std.proofs.Common.{length-append, ne_eqb}
use Rattle.wire.specs.Le.{le_of, le_bytes}
use Rattle.wire.specs.LeLaws.{le_length}
use Rattle.wire.specs.LenEncLaws.{le_back}
use Rattle.frame.specs.declared.PacketCodec.{PacketCodec}
use Rattle.mishkeldur.specs.State.{mark, codec_of, state_bytes, keeping}

-- a codec takes 48 bytes
pub length_state : (c : PacketCodec) → length (state_bytes c) ≡ 48
unfolding state_bytes
length_state c = simp (length-append, le_length)

-- a state whose first byte is not the mark is closed: one of zeros is
pub foreign_is_closed : (s : List ℕ) → (slice_index s 0 ≢ mark) → (codec_of s).closed ≡ true
unfolding codec_of
foreign_is_closed s n = simp (ne_eqb (slice_index s 0) mark n)

-- a flag and the mark come back
pub flag_back : (b : Bool) → (cond b 1 0 == 1) ≡ b
flag_back true = refl
flag_back false = refl

mark_back : (b : Bool) → cond (cond b 0 mark == mark) false true ≡ b
mark_back true = refl
mark_back false = refl

-- a count comes back out of its eight bytes
pub eight : (v : ℕ) → v < 2 ^ 64 → le_of (le_bytes 8 v) ≡ v
eight v h = le_back 8 v h

pub back : (s : List ℕ) (c : PacketCodec) → c.limit < 2 ^ 64 → c.taken < 2 ^ 64 → c.len < 2 ^ 64 → c.unread < 2 ^ 64 → c.size < 2 ^ 64
    → codec_of (keeping s c) ≡ c
unfolding codec_of state_bytes le_bytes
back s c l t n u z =
    rw (
      eight c.limit l,
      eight c.taken t,
      eight c.len n,
      eight c.unread u,
      eight c.size z,
      flag_back c.waiting,
      flag_back c.held,
      flag_back c.framed,
      mark_back c.closed,
    )
    refl
