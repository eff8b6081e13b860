-- What was kept in a stream's state is read back from it; and a state that no opening of a stream has made is closed, a codec's too.
use Rattle.std.specs.Prelude.{◌≡◌, ℕ, ◌^◌, ◌<◌, Bool, true, false, cond, List, length, ◌≢◌, slice_index, refl}
use Rattle.std.proofs.Common.{length-append, ne_eqb}
use Rattle.wire.specs.Le.{le_bytes}
use Rattle.wire.specs.LeLaws.{le_length}
use Rattle.frame.specs.declared.PacketCodec.{PacketCodec}
use Rattle.stream.specs.declared.Stream.{Stream}
use Rattle.mishkeldur.specs.State.{codec_of, state_bytes, keeping}
use Rattle.mishkeldur.specs.StateLaws.{eight, flag_back}
use Rattle.mishkeldur.specs.Streams.{stream_mark, shut, stream_of, stream_bytes, holding}

-- a state takes 32 bytes
pub length_stream : (st : Stream) → length (stream_bytes st) ≡ 32
unfolding stream_bytes
length_stream st = simp (length-append, le_length)

-- a state whose first byte is not the mark is closed: one of zeros is
pub foreign_stream : (s : List ℕ) → (slice_index s 0 ≢ stream_mark) → (stream_of s).closed ≡ true
unfolding stream_of shut
foreign_stream s n = simp (ne_eqb (slice_index s 0) stream_mark n)

-- a codec's state, open or closed, is a closed stream, and a stream's a closed codec
shut_by_lem : (b : Bool) (k : ℕ) → shut (cond b 0 0x4B) k ≡ true
unfolding shut
shut_by_lem true k = refl
shut_by_lem false k = refl

pub codec_no_stream : (s : List ℕ) (c : PacketCodec) → (stream_of (keeping s c)).closed ≡ true
unfolding stream_of state_bytes
codec_no_stream s c = shut_by_lem c.closed c.number

pub stream_no_codec : (s : List ℕ) (st : Stream) → (codec_of (holding s st)).closed ≡ true
unfolding codec_of stream_bytes
stream_no_codec s st = refl

closed_back : (b : Bool) → shut stream_mark (cond b 1 0) ≡ b
unfolding shut
closed_back true = refl
closed_back false = refl

pub stream_back : (s : List ℕ) (st : Stream) → st.limit < 2 ^ 64 → st.taken < 2 ^ 64 → st.left < 2 ^ 64 → stream_of (holding s st) ≡ st
unfolding stream_of stream_bytes le_bytes
stream_back s st l t n =
    rw (eight st.limit l, eight st.taken t, eight st.left n, flag_back st.full, closed_back st.closed) refl
