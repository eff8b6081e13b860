-- The state of a straight-through reader: how its bytes are read and put, and what a closed one answers.
use Rattle.std.proofs.Common.{◌≡◌, ℕ, ◌≤◌, Bool, true, eqb, List, [], ◌∷◌, ◌++◌, length, get_or, set, refl, arith, length-append, le-ltb}
use lib.Seq.{sets-eq}
use mir.Val.{bool_byte}
use Rattle.wire.specs.Le.{le_at, le_bytes}
use Rattle.wire.specs.LeLaws.{le_length}
use Rattle.wire.specs.Room.{patch}
use Rattle.chunk.specs.Chunks.{largest}
use Rattle.stream.specs.StreamLaws.{pass-closed}
use Rattle.stream.specs.declared.Stream.{Stream}
use Rattle.mishkeldur.specs.Face.{flag_no}
use Rattle.mishkeldur.specs.Streams.{stream_mark, shut, stream_of, stream_bytes, holding, Passes}
use Rattle.mishkeldur.proofs.FaceLaws.{flag_no_lem}
use Rattle.mishkeldur.proofs.StoreLaws.{further}

-- ---- a state's bytes

pub stream_loaded : (s : List ℕ) {l t n : ℕ} {k : Bool} → k ≡ shut (get_or s 0 0) (get_or s 1 0)
    → l ≡ le_at s 8 8 → t ≡ le_at s 16 8 → n ≡ le_at s 24 8
    → ◌≡◌ {A = Stream} (record {
      limit = l;
      taken = t;
      left = n;
      got = get_or s 4 0;
      first = get_or s 5 0;
      second = get_or s 6 0;
      third = get_or s 7 0;
      number = get_or s 2 0;
      full = eqb (get_or s 3 0) 1;
      closed = k;
    }) (stream_of s)
unfolding stream_of
stream_loaded s d e f g = rw (d, e, f, g) refl

pub stream_stored : (s : List ℕ) (st : Stream) {l₁ l₂ l₃ : List ℕ} → 32 ≤ length s
    → l₁ ≡ patch (set (set (set (set (set (set (set (set s 0 stream_mark) 1 (bool_byte st.closed)) 2 st.number) 3 (bool_byte st.full))
    4 st.got) 5 st.first) 6 st.second) 7 st.third) 8 (le_bytes 8 st.limit)
    → l₂ ≡ patch l₁ 16 (le_bytes 8 st.taken) → l₃ ≡ patch l₂ 24 (le_bytes 8 st.left) → l₃ ≡ holding s st
unfolding stream_bytes
stream_stored s st {l₁} {l₂} {l₃} h p₁ p₂ p₃ =
    let b₀ : List ℕ =
    stream_mark ∷ flag_no st.closed ∷ st.number ∷ flag_no st.full ∷ st.got ∷ st.first ∷ st.second ∷ st.third ∷ [] in
    let b₁ = b₀ ++ le_bytes 8 st.limit in
    let b₂ = b₁ ++ le_bytes 8 st.taken in
    let n₁ : length b₁ ≡ 16 = simp (length-append, le_length) in
    let n₂ : length b₂ ≡ 24 = simp (length-append, le_length) in
    let q₁ = rw (flag_no_lem st.closed, flag_no_lem st.full) at p₁ in
    let r₁ = further s b₀ 8 st.limit refl (omega arith) (sets-eq b₀ s 0 (omega arith)) q₁ in
    let r₂ = further s b₁ 16 st.taken n₁ (omega arith) r₁ p₂ in
    further s b₂ 24 st.left n₂ (omega arith) r₂ p₃

-- ---- a closed state answers 7, and stays as it is

pub passes_closed : (s u : List ℕ) (a n m r : ℕ) → 64 ≤ length s → (stream_of s).closed ≡ true → r ≡ 7 → Passes s u a n m r s 0 a n m
passes_closed s u a n m r h z f =
    let w = pass-closed largest (stream_of s) u z in
    record {
      status = rw (le-ltb (length s) 64 h, w) f;
      used = rw (le-ltb (length s) 64 h, w) refl;
      place = rw (le-ltb (length s) 64 h, w) refl;
      len = rw (le-ltb (length s) 64 h, w) refl;
      ends = rw (le-ltb (length s) 64 h, w) refl;
      state = rw (le-ltb (length s) 64 h, z) refl;
    }
