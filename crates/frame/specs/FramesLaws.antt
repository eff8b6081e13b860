-- Laws of a stream's frames: by whether the stream goes on behind the first one. No proof past these looks at the count.
use Rattle.std.specs.Prelude.{◌≡◌, ℕ, zero, suc, ◌+◌, ◌-◌, ◌<◌, ◌≤◌, List, [], ◌∷◌, ◌++◌, length, take, drop, refl}
use Rattle.std.proofs.Common.{ap, ◌∙◌, add-one, arith, length-append, length-take, length-drop, take_all}
use mathlib.Core.List.{flatten, append-nil}
use Rattle.std.proofs.Math.Nat.{div-eq_of_lt, div-eq-sub-div}
use Rattle.std.proofs.Math.Decide.{dec_le}
use Rattle.wire.specs.Le.{le_bytes}
use Rattle.chunk.specs.Chunks.{next}
use Rattle.frame.specs.Frames.{frame, ceil, split, numbered_frames, frames_of, frames, frames_need, frames_after}

-- ---- how many pieces

pub ceil_none : (c : ℕ) → ceil 0 c ≡ 0
unfolding ceil
ceil_none zero = refl
ceil_none (suc c) = div-eq_of_lt (omega arith)

pub ceil_last : (n c : ℕ) → 0 < n → n ≤ c → ceil n c ≡ 1
unfolding ceil
ceil_last n c h g =
    let z : 0 < c = omega arith in
    let l : c ≤ n + (c - 1) = omega arith in
    let e : n + (c - 1) - c < c = omega arith in
    rw (div-eq-sub-div z l, div-eq_of_lt e)

pub ceil_more : (n c : ℕ) → 0 < c → c < n → ceil n c ≡ suc (ceil (n - c) c)
unfolding ceil
ceil_more n c h g =
    let l : c ≤ n + (c - 1) = omega arith in
    let e : n + (c - 1) - c ≡ n - c + (c - 1) = omega arith in
    rw (div-eq-sub-div h l, add-one, e)

pub ceil-some : (n c : ℕ) → 0 < n → 0 < c → 0 < ceil n c
ceil-some n c h g =
    elim (dec_le n c) [
      | yes l ↦ rw (ceil_last n c h l) (omega arith)
      | no l ↦ rw (ceil_more n c g (omega arith)) (omega arith)
    ]

-- ---- the frames one by one

-- c bytes or less: one frame
pub frames_of_last : (c k : ℕ) (s : List ℕ) → 0 < length s → length s ≤ c → frames_of c k s ≡ frame k s ∷ []
unfolding frames_of split numbered_frames
frames_of_last c k s h g = rw (ceil_last (length s) c h g, take_all c s g)

-- more: a frame of c bytes, then the frames of the rest
pub frames_of_more : (c k : ℕ) (s : List ℕ) → 0 < c → c < length s → frames_of c k s ≡ frame k (take c s) ∷ frames_of c (next k) (drop c s)
unfolding frames_of split numbered_frames
frames_of_more c k s h g = rw (ceil_more (length s) c h g, length-drop)

-- ---- the bytes that they make

pub frames_last : (c k : ℕ) (s : List ℕ) → 0 < length s → length s ≤ c → frames c k s ≡ frame k s
unfolding frames flatten
frames_last c k s h g = ap flatten (frames_of_last c k s h g) ∙ append-nil (frame k s)

pub frames_more : (c k : ℕ) (s : List ℕ) → 0 < c → c < length s → frames c k s ≡ frame k (take c s) ++ frames c (next k) (drop c s)
unfolding frames flatten
frames_more c k s h g = ap flatten (frames_of_more c k s h g)

pub need_last : (c n : ℕ) → 0 < n → n ≤ c → frames_need c n ≡ n + 7
unfolding frames_need
need_last c n h g = rw (ceil_last n c h g)

pub need_more_lem : (c n : ℕ) → 0 < c → c < n → frames_need c n ≡ c + 7 + frames_need c (n - c)
unfolding frames_need
need_more_lem c n h g = rw (ceil_more n c h g) (omega arith)

pub frames-after_last : (c k n : ℕ) → 0 < n → n ≤ c → frames_after c k n ≡ next k
unfolding frames_after next
frames-after_last c k n h g = rw (ceil_last n c h g)

pub frames-after_more : (c k n : ℕ) → 0 < c → c < n → frames_after c k n ≡ frames_after c (next k) (n - c)
unfolding frames_after next
frames-after_more c k n h g = rw (ceil_more n c h g) (omega arith)

-- a frame's header, and its bytes behind it
abbrev pub frame_head : ℕ → ℕ → List ℕ
frame_head n k = le_bytes 3 n ++ (k ∷ []) ++ le_bytes 3 0

pub length_head : (n k : ℕ) → length (frame_head n k) ≡ 7
unfolding le_bytes
length_head n k = refl

pub frame_is : (k : ℕ) (p : List ℕ) → frame k p ≡ frame_head (length p) k ++ p
unfolding frame
frame_is k p = refl

pub length-frame : (k : ℕ) (p : List ℕ) → length (frame k p) ≡ length p + 7
length-frame k p = rw (frame_is k p, length-append, length_head) (omega arith)

-- "it needs T + 7·ceil(T / min(M, limit)) bytes": the frames are so many
length_go : (f c k : ℕ) (s : List ℕ) → 0 < c → 0 < length s → length s ≤ f → length (frames c k s) ≡ frames_need c (length s)
length_go zero c k s pos some h = absurd (omega arith)
length_go (suc f) c k s pos some h =
    elim (dec_le (length s) c) [
      | yes g ↦ rw (frames_last c k s some g, length-frame k s, need_last c (length s) some g)
      | no g ↦
          let q : length (take c s) ≡ c = rw length-take (omega arith) in
          rw (
            frames_more c k s pos (omega arith),
            length-append,
            length-frame,
            q,
            length_go f c (next k) (drop c s) pos (rw length-drop (omega arith)) (rw length-drop (omega arith)),
            length-drop,
            need_more_lem c (length s) pos (omega arith),
          )
    ]

pub length-frames : (c k : ℕ) (s : List ℕ) → 0 < c → 0 < length s → length (frames c k s) ≡ frames_need c (length s)
length-frames c k s pos some = length_go (length s) c k s pos some (omega arith)
