-- The writer's steps, over plain lists and numbers.
use Rattle.std.proofs.Common.{◌≡◌, ℕ, ◌+◌, ◌-◌, ◌*◌, ◌<◌, ◌≤◌, List, [], ◌∷◌, ◌++◌, length, take, drop, set, sym, refl, ap, ◌∙◌, append_assoc}
use Rattle.std.proofs.Math.Decide.{dec_le}
use Rattle.std.proofs.Math.Nat.{mul-add-div, div-eq-sub-div, div-eq_of_lt}
use Rattle.std.proofs.Common.{nat_lt, ◌/◌, ◌%◌, min, zero-add, arith, length-drop, length-take, take-take, take_at}
use borrow.Author.Tests.{ltb-true, ltb-false}
use Rattle.chunk.specs.ReadLaws.{by_test}
use Rattle.wire.specs.Le.{le_bytes}
use Rattle.wire.specs.LeLaws.{le_length}
use Rattle.wire.specs.Room.{patch}
use Rattle.wire.specs.RoomLaws.{patch-append, patch_cons, length-patch}
use Rattle.chunk.specs.Chunks.{largest, next, chunks, needed}
use Rattle.chunk.specs.ChunksLaws.{length-chunks}
use Rattle.frame.specs.Frames.{frame, ceil, frames, frames_need, frames_after}
use Rattle.frame.specs.FramesLaws.{ceil_last, ceil_more, ceil-some, frames_last, frames_more, frames-after_last}
use Rattle.frame.specs.FramesLaws.{frames-after_more, frame_head, length_head, frame_is, length-frame, length-frames}
use Rattle.frame.specs.Write.{piece_of, total}
use Rattle.frame.specs.WriteLaws.{piece_some}
use Rattle.frame.proofs.Moves.{take-patch, drop-patch, drop-take}

-- ---- one frame: its header, then its bytes

head_put : (d : List ℕ) (at k n : ℕ) (d₁ : List ℕ) → at + 7 ≤ length d → d₁ ≡ patch d at (le_bytes 3 n)
    → patch (set d₁ (at + 3) k) (at + 4) (le_bytes 3 0) ≡ patch d at (frame_head n k)
head_put d at k n d₁ h e =
    let hd : List ℕ = le_bytes 3 n in
    let z : List ℕ = le_bytes 3 0 in
    let l : length hd ≡ 3 = le_length 3 n in
    let lz : length z ≡ 3 = le_length 3 0 in
    let l₁ : length d₁ ≡ length d = ap length e ∙ length-patch d at hd (omega arith) in
    let s : at + 4 ≡ at + 3 + 1 = omega arith in
    ap (λ (j : ℕ). patch (set d₁ (at + 3) k) j z) s
    ∙ patch_cons d₁ (at + 3) k z (omega arith)
    ∙ ap (λ (x : List ℕ). patch x (at + 3) (k ∷ z)) e
    ∙ ap (λ (j : ℕ). patch (patch d at hd) (at + j) (k ∷ z)) (sym l)
    ∙ patch-append d at hd (k ∷ z) (omega arith)
    ∙ ap (patch d at) (sym (append_assoc hd (k ∷ []) z))

pub frame_put : (d : List ℕ) (at k from n : ℕ) (d₁ d₂ d₃ : List ℕ) → at + 7 ≤ from → from + n ≤ length d → d₁ ≡ patch d at (le_bytes 3 n)
    → d₂ ≡ patch (set d₁ (at + 3) k) (at + 4) (le_bytes 3 0) → d₃ ≡ patch d₂ (at + 7) (take n (drop from d₂))
    → d₃ ≡ patch d at (frame k (take n (drop from d)))
frame_put d at k from n d₁ d₂ d₃ h r e₁ e₂ e₃ =
    let hd : List ℕ = frame_head n k in
    let q : List ℕ = take n (drop from d) in
    let l : length hd ≡ 7 = length_head n k in
    let lq : length q ≡ n = rw (length-take, length-drop) (omega arith) in
    let w : d₂ ≡ patch d at hd = e₂ ∙ head_put d at k n d₁ (omega arith) e₁ in
    let s : drop from d₂ ≡ drop from d = ap (drop from) w ∙ drop-patch d at hd from (omega arith) (omega (arith, l)) in
    e₃
    ∙ ap (λ (x : List ℕ). patch d₂ (at + 7) (take n x)) s
    ∙ ap (λ (x : List ℕ). patch x (at + 7) q) w
    ∙ ap (λ (j : ℕ). patch (patch d at hd) (at + j) q) (sym l)
    ∙ patch-append d at hd q (omega (arith, l, lq))
    ∙ ap (λ (j : ℕ). patch d at (frame_head j k ++ q)) (sym lq)
    ∙ ap (patch d at) (sym (frame_is k q))

-- ---- the loop: `out` bytes of frames stand at the front, the bytes still to be framed stand `from` on, and the frames of those behind
-- the ones that are there give the whole. What lies between is not mentioned

pub record Head (d₀ : List ℕ) (k₀ total c : ℕ) (d : List ℕ) (left out from k : ℕ) : Type 0 where
  pub same : length d ≡ length d₀
  pub piece : 0 < c
  pub some : 0 < left
  pub counted : from ≡ out + 7 * ceil left c
  pub front : out + 7 ≤ from
  pub reaches : from + left ≡ frames_need c total
  pub enough : frames_need c total ≤ length d₀
  pub number : frames_after c k left ≡ frames_after c k₀ total
  pub behind : drop (from + left) d ≡ drop (frames_need c total) d₀
  pub all : take out d ++ frames c k (take left (drop from d)) ≡ frames c k₀ (take total (drop (7 * ceil total c) d₀))

pub head_first : (d : List ℕ) (k total c count : ℕ) → 0 < c → 0 < total → count ≡ ceil total c → total + 7 * count ≤ length d
    → Head d k total c d total 0 (7 * count) k
unfolding frames_need
head_first d k total c count h g e r = record {
  same = refl;
  piece = h;
  some = g;
  counted = rw e (omega arith);
  front = rw e (omega (arith, ceil-some total c g h));
  reaches = rw e (omega arith);
  enough = omega (arith, e);
  number = refl;
  behind = rw e (let n : 7 * ceil total c + total ≡ total + 7 * ceil total c = omega arith in rw n);
  all = rw e;
}

module _ (d₀ : List ℕ) (k₀ total c : ℕ) (d : List ℕ) (left out from k : ℕ) (h : Head d₀ k₀ total c d left out from k) where
  -- the frame of the next n bytes
  abbrev f : ℕ → List ℕ
  f n = frame k (take n (drop from d))

  f_long : (n : ℕ) → n ≤ left → length (f n) ≡ n + 7
  f_long n l = rw (length-frame, length-take, length-drop) (omega (arith, h.reaches, h.enough, h.same))

  out_fits : out ≤ length d
  out_fits = omega (arith, h.front, h.reaches, h.enough, h.same)

  rest_long : length (take left (drop from d)) ≡ left
  rest_long = rw (length-take, length-drop) (omega (arith, h.reaches, h.enough, h.same))

  pub head_more : (d' : List ℕ) → c < left → length d' ≡ length d → d' ≡ patch d out (f c)
      → Head d₀ k₀ total c d' (left - c) (out + (c + 7)) (from + c) (next k)
  head_more d' m kept e =
      let lc : c ≤ left = omega arith in
      let n = ceil_more left c h.piece m in
      let fl = f_long c lc in
      let o = out_fits in
      let past : drop (from + c) d' ≡ drop (from + c) d = ap (drop (from + c)) e ∙ drop-patch d out (f c) (from + c) o (omega (arith, fl, h.front)) in
      let rest : List ℕ = take left (drop from d) in
      let rs : take (left - c) (drop (from + c) d') ≡ drop c rest =
      ap (take (left - c)) (past ∙ sym (lib.Seq.drop-drop c from d)) ∙ sym (drop-take c left (drop from d)) in
      let first : take c rest ≡ take c (drop from d) = take-take c left (drop from d) lc in
      let wrote : take (out + (c + 7)) d' ≡ take out d ++ f c =
      ap (take (out + (c + 7))) e ∙ ap (λ (j : ℕ). take (out + j) (patch d out (f c))) (sym fl) ∙ take-patch d out (f c) o in
      let more : c < length rest = rw rest_long m in
      record {
        same = kept ∙ h.same;
        piece = h.piece;
        some = omega arith;
        counted = omega (arith, h.counted, n);
        front = omega (arith, h.counted, n, ceil-some (left - c) c (omega arith) h.piece);
        reaches = omega (arith, h.reaches);
        enough = h.enough;
        number = sym (frames-after_more c k left h.piece m) ∙ h.number;
        behind =
            let s : from + c + (left - c) ≡ from + left = omega arith in
            rw (s, e) (drop-patch d out (f c) (from + left) o (omega (arith, fl, h.front)) ∙ h.behind);
        all =
            rw (wrote, rs)
            (append_assoc (take out d) (f c) (frames c (next k) (drop c rest))
            ∙ ap (λ (x : List ℕ). take out d ++ (frame k x ++ frames c (next k) (drop c rest))) (sym first)
            ∙ ap (λ (x : List ℕ). take out d ++ x) (sym (frames_more c k rest h.piece more))
            ∙ h.all);
      }

  pub head_last : (d' : List ℕ) → left ≤ c → total + 7 * ceil total c ≤ length d₀ → 0 < total → d' ≡ patch d out (f left)
      → (next k ≡ frames_after c k₀ total) × (d' ≡ patch d₀ 0 (frames c k₀ (take total (drop (7 * ceil total c) d₀))))
  head_last d' m room pos e =
      let ll : left ≤ left = omega arith in
      let rest : List ℕ = take left (drop from d) in
      let fl = f_long left ll in
      let one = ceil_last left c h.some m in
      let F : List ℕ = frames c k₀ (take total (drop (7 * ceil total c) d₀)) in
      let lt : length (take total (drop (7 * ceil total c) d₀)) ≡ total = rw (length-take, length-drop) (omega arith) in
      let lF : length F ≡ frames_need c total = length-frames c k₀ (take total (drop (7 * ceil total c) d₀)) h.piece (omega (arith, lt)) ∙ ap
      (frames_need c) lt in
      let end : out + length (frame k rest) ≡ from + left = omega (arith, fl, h.counted, one) in
      let some : 0 < length rest = rw rest_long h.some in
      let most : length rest ≤ c = rw rest_long m in (
        sym (frames-after_last c k left h.some m) ∙ h.number,
        e
            ∙ ap (λ (j : ℕ). take out d ++ frame k rest ++ drop j d) end
            ∙ ap (λ (x : List ℕ). take out d ++ frame k rest ++ x) h.behind
            ∙ ap (λ (x : List ℕ). take out d ++ x ++ drop (frames_need c total) d₀) (sym (frames_last c k rest some most))
            ∙ ap (λ (x : List ℕ). x ++ drop (frames_need c total) d₀) h.all
            ∙ ap (λ (j : ℕ). F ++ drop j d₀) (sym (zero-add (length F) ∙ lF)),
      )

-- ---- a packet: its chunks, written behind the place of all headers, then framed

pub packet_put : (c k q n count : ℕ) (p d d₁ d₂ : List ℕ) → 0 < c → n ≡ needed largest (length p) → 0 < n → count ≡ ceil n c → n + 7 * count ≤ length d
    → d₁ ≡ patch d (7 * count) (chunks largest q p)
    → d₂ ≡ patch d₁ 0 (frames c k (take n (drop (7 * count) d₁)))
    → d₂ ≡ patch d 0 (frames c k (chunks largest q p))
unfolding frames_need
packet_put c k q n count p d d₁ d₂ pos e some g r e₁ e₂ =
    let s : List ℕ = chunks largest q p in
    let gap : ℕ = 7 * count in
    let ls : length s ≡ n = length-chunks largest q p (omega arith) ∙ sym e in
    let F : List ℕ = frames c k s in
    let lF : length F ≡ n + 7 * ceil n c = length-frames c k s pos (omega (arith, ls)) ∙ ap (frames_need c) ls in
    let lt : length (take gap d) ≡ gap = rw length-take (omega arith) in
    let z : drop gap d₁ ≡ s ++ drop (gap + length s) d =
    ap (drop gap) (e₁ ∙ append_assoc (take gap d) s (drop (gap + length s) d)) ∙ lib.Seq.drop_at (take gap d) (s ++ drop (gap + length s) d) gap lt in
    let t : take n (drop gap d₁) ≡ s = ap (take n) z ∙ take_at s (drop (gap + length s) d) n ls in
    let b : drop (0 + length F) d₁ ≡ drop (0 + length F) d = ap (drop (0 + length F)) e₁ ∙ drop-patch d gap s (0 + length F) (omega arith)
    (omega (arith, ls, lF, g)) in
    e₂ ∙ ap (λ (x : List ℕ). patch d₁ 0 (frames c k x)) t ∙ ap (λ (x : List ℕ). F ++ x) b

-- ---- the bytes that writing needs, as the code counts them

pub total_is : (limit len n piece count : ℕ) → n ≡ needed largest len → piece ≡ piece_of largest limit → count ≡ ceil n piece → n + 7 * count
    ≡ total largest limit len
unfolding frames_need
total_is limit len n piece count e g h = rw (h, g, e)

pub piece_is : (m limit : ℕ) → min limit m ≡ piece_of m limit
unfolding piece_of
piece_is m limit = by_test (λ (n : ℕ). min limit m ≡ n) (nat_lt m limit) m limit (λ h. let l = ltb-true _ _ h in omega (arith, l)) (λ h. let l = ltb-false _ _ h in omega (arith, l))

pub piece_fits : (limit piece : ℕ) → (limit ≡ 0 → ⊥) → piece ≡ piece_of largest limit → 0 < piece
piece_fits limit piece z e = rw e (piece_some largest limit (omega arith) z).0

-- the library rounds up in its own way
pub ceil_is : (n c : ℕ) → 0 < c → n / c + min 1 (n % c) ≡ ceil n c
unfolding ceil
ceil_is n c h =
    let r : n % c < c = omega arith in
    elim (dec_le (n % c) 0) [
      | yes z ↦
          let g : n + (c - 1) ≡ c * (n / c) + (c - 1) = omega arith in
          let m : (c - 1) / c ≡ 0 = div-eq_of_lt (omega arith) in
          let k : min 1 (n % c) ≡ 0 = omega arith in
          rw (g, mul-add-div h (n / c) (c - 1), m, k)
      | no z ↦
          let g : n + (c - 1) ≡ c * (n / c) + (n % c + (c - 1)) = omega arith in
          let l : c ≤ n % c + (c - 1) = omega arith in
          let m : (n % c + (c - 1) - c) / c ≡ 0 = div-eq_of_lt (omega arith) in
          let k : min 1 (n % c) ≡ 1 = omega arith in
          rw (g, mul-add-div h (n / c) (n % c + (c - 1)), div-eq-sub-div h l, m, k)
    ]
