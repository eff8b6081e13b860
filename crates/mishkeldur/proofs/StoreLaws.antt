-- How loading reads a codec's bytes, and how storing puts them one behind the other.
use Rattle.std.proofs.Common.{◌≡◌, ℕ, ◌+◌, ◌<◌, ◌≤◌, Bool, true, false, cond, not, eqb, List, [], ◌∷◌, ◌++◌, length, get_or, set, sym, refl, ap, ◌∙◌, arith, length-append}
use lib.Seq.{sets-eq}
use mir.Val.{bool_byte}
use Rattle.wire.specs.Le.{le_at, le_bytes}
use Rattle.wire.specs.LeLaws.{le_length, le_part}
use Rattle.wire.specs.Room.{patch}
use Rattle.wire.specs.RoomLaws.{patch-append, patch_same}
use Rattle.frame.specs.declared.PacketCodec.{PacketCodec}
use Rattle.mishkeldur.specs.Face.{flag_no}
use Rattle.mishkeldur.specs.State.{mark, codec_of, state_bytes, keeping}
use Rattle.mishkeldur.proofs.FaceLaws.{flag_no_lem}

pub unmarked : (b : Bool) → not b ≡ cond b false true
unmarked true = refl
unmarked false = refl

pub loaded : (s : List ℕ) {l t n u z : ℕ} → l ≡ le_at s 8 8 → t ≡ le_at s 24 8 → n ≡ le_at s 40 8 → u ≡ le_at s 16 8 → z ≡ le_at s 32 8
    → ◌≡◌ {A = PacketCodec} (record {
      limit = l;
      taken = t;
      len = n;
      unread = u;
      size = z;
      number = get_or s 1 0;
      waiting = eqb (get_or s 2 0) 1;
      ahead = get_or s 3 0;
      closed = not (eqb (get_or s 0 0) mark);
      frame = get_or s 4 0;
      held = eqb (get_or s 5 0) 1;
      coming = get_or s 6 0;
      framed = eqb (get_or s 7 0) 1;
    }) (codec_of s)
unfolding codec_of
loaded s e f g h i = rw (e, f, g, h, i, unmarked (eqb (get_or s 0 0) mark)) refl

-- eight bytes more
pub further : (s bs : List ℕ) (n v : ℕ) {l l' : List ℕ} → length bs ≡ n → n + 8 ≤ length s → l ≡ patch s 0 bs → l' ≡ patch l n (le_bytes 8 v)
    → l' ≡ patch s 0 (bs ++ le_bytes 8 v)
further s bs n v {l} {l'} e h p q =
    let m : 0 + length bs ≡ n = omega (arith, e) in
    let r : patch (patch s 0 bs) (0 + length bs) (le_bytes 8 v) ≡ patch s 0 (bs ++ le_bytes 8 v) =
    patch-append s 0 bs (le_bytes 8 v) (omega (arith, e, le_length 8 v)) in
    q ∙ ap (λ (x : List ℕ). patch x n (le_bytes 8 v)) p ∙ sym (ap (λ (k : ℕ). patch (patch s 0 bs) k (le_bytes 8 v)) m) ∙ r

pub stored : (s : List ℕ) (c : PacketCodec) (m : ℕ) {l₁ l₂ l₃ l₄ l₅ : List ℕ} → 48 ≤ length s → m ≡ cond c.closed 0 mark
    → l₁ ≡ patch (set (set (set (set (set (set (set (set s 0 m) 1 c.number) 2 (bool_byte c.waiting)) 3 c.ahead) 4 c.frame)
    5 (bool_byte c.held)) 6 c.coming) 7 (bool_byte c.framed)) 8 (le_bytes 8 c.limit)
    → l₂ ≡ patch l₁ 16 (le_bytes 8 c.unread) → l₃ ≡ patch l₂ 24 (le_bytes 8 c.taken) → l₄ ≡ patch l₃ 32 (le_bytes 8 c.size)
    → l₅ ≡ patch l₄ 40 (le_bytes 8 c.len) → l₅ ≡ keeping s c
unfolding state_bytes
stored s c m {l₁} {l₂} {l₃} {l₄} {l₅} h e p₁ p₂ p₃ p₄ p₅ =
    let b₀ : List ℕ =
    cond c.closed 0 mark ∷ c.number ∷ flag_no c.waiting ∷ c.ahead ∷ c.frame ∷ flag_no c.held ∷ c.coming ∷ flag_no c.framed ∷ [] in
    let b₁ = b₀ ++ le_bytes 8 c.limit in
    let b₂ = b₁ ++ le_bytes 8 c.unread in
    let b₃ = b₂ ++ le_bytes 8 c.taken in
    let b₄ = b₃ ++ le_bytes 8 c.size in
    let n₁ : length b₁ ≡ 16 = simp (length-append, le_length) in
    let n₂ : length b₂ ≡ 24 = simp (length-append, le_length) in
    let n₃ : length b₃ ≡ 32 = simp (length-append, le_length) in
    let n₄ : length b₄ ≡ 40 = simp (length-append, le_length) in
    let q₁ = rw (e, flag_no_lem c.waiting, flag_no_lem c.held, flag_no_lem c.framed) at p₁ in
    let r₁ = further s b₀ 8 c.limit refl (omega arith) (sets-eq b₀ s 0 (omega arith)) q₁ in
    let r₂ = further s b₁ 16 c.unread n₁ (omega arith) r₁ p₂ in
    let r₃ = further s b₂ 24 c.taken n₂ (omega arith) r₂ p₃ in
    let r₄ = further s b₃ 32 c.size n₃ (omega arith) r₃ p₄ in
    further s b₄ 40 c.len n₄ (omega arith) r₄ p₅

-- a number that stands at a place already: writing it changes nothing
pub stands : (s : List ℕ) (at v : ℕ) → at + 8 ≤ length s → ((i : ℕ) → get_or s i 0 < 256) → le_at s at 8 ≡ v → s ≡ patch s at (le_bytes 8 v)
stands s at v h byte e = sym (patch_same s at 8 h) ∙ ap (patch s at) (sym (ap (le_bytes 8) (sym e) ∙ le_part s at 8 h byte))
