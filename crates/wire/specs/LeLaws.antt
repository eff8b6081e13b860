-- Laws of little-endian numbers, over the width.
use Rattle.std.specs.Int.{from_le_bytes}
use Rattle.std.specs.Prelude.{◌++◌, ◌≡◌, refl, List, [], ◌∷◌, take, drop, get_or}
use Rattle.std.proofs.Math.Path.{sym, ap}
use Rattle.std.proofs.Common.{w64, ◌∙◌, subst, add-zero, length-take, length-drop, drop_of_length-le, get_or-drop, pow_mono, pow-add}
use Prim.Native.Nat.{ℕ, zero, suc, ◌+◌, ◌*◌, ◌/◌, ◌%◌, ◌≤◌, ◌<◌, ◌^◌, ◌-◌}
use native.Mathlib.Omega.{arith}
use Rattle.std.proofs.Math.ListN.{length}
use Rattle.std.proofs.Math.Seq.{drop-cons, get_or-take}
use Rattle.wire.specs.Le.{le_of, le_at, le_bytes}

module _ (s : List ℕ) (at k : ℕ) (fits : at + k ≤ length s) where
  part_length : length (take k (drop at s)) ≡ k
  part_length = simp (length-take, length-drop) (omega arith)

  -- nothing is left behind the last byte
  pub le_none : le_of (drop k (take k (drop at s))) ≡ 0
  unfolding le_of
  le_none = ap le_of (drop_of_length-le (take k (drop at s)) {i = k} (omega (arith, part_length)))

  -- one byte more in front of the number
  pub le_more : (i : ℕ) → i < k → le_of (drop i (take k (drop at s))) ≡ get_or s (at + i) 0 + 256 * le_of (drop (suc i) (take k (drop at s)))
  unfolding le_of
  le_more i h =
      let h' : i < length (take k (drop at s)) = omega (arith, part_length) in
      rw (drop-cons (take k (drop at s)) i 0, get_or-take, get_or-drop)

  pub le_step : (i v : ℕ) → 0 < i → i ≤ k → v ≡ le_of (drop i (take k (drop at s)))
      → v * 256 + get_or s (at + (i - 1)) 0 ≡ le_of (drop (i - 1) (take k (drop at s)))
  le_step i v lo hi h =
      let e : suc (i - 1) ≡ i = omega arith in
      let q : le_of (drop (suc (i - 1)) (take k (drop at s))) ≡ le_of (drop i (take k (drop at s))) = rw e in
      omega (arith, le_more (i - 1) (omega arith))

-- j bytes read, one more to come: room for both
pub room : (v j : ℕ) → v < 2 ^ (8 * j) → j ≤ 7 → v < 2 ^ 56
room v j h l = omega (arith, pow_mono {i = 8 * j} {j = 56} (omega arith))

pub grow : (v b k i : ℕ) → v < 2 ^ (8 * (k - i)) → b < 256 → 0 < i → i ≤ k → v * 256 + b < 2 ^ (8 * (k - (i - 1)))
grow v b k i h l lo hi =
    let e : 8 * (k - (i - 1)) ≡ 8 * (k - i) + 8 = omega arith in
    rw (e, pow-add) (omega arith)

pub le_length : (k v : ℕ) → length (le_bytes k v) ≡ k
unfolding le_bytes
le_length zero v = refl
le_length (suc k) v = ap suc (le_length k (v / 256))

-- what is left of a number after i of its k bytes: its next byte and the rest
module _ (k i v rest : ℕ) (h : i < k) (e : le_bytes (k - i) rest ≡ drop i (le_bytes k v)) where
  both : rest % 256 ∷ le_bytes (k - suc i) (rest / 256) ≡ get_or (le_bytes k v) i 0 ∷ drop (suc i) (le_bytes k v)
  unfolding le_bytes
  both =
      let l : i < length (le_bytes k v) = omega (arith, le_length k v) in
      let n : k - i ≡ suc (k - suc i) = omega arith in
      sym (ap (λ (m : ℕ). le_bytes m rest) n) ∙ e ∙ drop-cons (le_bytes k v) i 0 l

  pub byte_next : rest % 256 ≡ get_or (le_bytes k v) i 0
  byte_next = cc both

  pub bytes_next : le_bytes (k - suc i) (rest / 256) ≡ drop (suc i) (le_bytes k v)
  bytes_next = cc both

-- ---- numbers of eight bytes, as two halves

module _ (s : List ℕ) (at : ℕ) where
  pub four_bytes : at + 4 ≤ length s → le_at s at 4 ≡ get_or s at 0 + get_or s (at + 1) 0 * 256 + get_or s (at + 2) 0 * 65536 + get_or s (at + 3) 0 * 16777216
  four_bytes h =
      let first : le_at s at 4 ≡ get_or s at 0 + 256 * le_of (drop 1 (take 4 (drop at s))) = rw add-zero at (le_more s at 4 h 0 (omega arith)) in
      omega (arith, first, le_more s at 4 h 1 (omega arith), le_more s at 4 h 2 (omega arith), le_more s at 4 h 3 (omega arith), le_none s at 4 h)

  pub two_halves : at + 8 ≤ length s → le_at s at 8 ≡ le_at s at 4 + le_at s (at + 4) 4 * 4294967296
  two_halves h =
      let x = le_more s at 8 h in
      let y = le_more s (at + 4) 4 (omega arith) in
      let first : le_at s at 8 ≡ get_or s at 0 + 256 * le_of (drop 1 (take 8 (drop at s))) = rw add-zero at (x 0 (omega arith)) in
      let fifth : le_at s (at + 4) 4 ≡ get_or s (at + 4) 0 + 256 * le_of (drop 1 (take 4 (drop (at + 4) s))) = rw add-zero at (y 0 (omega arith)) in
      let sixth : get_or s (at + 4 + 1) 0 ≡ get_or s (at + 5) 0 = ap (λ (k : ℕ). get_or s k 0) (omega arith) in
      let seventh : get_or s (at + 4 + 2) 0 ≡ get_or s (at + 6) 0 = ap (λ (k : ℕ). get_or s k 0) (omega arith) in
      let eighth : get_or s (at + 4 + 3) 0 ≡ get_or s (at + 7) 0 = ap (λ (k : ℕ). get_or s k 0) (omega arith) in
      omega (
        arith,
        first,
        x 1 (omega arith),
        x 2 (omega arith),
        x 3 (omega arith),
        x 4 (omega arith),
        x 5 (omega arith),
        x 6 (omega arith),
        x 7 (omega arith),
        le_none s at 8 h,
        fifth,
        y 1 (omega arith),
        y 2 (omega arith),
        y 3 (omega arith),
        le_none s (at + 4) 4 (omega arith),
        sixth,
        seventh,
        eighth,
        four_bytes (omega arith),
      )

-- bytes as the number that they spell, and back
pub le_forth : (bs : List ℕ) → ((i : ℕ) → i < length bs → get_or bs i 0 < 256) → le_bytes (length bs) (le_of bs) ≡ bs
unfolding le_bytes le_of
le_forth [] h = refl
le_forth (b ∷ bs) h =
    let l : b < 256 = h 0 (omega arith) in
    let e : (b + 256 * le_of bs) % 256 ≡ b = omega arith in
    let f : (b + 256 * le_of bs) / 256 ≡ le_of bs = omega arith in
    rw (e, f) (ap (λ (x : List ℕ). b ∷ x) (le_forth bs (λ i q. h (suc i) (omega arith))))

part_bytes : (s : List ℕ) (at k : ℕ) → at + k ≤ length s → ((i : ℕ) → get_or s i 0 < 256)
    → (i : ℕ) → i < length (take k (drop at s)) → get_or (take k (drop at s)) i 0 < 256
part_bytes s at k h byte i q = let q' : i < k = omega (arith, part_length s at k h) in rw (get_or-take, get_or-drop) (byte (at + i))

-- the k bytes at a place, as the number that they spell and back
pub le_part : (s : List ℕ) (at k : ℕ) → at + k ≤ length s → ((i : ℕ) → get_or s i 0 < 256) → le_bytes k (le_at s at k) ≡ take k (drop at s)
le_part s at k h byte =
    let part = take k (drop at s) in
    subst (λ (j : ℕ). le_bytes j (le_of part) ≡ part) (part_length s at k h) (le_forth part (part_bytes s at k h byte))

-- ---- zeros behind a number's bytes are nothing, and fewer bytes are a smaller number

pub le_padded : (bs zs : List ℕ) → le_of zs ≡ 0 → le_of (bs ++ zs) ≡ le_of bs
unfolding le_of
le_padded [] zs e = e
le_padded (b ∷ bs) zs e = rw (le_padded bs zs e)

pub le_zeros : (zs : List ℕ) (k : ℕ) → le_of zs ≡ 0 → le_of (drop k zs) ≡ 0
unfolding le_of
le_zeros zs zero e = e
le_zeros [] (suc k) e = e
le_zeros (z ∷ zs) (suc k) e = le_zeros zs k (omega arith)

pub le_less : (bs : List ℕ) → ((i : ℕ) → i < length bs → get_or bs i 0 < 256) → le_of bs < 2 ^ (8 * length bs)
unfolding le_of
le_less [] h = omega arith
le_less (b ∷ bs) h =
    let l : b < 256 = h 0 (omega arith) in
    let m = le_less bs (λ i q. h (suc i) (omega arith)) in
    let e : 8 * suc (length bs) ≡ 8 * length bs + 8 = omega arith in
    rw (e, pow-add) (omega arith)

pub le_at_less : (s : List ℕ) (at k : ℕ) → at + k ≤ length s → ((i : ℕ) → get_or s i 0 < 256) → le_at s at k < 2 ^ (8 * k)
le_at_less s at k h byte =
    let n = part_length s at k h in
    subst (λ (j : ℕ). le_at s at k < 2 ^ (8 * j)) n (le_less (take k (drop at s)) (part_bytes s at k h byte))

-- the library's eight bytes
pub le_eight : (bs : List ℕ) → length bs ≡ 8 → from_le_bytes w64 bs ≡ le_of bs
unfolding le_of
le_eight (a ∷ b ∷ c ∷ d ∷ e ∷ f ∷ g ∷ h ∷ []) l = omega arith
le_eight (a ∷ b ∷ c ∷ d ∷ e ∷ f ∷ g ∷ h ∷ i ∷ bs) l = absurd (omega arith)
le_eight (a ∷ b ∷ c ∷ d ∷ e ∷ f ∷ g ∷ []) l = absurd (omega arith)
le_eight (a ∷ b ∷ c ∷ d ∷ e ∷ f ∷ []) l = absurd (omega arith)
le_eight (a ∷ b ∷ c ∷ d ∷ e ∷ []) l = absurd (omega arith)
le_eight (a ∷ b ∷ c ∷ d ∷ []) l = absurd (omega arith)
le_eight (a ∷ b ∷ c ∷ []) l = absurd (omega arith)
le_eight (a ∷ b ∷ []) l = absurd (omega arith)
le_eight (a ∷ []) l = absurd (omega arith)
le_eight [] l = absurd (omega arith)
