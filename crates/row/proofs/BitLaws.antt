-- Laws of bits, over the width.
use mathlib.Core.Path.{◌≡◌, refl, sym, ap, ◌∙◌}
use mathlib.Core.List.{List}
use mathlib.Core.Logic.{◌⊎◌}
use Prim.Native.Nat.{ℕ, zero, suc, ◌+◌, ◌*◌, ◌/◌, ◌%◌, ◌≤◌, ◌<◌, ◌^◌, ◌-◌, min}
use native.Mathlib.Omega.{arith}
use native.Mathlib.Nat.{add-zero, add-suc, add_comm, mod-lt, mod-one, one-mul}
use lib.ListN.{get_or}
use lib.Pow.{pow_pos, shl_exact, shr-shr, mod-pow-add}
use lib.Count.{ones, ones_cat, ones-le}
use Rattle.row.specs.Nulls.{offset_of, null_bit, null_count, map_size}
use Rattle.row.specs.declared.Side.{Side}
use Rattle.row.specs.declared.Side.TheVariants.{ServerSide, ClientSide}

pub offset_few : (side : Side) → offset_of side ≤ 2
offset_few ServerSide = omega arith
offset_few ClientSide = omega arith

-- 1 << k at 32 bits
pub one_shl : (k : ℕ) → k ≤ 8 → 1 * 2 ^ k % 2 ^ 32 ≡ 2 ^ k
one_shl k h = shl_exact {a = 1} 1 k 32 (omega arith) (omega arith) ∙ one-mul (2 ^ k)

ones_bit : (r : ℕ) → r < 2 → ones r ≡ r
unfolding ones
ones_bit zero h = refl
ones_bit (suc zero) h = refl
ones_bit (suc (suc r)) h = absurd (omega arith)

-- one more bit in a count
ones_more : (y w : ℕ) → ones (y % 2 ^ suc w) ≡ ones (y % 2 ^ w) + y / 2 ^ w % 2
ones_more y w =
    ap (λ (k : ℕ). ones (y % 2 ^ k)) (omega arith)
    ∙ ap ones (mod-pow-add y 1 w) ∙ ones_cat w (y / 2 ^ w % 2) (y % 2 ^ w) (mod-lt y (pow_pos w))
    ∙ ap (λ (k : ℕ). k + ones (y % 2 ^ w)) (ones_bit (y / 2 ^ w % 2) (omega arith)) ∙ add_comm (y / 2 ^ w % 2) (ones (y % 2 ^ w))

one_bit : (map : List ℕ) (off d w : ℕ) → (d + w + off) / 8 ≡ (d + off) / 8 → (d + w + off) % 8 ≡ (d + off) % 8 + w
    → null_bit map off (d + w) ≡ get_or map ((d + off) / 8) 0 / 2 ^ ((d + off) % 8) / 2 ^ w % 2
unfolding null_bit
one_bit map off d w same next = rw (same, next, shr-shr)

-- d columns are counted: w more, all in one byte
pub turn : (map : List ℕ) (off d w : ℕ) → (d + off) % 8 + w ≤ 8
    → null_count map off (d + w) ≡ null_count map off d + ones (get_or map ((d + off) / 8) 0 / 2 ^ ((d + off) % 8) % 2 ^ w)
unfolding null_count ones
turn map off d zero h =
    ap (null_count map off) (add-zero d)
    ∙ sym (ap (λ (k : ℕ). null_count map off d + ones k) (mod-one (get_or map ((d + off) / 8) 0 / 2 ^ ((d + off) % 8))) ∙ add-zero (null_count map off d))
turn map off d (suc w) h =
    let b = get_or map ((d + off) / 8) 0 in
    let lo = (d + off) % 8 in
    let same : (d + w + off) / 8 ≡ (d + off) / 8 = omega arith in
    let next : (d + w + off) % 8 ≡ (d + off) % 8 + w = omega arith in
    let bit : null_bit map off (d + w) ≡ b / 2 ^ lo / 2 ^ w % 2 = one_bit map off d w same next in
    rw add-suc (omega (arith, turn map off d w (omega arith), bit, ones_more (b / 2 ^ lo) w))

-- the columns before byte k are counted: those that byte k has, from bit low up to bit high
pub count_turn : (map : List ℕ) (off n k low high : ℕ) → off ≤ 2 → k < map_size n off → ((k ≡ 0) × (low ≡ off)) ⊎ ((0 < k) × (low ≡ 0))
    → high ≡ min (n + off - 8 * k) 8
    → null_count map off (min (8 * (k + 1) - off) n) ≡ null_count map off (min (8 * k - off) n) + ones (get_or map k 0 / 2 ^ low % 2 ^ (high - low))
count_turn map off n k low high few here from upto =
    let d = min (8 * k - off) n in
    let place : (d + off) / 8 ≡ k = omega arith in
    let bit : (d + off) % 8 ≡ low = omega arith in
    let next : min (8 * (k + 1) - off) n ≡ d + (high - low) = omega arith in
    rw next (rw (place, bit) at (turn map off d (high - low) (omega arith)))

pub ones_few : (x w : ℕ) → ones (x % 2 ^ w) ≤ w
ones_few x w = ones-le w (x % 2 ^ w) (mod-lt x (pow_pos w))
