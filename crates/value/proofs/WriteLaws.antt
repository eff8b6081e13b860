-- What is written: numbers side by side as one, and the parts of a date or time behind their length.
use Rattle.std.specs.Prelude.{Ok}
use mathlib.Core.Path.{◌≡◌, refl, sym, ap, ◌∙◌}
use mathlib.Core.Bool.{Bool, true, false, cond}
use mathlib.Core.List.{List, [], ◌∷◌, ◌++◌}
use Prim.Native.Nat.{ℕ, zero, suc, ◌+◌, ◌*◌, ◌-◌, ◌/◌, ◌%◌, ◌≤◌, ◌<◌, ◌^◌, min}
use native.Mathlib.Omega.{arith}
use native.Mathlib.Nat.{zero-add, suc-add, sub-zero, zero-min, min-zero, suc-min-suc, mul_assoc, pow-suc, div-lt_iff_lt-mul, mod-eq_of_lt}
use borrow.Author.Tests.{lt-ltb}
use mir.Val.{bool_byte}
use lib.ListN.{length, take, set, length-append, length-set}
use Rattle.wire.specs.Le.{le_bytes}
use Rattle.wire.specs.LeLaws.{le_length}
use Rattle.refusal.specs.Said.{gives}
use Rattle.wire.specs.Room.{Wrote, patch, length_of}
use Rattle.wire.specs.RoomLaws.{patch_cons, patch-append, wrote_next}
use Rattle.duration.specs.declared.Time.{Time}
use Rattle.value.specs.Dates.{date_length, time_length, date_bytes, time_bytes}
use Rattle.value.specs.DateLaws.{date_body, time_body}
use Rattle.value.specs.declared.Date.{Date}

-- two numbers side by side are one number
pub le_join : (j k a b : ℕ) → a < 256 ^ j → le_bytes (j + k) (b * 256 ^ j + a) ≡ le_bytes j a ++ le_bytes k b
unfolding le_bytes
le_join zero k a b h =
    let e : b * 256 ^ 0 + a ≡ b = omega arith in
    rw (zero-add, e)
le_join (suc j) k a b h =
    let q : b * 256 ^ suc j ≡ b * 256 ^ j * 256 = ap (λ (n : ℕ). b * n) (pow-suc 256 j) ∙ sym (mul_assoc b (256 ^ j) 256) in
    let low : (b * 256 ^ suc j + a) % 256 ≡ a % 256 = rw q (omega arith) in
    let high : (b * 256 ^ suc j + a) / 256 ≡ b * 256 ^ j + a / 256 = rw q (omega arith) in
    let l : a / 256 < 256 ^ j = (div-lt_iff_lt-mul {k = 256} (omega arith)).1 (rw pow-suc at h) in
    rw suc-add (rw (low, high) (ap (λ (l : List ℕ). a % 256 ∷ l) (le_join j k (a / 256) b l)))

pub le_byte : (k a b : ℕ) → a < 256 → le_bytes (suc k) (b * 256 + a) ≡ a ∷ le_bytes k b
unfolding le_bytes
le_byte k a b h =
    let e : (b * 256 + a) % 256 ≡ a = omega arith in
    let f : (b * 256 + a) / 256 ≡ b = omega arith in
    rw (e, f)

pub le_last : (a : ℕ) → a < 256 → le_bytes 1 a ≡ a ∷ []
unfolding le_bytes
le_last a h = rw (mod-eq_of_lt h)

-- the fields of a date and of a time before their microseconds
pub three : (a b c : ℕ) → a < 256 → b < 256 → c < 256 → le_bytes 3 ((c * 256 + b) * 256 + a) ≡ a ∷ b ∷ c ∷ []
three a b c l m n = le_byte 2 a (c * 256 + b) l ∙ ap (λ (l : List ℕ). a ∷ l) (le_byte 1 b c m ∙ ap (λ (l : List ℕ). b ∷ l) (le_last c n))

pub date_head : (year month day clock : ℕ) (rest : List ℕ) → year < 65536 → month < 256 → day < 256 → le_bytes 3 clock ≡ rest
    → le_bytes 7 (((clock * 256 + day) * 256 + month) * 65536 + year) ≡ le_bytes 2 year ++ (month ∷ day ∷ rest)
date_head year month day clock rest l m n e =
    le_join 2 5 year ((clock * 256 + day) * 256 + month) l
    ∙ ap (λ (l : List ℕ). le_bytes 2 year ++ l)
    (le_byte 4 month (clock * 256 + day) m ∙ ap (λ (l : List ℕ). month ∷ l) (le_byte 3 day clock n ∙ ap (λ (l : List ℕ). day ∷ l) e))

pub time_head : (sign days clock : ℕ) (rest : List ℕ) → sign < 256 → days < 4294967296 → le_bytes 3 clock ≡ rest
    → le_bytes 8 ((clock * 4294967296 + days) * 256 + sign) ≡ (sign ∷ []) ++ le_bytes 4 days ++ rest
time_head sign days clock rest l m e =
    le_byte 7 sign (clock * 4294967296 + days) l ∙ ap (λ (l : List ℕ). sign ∷ l) (le_join 4 3 days clock m ∙ ap (λ (l : List ℕ). le_bytes 4 days ++ l) e)

-- so many bytes of a number, and of two
pub take_le : (n k v : ℕ) → n ≤ k → take n (le_bytes k v) ≡ le_bytes n v
unfolding le_bytes
take_le zero k v h = refl
take_le (suc n) zero v h = absurd (omega arith)
take_le (suc n) (suc k) v h = ap (λ (l : List ℕ). v % 256 ∷ l) (take_le n k (v / 256) (omega arith))

pub take-both : (n k j a b : ℕ) → n ≤ k + j → take n (le_bytes k a ++ le_bytes j b) ≡ le_bytes (min n k) a ++ le_bytes (n - min n k) b
unfolding le_bytes
take-both n zero j a b h = rw (min-zero, sub-zero) (take_le n j b (omega arith))
take-both zero (suc k) j a b h = rw (zero-min)
take-both (suc n) (suc k) j a b h =
    let e : suc n - suc (min n k) ≡ n - min n k = omega arith in
    rw (suc-min-suc, e) (ap (λ (l : List ℕ). a % 256 ∷ l) (take-both n k j (a / 256) b (omega arith)))

-- a length byte and so many bytes of two numbers: one store and two copies
pub fields_wrote : (d : List ℕ) (at len k head micros n : ℕ) (d₁ d₂ : List ℕ) → n ≡ min len k → len ≤ k + 4 → at + (len + 1) ≤ length d
    → d₁ ≡ patch (set d at len) (at + 1) (le_bytes n head) → d₂ ≡ patch d₁ (at + 1 + n) (le_bytes (len - n) micros)
    → Wrote (len ∷ take len (le_bytes k head ++ le_bytes 4 micros)) d at (Ok (at + 1 + len)) d₂
fields_wrote d at len k head micros n d₁ d₂ e h room p q =
    let f : len ∷ take len (le_bytes k head ++ le_bytes 4 micros) ≡ len ∷ (le_bytes n head ++ le_bytes (len - n) micros) =
    ap (λ (l : List ℕ). len ∷ l) (take-both len k 4 head micros h ∙ (rw e)) in
    let a : length (le_bytes n head) ≡ n = le_length n head in
    let b : length (le_bytes (len - n) micros) ≡ len - n = le_length (len - n) micros in
    let m : n ≤ len = omega arith in
    let w : at + 1 + (length (le_bytes n head) + length (le_bytes (len - n) micros)) ≤ length (set d at len) = rw length-set (omega arith) in
    let g : d₂ ≡ patch d₁ (at + 1 + length (le_bytes n head)) (le_bytes (len - n) micros) = rw a q in
    let size : length (le_bytes n head ++ le_bytes (len - n) micros) ≡ len = simp length-append (omega arith) in
    rw f
    (wrote_next (len ∷ (le_bytes n head ++ le_bytes (len - n) micros)) d at (at + 1 + len) d₂
    (omega arith)
    (omega arith)
    (g ∙ (rw p (patch-append (set d at len) (at + 1) (le_bytes n head) (le_bytes (len - n) micros) w))
    ∙ patch_cons d at len (le_bytes n head ++ le_bytes (len - n) micros) (omega arith)))

-- a bool as a number is the sign byte
pub sign_byte : (neg : Bool) → bool_byte neg ≡ cond neg 1 0
sign_byte true = refl
sign_byte false = refl

-- a length that fits
pub length_is : (bs : List ℕ) (n : ℕ) → length bs ≡ n → n < 2 ^ 64 → length_of bs ≡ gives n
length_is bs n e l = rw e (simp (lt-ltb n (2 ^ 64) l))

pub date_length_lem : (d : Date) → length (date_bytes d) ≡ 1 + date_length d
date_length_lem d = omega (arith, date_body d)

pub time_length_lem : (t : Time) → length (time_bytes t) ≡ 1 + time_length t
time_length_lem t = omega (arith, time_body t)
