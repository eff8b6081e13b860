-- Laws of length-encoded integers and strings, for callers: the four shapes, what was written is read back, parts lie within.
use Rattle.wire.specs.declared.Text.{Text}
use Rattle.wire.specs.declared.Parsed.{Parsed}
use Rattle.std.specs.Prelude.{◌≡◌, refl, Bool, true, false, cond, ℕ, zero, suc, ◌+◌, ◌/◌, ◌≤◌, ◌<◌, ◌^◌, take, get_or, leb, ltb}
use Rattle.std.proofs.Common.{sym, ◌∙◌, arith, div-lt_iff_lt-mul, pow-suc, add-zero}
use Rattle.std.proofs.Math.Path.{ap}
use mathlib.Core.List.{List, [], ◌∷◌, ◌++◌, append_assoc}
use Rattle.std.proofs.Math.Decide.{dec_lt}
use borrow.Author.Tests.{lt-ltb, le-ltb, le-leb, lt-leb, leb-true}
use Rattle.std.proofs.Math.ListN.{length, drop, length-append, length-drop}
use lib.Seq.{take_at, get_or-drop, drop-drop, drop-append-add}
use Rattle.refusal.specs.Said.{Said, gives, refused, check, and_then}
use Rattle.wire.specs.Le.{le_of, le_bytes}
use Rattle.wire.specs.LeLaws.{le_length}
use Rattle.wire.specs.LenEnc.{len_at, by_lead, led, len_enc_int, len_bytes, str_at, byte_str_at, within, str_bytes, part_of}

-- ---- the four shapes of a written integer

pub len_1 : (v : ℕ) → v < 251 → len_bytes v ≡ v ∷ le_bytes 0 0
unfolding len_bytes le_bytes
len_1 v h = simp (lt-ltb _ _ h)

pub len_3 : (v : ℕ) → 251 ≤ v → v < 0x1_0000 → len_bytes v ≡ 0xFC ∷ le_bytes 2 v
unfolding len_bytes
len_3 v l h = simp (le-ltb _ _ l, lt-ltb _ _ h)

pub len_4 : (v : ℕ) → 251 ≤ v → 0x1_0000 ≤ v → v < 0x100_0000 → len_bytes v ≡ 0xFD ∷ le_bytes 3 v
unfolding len_bytes
len_4 v l m h = simp (le-ltb _ _ l, le-ltb _ _ m, lt-ltb _ _ h)

pub len_9 : (v : ℕ) → 251 ≤ v → 0x1_0000 ≤ v → 0x100_0000 ≤ v → len_bytes v ≡ 0xFE ∷ le_bytes 8 v
unfolding len_bytes
len_9 v l m h = simp (le-ltb _ _ l, le-ltb _ _ m, le-ltb _ _ h)

-- a written integer takes 1 to 9 bytes
pub len_length : (v : ℕ) → (1 ≤ length (len_bytes v)) × (length (len_bytes v) ≤ 9)
len_length v = elim (dec_lt v 251) [
  | yes a ↦ sized 0 0 (len_1 v a) (omega arith)
  | no a ↦ elim (dec_lt v 0x1_0000) [
    | yes b ↦ sized 2 v (len_3 v (omega (arith, a)) b) (omega arith)
    | no b ↦ elim (dec_lt v 0x100_0000) [
      | yes c ↦ sized 3 v (len_4 v (omega (arith, a)) (omega (arith, b)) c) (omega arith)
      | no c ↦ sized 8 v (len_9 v (omega (arith, a)) (omega (arith, b)) (omega (arith, c))) (omega arith)
    ]
  ]
]
  where
    sized : (k w : ℕ) {b : ℕ} → len_bytes v ≡ b ∷ le_bytes k w → k ≤ 8 → (1 ≤ length (len_bytes v)) × (length (len_bytes v) ≤ 9)
    sized k w e h = (omega (arith, ap length e, le_length k w), omega (arith, ap length e, le_length k w))

-- ---- what was written is read back, whatever stands before and behind it

-- a number of k bytes comes back
pub le_back : (k v : ℕ) → v < 256 ^ k → le_of (le_bytes k v) ≡ v
unfolding le_of le_bytes
le_back zero v h = omega arith
le_back (suc k) v h =
    let q : v / 256 < 256 ^ k = (div-lt_iff_lt-mul {k = 256} (omega arith)).1 (rw pow-suc at h) in
    omega (arith, le_back k (v / 256) q)

-- at a place where the bytes of a number stand, the number is read: by the lead byte, and then over the four shapes
module _ (s : List ℕ) (at : ℕ) (t : List ℕ) where
  lead : (b : ℕ) (l : List ℕ) → drop at s ≡ (b ∷ l) ++ t → get_or s at 0 ≡ b
  lead b l e = sym (ap (λ (n : ℕ). get_or s n 0) (add-zero at)) ∙ sym (get_or-drop at s 0 0) ∙ ap (λ (x : List ℕ). get_or x 0 0) e

  room : (b : ℕ) (l : List ℕ) → drop at s ≡ (b ∷ l) ++ t → at + 1 + length l ≤ length s
  room b l e = omega (arith, length-drop at s, ap length e, length-append (b ∷ l) t)

  body : (b : ℕ) (l : List ℕ) (k : ℕ) → length l ≡ k → drop at s ≡ (b ∷ l) ++ t → take k (drop (at + 1) s) ≡ l
  body b l k n e = ap (take k) (sym (drop-drop 1 at s) ∙ ap (drop 1) e) ∙ take_at l t k n

  -- a lead byte of k bytes, and those of v
  wide : (b k v : ℕ) → v < 256 ^ k → drop at s ≡ (b ∷ le_bytes k v) ++ t → led s at k ≡ gives (len_enc_int at k v)
  wide b k v h e =
      simp (le-leb (at + 1 + k) (length s) (omega (arith, room b (le_bytes k v) e, le_length k v)))
      (ap (λ (n : ℕ). gives (len_enc_int at k n)) (ap le_of (body b (le_bytes k v) k (le_length k v) e) ∙ le_back k v h))

  present : (b : ℕ) (l : List ℕ) → drop at s ≡ (b ∷ l) ++ t → at < length s
  present b l e = omega (arith, room b l e)

  -- the number in hand, and the place behind its bytes
  abbrev pub Back : ℕ → Type 0
  Back v = len_at s at ≡ gives (record { value = v; next = at + length (len_bytes v) })

  tiny : (v : ℕ) → v < 251 → drop at s ≡ len_bytes v ++ t → Back v
  unfolding len_at le_bytes
  tiny v h e =
      let f : drop at s ≡ (v ∷ []) ++ t = rw (len_1 v h) at e in
      rw (len_1 v h) (simp (lt-ltb at (length s) (present v [] f), lead v [] f, lt-ltb v 251 h, add-zero))

  -- one of the three leads
  leads : (b k v : ℕ) → v < 256 ^ k → len_bytes v ≡ b ∷ le_bytes k v → ((s : List ℕ) (at : ℕ) → by_lead s at b ≡ led s at k)
      → drop at s ≡ len_bytes v ++ t → Back v
  unfolding len_at
  leads b k v h n by e =
      let f : drop at s ≡ (b ∷ le_bytes k v) ++ t = rw n at e in
      let w : at + length (b ∷ le_bytes k v) ≡ at + 1 + k = omega (arith, le_length k v) in
      rw (n, w) (simp (lt-ltb at (length s) (present b (le_bytes k v) f), lead b (le_bytes k v) f) (by s at ∙ wide b k v h f))

  -- every number below 2^64, at any place, before any tail
  pub int_back : (v : ℕ) → v < 2 ^ 64 → drop at s ≡ len_bytes v ++ t → len_at s at ≡ gives (record { value = v; next = at + length (len_bytes v) })
  int_back v h e = elim (dec_lt v 251) [
    | yes a ↦ tiny v a e
    | no a ↦ elim (dec_lt v 0x1_0000) [
      | yes b ↦ leads 0xFC 2 v b (len_3 v (omega (arith, a)) b) (λ s at. refl) e
      | no b ↦ elim (dec_lt v 0x100_0000) [
        | yes c ↦ leads 0xFD 3 v c (len_4 v (omega (arith, a)) (omega (arith, b)) c) (λ s at. refl) e
        | no c ↦ leads 0xFE 8 v h (len_9 v (omega (arith, a)) (omega (arith, b)) (omega (arith, c))) (λ s at. refl) e
      ]
    ]
  ]

  -- every string whose length is below 2^64
  pub str_back : (bs : List ℕ) → length bs < 2 ^ 64 → drop at s ≡ str_bytes bs ++ t
      → str_at s at ≡ gives (record { at = at + length (len_bytes (length bs)); len = length bs })
  unfolding str_at
  str_back bs h e =
      let f : drop at s ≡ len_bytes (length bs) ++ (bs ++ t) = e ∙ append_assoc (len_bytes (length bs)) bs t in
      let n : at + length (len_bytes (length bs)) + length bs ≤ length s =
      omega (arith, length-drop at s, ap length f, length-append (len_bytes (length bs)) (bs ++ t), length-append bs t, len_length (length bs)) in
      rw (Rattle.wire.specs.LenEncLaws.int_back s at (bs ++ t) (length bs) h f)
      (simp (le-leb (at + length (len_bytes (length bs)) + length bs) (length s) n))

-- ---- parts

pub part_fits : (s : List ℕ) (at n : ℕ) → at + n ≤ length s → part_of s at n ≡ take n (drop at s)
unfolding part_of
part_fits s at n h = simp (le-leb (at + n) (length s) h)

pub part_none : (s : List ℕ) (at n : ℕ) → length s < at + n → part_of s at n ≡ []
unfolding part_of
part_none s at n h = simp (lt-leb (at + n) (length s) h)

-- where a string was read, the part itself is the string
pub part_back : (s : List ℕ) (at : ℕ) (bs t : List ℕ) → drop at s ≡ str_bytes bs ++ t
    → part_of s (at + length (len_bytes (length bs))) (length bs) ≡ bs
part_back s at bs t e =
    let f : drop at s ≡ len_bytes (length bs) ++ (bs ++ t) = e ∙ append_assoc (len_bytes (length bs)) bs t in
    let n : at + length (len_bytes (length bs)) + length bs ≤ length s =
    omega (arith, length-drop at s, ap length f, length-append (len_bytes (length bs)) (bs ++ t), length-append bs t, len_length (length bs)) in
    part_fits s (at + length (len_bytes (length bs))) (length bs) n
    ∙ ap (take (length bs)) (sym (drop-drop (length (len_bytes (length bs))) at s) ∙ ap (drop (length (len_bytes (length bs)))) f
    ∙ drop_at_seam (len_bytes (length bs)) (bs ++ t))
    ∙ take_at bs t (length bs) refl
  where
    drop_at_seam : (a b : List ℕ) → drop (length a) (a ++ b) ≡ b
    drop_at_seam a b = lib.Seq.drop-append_seam a b

-- a string that was read lies within the bytes
within_by : (s : List ℕ) (at n : ℕ) (p : Text) (b : Bool) → leb (at + n) (length s) ≡ b
    → cond b (gives (record { at = at; len = n })) (refused 8) ≡ gives p → p.at + p.len ≤ length s
within_by s at n p true t e =
    let q : record { at = at; len = n } ≡ p = cc e in
    rw (← q) (leb-true (at + n) (length s) t)
within_by s at n p false t e = let z : ◌≡◌ {A = ℕ} 0 1 = cc e in absurd (omega arith)

pub within-fits : (s : List ℕ) (at n : ℕ) (p : Text) → within s at n ≡ gives p → p.at + p.len ≤ length s
within-fits s at n p e = within_by s at n p (leb (at + n) (length s)) refl e

str_by : (s : List ℕ) (p : Text) (l : Said (Parsed ℕ)) → and_then l (λ n. within s n.next n.value) ≡ gives p → p.at + p.len ≤ length s
str_by s p (gives n) e = within-fits s n.next n.value p e
str_by s p (refused k) e = let z : ◌≡◌ {A = ℕ} 0 1 = cc e in absurd (omega arith)

pub str_within : (s : List ℕ) (at : ℕ) (p : Text) → str_at s at ≡ gives p → p.at + p.len ≤ length s
unfolding str_at
str_within s at p e = str_by s p (len_at s at) e

byte_str_by : (s : List ℕ) (at : ℕ) (p : Text) (b : Bool) → check b 8 (within s (at + 1) (get_or s at 0)) ≡ gives p → p.at + p.len ≤ length s
byte_str_by s at p true e = within-fits s (at + 1) (get_or s at 0) p e
byte_str_by s at p false e = let z : ◌≡◌ {A = ℕ} 0 1 = cc e in absurd (omega arith)

pub byte_str_within : (s : List ℕ) (at : ℕ) (p : Text) → byte_str_at s at ≡ gives p → p.at + p.len ≤ length s
unfolding byte_str_at
byte_str_within s at p e = byte_str_by s at p (ltb at (length s)) e

-- a length below 251 is its byte
pub str_short : (s : List ℕ) (at : ℕ) → at < length s → get_or s at 0 < 251 → str_at s at ≡ within s (at + 1) (get_or s at 0)
unfolding str_at len_at
str_short s at l h = simp (lt-ltb _ _ l, lt-ltb _ _ h, add-zero)
