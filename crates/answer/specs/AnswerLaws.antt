-- Laws of OK, ERR and EOF packets: each case as the readers meet it.
use Rattle.wire.specs.declared.Text.{Text}
use Rattle.std.specs.Prelude.{ℕ, ◌+◌, ◌-◌, ◌≤◌, ◌<◌, ◌≡◌, Bool, List, length, take, get_or, ltb}
use Rattle.std.proofs.Math.Path.{refl}
use Rattle.std.proofs.Common.{ap, ◌∙◌, arith, drop-cons}
use Rattle.std.proofs.Math.Bool.{true, false, cond}
use Rattle.std.proofs.Math.Decide.{dec_lt}
use borrow.Author.Tests.{ne_eqb, le-leb, lt-leb}
use Rattle.refusal.specs.Said.{Said, gives, refused, and_then, gives_same}
use Rattle.wire.specs.Le.{le_of, le_at, num_at}
use Rattle.wire.specs.LenEnc.{str_at}
use Rattle.session.specs.RecordLaws.{str_in, never}
use Rattle.answer.specs.Answer.{answered, text, texts, rest_of, tracks, tracked_texts, texts_at, ok_of, ok_rest, err_at, eof_at}
use Rattle.answer.specs.declared.Packet.TheVariants as P
use Rattle.answer.specs.declared.Texts.{Texts}

-- ---- numbers

-- k bytes that are there, and k bytes that are not
pub num_there : (s : List ℕ) (at k : ℕ) → at + k ≤ length s → num_at s at k ≡ gives (record { value = le_at s at k; next = at + k })
unfolding num_at
num_there s at k h = simp (le-leb (at + k) (length s) h)

pub num_short : (s : List ℕ) (at k : ℕ) → length s < at + k → num_at s at k ≡ refused 8
unfolding num_at
num_short s at k h = simp (lt-leb (at + k) (length s) h)

-- one byte is the number that it is
pub one_byte : (s : List ℕ) (at : ℕ) → at < length s → le_at s at 1 ≡ get_or s at 0
unfolding le_of
one_byte s at h = ap (λ (l : List ℕ). le_of (take 1 l)) (drop-cons s at 0 h) ∙ omega arith

-- ---- EOF

pub eof_short : (s : List ℕ) → length s < 5 → eof_at s ≡ refused 8
unfolding eof_at
eof_short s h = elim (dec_lt (length s) 3) [
  | yes a ↦ simp (num_short s 1 2 a)
  | no a ↦ simp (num_there s 1 2 (omega (arith, a)), num_short s 3 2 h)
]

pub eof_read : (s : List ℕ) → 5 ≤ length s → eof_at s ≡ gives (answered (P.Eof (record { warnings = le_at s 1 2; status = le_at s 3 2 })) 5)
unfolding eof_at
eof_read s h = simp (num_there s 1 2 (omega arith), num_there s 3 2 h)

-- ---- ERR

pub err_short : (s : List ℕ) → length s < 4 → err_at s ≡ refused 8
unfolding err_at
err_short s h = elim (dec_lt (length s) 3) [
  | yes a ↦ simp (num_short s 1 2 a)
  | no a ↦ simp (num_there s 1 2 (omega (arith, a)), num_short s 3 1 h)
]

module _ (s : List ℕ) (h : 4 ≤ length s) where
  pub err_unmarked : (get_or s 3 0 ≡ 0x23 → ⊥) → err_at s ≡ refused 14
  unfolding err_at
  err_unmarked n =
      simp (num_there s 1 2 (omega arith), num_there s 3 1 h, one_byte s 3 (omega arith), ne_eqb (get_or s 3 0) 0x23 n)

  pub err_cut : get_or s 3 0 ≡ 0x23 → length s < 9 → err_at s ≡ refused 8
  unfolding err_at
  err_cut e l =
      simp (num_there s 1 2 (omega arith), num_there s 3 1 h, one_byte s 3 (omega arith), e, lt-leb 9 (length s) l)

  pub err_read : get_or s 3 0 ≡ 0x23 → 9 ≤ length s
      → err_at s ≡ gives (answered (P.Err (record { code = le_at s 1 2; state = text 4 5; message = text 9 (length s - 9) })) (length s))
  unfolding err_at
  err_read e l =
      simp (num_there s 1 2 (omega arith), num_there s 3 1 h, one_byte s 3 (omega arith), e, le-leb 9 (length s) l)

-- ---- OK

pub ok_short : (s : List ℕ) (tracking : Bool) (rows id at : ℕ) → length s < at + 4 → ok_rest s tracking rows id at ≡ refused 8
unfolding ok_rest
ok_short s tracking rows id at h = elim (dec_lt (length s) (at + 2)) [
  | yes a ↦ simp (num_short s at 2 a)
  | no a ↦ simp (num_there s at 2 (omega (arith, a)), num_short s (at + 2) 2 (omega arith))
]

pub ok_numbers : (s : List ℕ) (tracking : Bool) (rows id at : ℕ) → at + 4 ≤ length s
    → ok_rest s tracking rows id at
    ≡ and_then (texts_at s (at + 4) tracking (tracks (le_at s at 2))) (λ t. gives (ok_of rows id (le_at s at 2) (le_at s (at + 2) 2) t))
unfolding ok_rest
ok_numbers s tracking rows id at h =
    let e : at + 2 + 2 ≡ at + 4 = omega arith in
    simp (num_there s at 2 (omega arith), num_there s (at + 2) 2 (omega arith), e)

-- the records end within the packet
module _ (s : List ℕ) (t : Texts) where
  abbrev In : Type 0
  In = t.records.at + t.records.len ≤ length s

  is : (a : Texts) → a.records.at + a.records.len ≤ length s → gives a ≡ gives t → In
  is a h e = let q : a ≡ t = gives_same e in rw (← q) h

  second : (m : Text) (at : ℕ) (r : Said Text) → str_at s at ≡ r → and_then r (λ p. gives (texts m p)) ≡ gives t → In
  second m at (gives p) f e = is (texts m p) (str_in s at p f).1 e
  second m at (refused k) f e = never e

  first : (at : ℕ) (more : Bool) (r : Said Text) → str_at s at ≡ r
      → and_then r
      (λ m. cond more (and_then (str_at s (m.at + m.len)) (λ p. gives (texts m p))) (gives (texts m (text (m.at + m.len) 0))))
      ≡ gives t
      → In
  first at true (gives m) f e = second m (m.at + m.len) (str_at s (m.at + m.len)) refl e
  first at false (gives m) f e = is (texts m (text (m.at + m.len) 0)) (omega (arith, str_in s at m f)) e
  first at more (refused k) f e = never e

  pub texts_in : (at : ℕ) (tracking more : Bool) → at ≤ length s → texts_at s at tracking more ≡ gives t → t.records.at + t.records.len ≤ length s
  unfolding texts_at
  texts_in at false more h e = is (texts (rest_of s at) (text (length s) 0)) (omega arith) e
  texts_in at true more h e = by (ltb at (length s)) e
    where
      by : (b : Bool) → cond b (tracked_texts s at more) (gives (texts (text at 0) (text at 0))) ≡ gives t → In
      by true f = first at more (str_at s at) refl f
      by false f = is (texts (text at 0) (text at 0)) (omega arith) f

-- ---- the cases of each packet, for the proofs of its reader

pub ruleset eof_cases = (eof_short, eof_read)

pub ruleset err_cases = (err_short, err_unmarked, err_cut, err_read)

pub ruleset ok_cases = (ok_short, ok_numbers, texts_in)
