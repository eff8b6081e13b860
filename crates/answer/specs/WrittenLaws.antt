-- Laws of what is written: two writers of which the second goes first.
use Rattle.std.specs.Prelude.{ℕ, ◌+◌, ◌≤◌, ◌<◌, ◌≡◌, refl, Bool, true, false, List, [], ◌∷◌, ◌++◌, length, take, drop, leb, Result, Ok, Err}
use Rattle.std.proofs.Common.{sym, ap, ◌∙◌, append_assoc, arith, length-append, take-take, drop_at, length-take-le, le-leb, leb-true, leb-false, eq-eqb, ne_eqb}
use Rattle.std.proofs.lemmas.List.{take-append-le}
use Rattle.std.proofs.lemmas.Bool.{lt-leb}
use Rattle.refusal.specs.Said.{gives, refused, gives_not_refused, said_of}
use Rattle.refusal.specs.declared.Refusal.{Refusal}
use Rattle.wire.specs.Le.{le_bytes}
use Rattle.wire.specs.LeLaws.{le_length}
use Rattle.wire.specs.LenEnc.{len_bytes}
use Rattle.wire.specs.LenEncLaws.{len_length}
use Rattle.wire.specs.Room.{Wrote, patch}
use Rattle.wire.specs.RoomLaws.{wrote_left, wrote_full, has_yes, has_no, length-patch}
use Rattle.session.specs.RecordLaws.{wrote_on, wrote_never}
use Rattle.answer.specs.Written.{words, ok_head, err_head, err_bytes, WroteErr}

-- some bytes, and others put before them
pub patch-before : (d : List ℕ) (at : ℕ) (a b : List ℕ) → at + (length a + length b) ≤ length d
    → patch (patch d (at + length a) b) at a ≡ patch d at (a ++ b)
patch-before d at a b h =
    let n = at + length a in
    let rest = drop (n + length b) d in
    let front : length (take n d) ≡ n = length-take-le n d (omega arith) in
    let t : take at (patch d n b) ≡ take at d =
    ap (take at) (append_assoc (take n d) b rest) ∙ take-append-le at (take n d) (b ++ rest) (omega (arith, front)) ∙ take-take at n d (omega arith) in
    let u : drop n (patch d n b) ≡ b ++ rest = ap (drop n) (append_assoc (take n d) b rest) ∙ drop_at (take n d) (b ++ rest) n front in
    let m : n + length b ≡ at + length (a ++ b) = omega (arith, length-append a b) in
    rw (t, u)
    (sym (append_assoc (take at d ++ a) b rest) ∙ ap (λ (x : List ℕ). x ++ rest) (append_assoc (take at d) a b)
    ∙ ap (λ (k : ℕ). take at d ++ (a ++ b) ++ drop k d) m)

module _ (a b d : List ℕ) (at : ℕ) {n : ℕ} (e : n ≡ length a) where
  sum : at + n + length b ≡ at + length (a ++ b)
  sum = omega (arith, length-append a b)

  -- the bytes b fit behind a, and then a is written before them
  pub wrote_before : {m : ℕ} {r : Result ℕ Refusal} {d₁ d₂ : List ℕ} → Wrote b d (at + n) (Ok m) d₁ → Wrote a d₁ at r d₂ → Wrote (a ++ b) d at (Ok m) d₂
  wrote_before {m} {r} {d₁} {d₂} w v = by (leb (at + n + length b) (length d)) refl
    where
      by : (t : Bool) → leb (at + n + length b) (length d) ≡ t → Wrote (a ++ b) d at (Ok m) d₂
      by true t =
          let fits : at + n + length b ≤ length d = leb-true (at + n + length b) (length d) t in
          let l : at + length (a ++ b) ≤ length d = omega (arith, sum) in
          let f : d₁ ≡ patch d (at + n) b = wrote_left w fits in
          let k : length d₁ ≡ length d = ap length f ∙ length-patch d (at + n) b fits in
          let p : d₂ ≡ patch d₁ at a = wrote_left v (omega (arith, e)) in
          let q : patch (patch d (at + n) b) at a ≡ patch d at (a ++ b) =
          ap (λ (x : ℕ). patch (patch d (at + x) b) at a) e ∙ patch-before d at a b (omega (arith, e)) in
          record {
            said = rw (le-leb (at + length (a ++ b)) (length d) l) ((rw t at w.said) ∙ ap gives sum);
            left = rw (le-leb (at + length (a ++ b)) (length d) l) (p ∙ ap (λ (x : List ℕ). patch x at a) f ∙ q);
          }
      by false t = absurd (gives_not_refused (rw t at w.said))

  -- they don't: then nothing is written
  pub wrote_before_not : {q : Refusal} {d₁ : List ℕ} → Wrote b d (at + n) (Err q) d₁ → Wrote (a ++ b) d at (Err q) d₁
  wrote_before_not {q} {d₁} w = by (leb (at + n + length b) (length d)) refl
    where
      by : (t : Bool) → leb (at + n + length b) (length d) ≡ t → Wrote (a ++ b) d at (Err q) d₁
      by true t = absurd (gives_not_refused (sym (rw t at w.said)))
      by false t =
          let l : length d < at + length (a ++ b) = omega (arith, sum, leb-false (at + n + length b) (length d) t) in
          record {
            said = rw (lt-leb (at + length (a ++ b)) (length d) l) (rw t at w.said);
            left = rw (lt-leb (at + length (a ++ b)) (length d) l) (rw t at w.left);
          }

-- how long the parts are
pub words-length : (a b : ℕ) → length (words a b) ≡ 4
words-length a b = omega (arith, length-append (le_bytes 2 a) (le_bytes 2 b), le_length 2 a, le_length 2 b)

pub ok_head_length : (rows id status warnings : ℕ) → length (ok_head rows id status warnings) ≡ 5 + length (len_bytes rows) + length (len_bytes id)
ok_head_length rows id status warnings =
    omega (
      arith,
      length-append ((0x00 ∷ []) ++ len_bytes rows ++ len_bytes id) (words status warnings),
      length-append ((0x00 ∷ []) ++ len_bytes rows) (len_bytes id),
      words-length status warnings,
    )

pub err_head_length : (code : ℕ) (state : List ℕ) → length state ≡ 5 → length (err_head code state) ≡ 9
err_head_length code state e =
    omega (
      arith,
      length-append ((0xFF ∷ []) ++ le_bytes 2 code ++ (0x23 ∷ [])) state,
      length-append ((0xFF ∷ []) ++ le_bytes 2 code) (0x23 ∷ []),
      le_length 2 code,
    )

-- a byte by itself
pub byte_alone : (b : ℕ) → b < 256 → le_bytes 1 b ≡ b ∷ []
unfolding le_bytes
byte_alone b h = ap (λ (n : ℕ). n ∷ []) (omega arith)

-- an ERR packet with a state of five bytes, and with another
module _ (code : ℕ) (state message d : List ℕ) (at : ℕ) where
  pub err_wrote : {r : Result ℕ Refusal} {d' : List ℕ} → length state ≡ 5 → Wrote (err_bytes code state message) d at r d' → WroteErr code state message d at r d'
  err_wrote e w = record { said = simp (eq-eqb (length state) 5 e) w.said; left = simp (eq-eqb (length state) 5 e) w.left }

  pub err_not : {r : Result ℕ Refusal} → (length state ≡ 5 → ⊥) → said_of r ≡ refused 8 → WroteErr code state message d at r d
  err_not n s = record { said = simp (ne_eqb (length state) 5 n) s; left = simp (ne_eqb (length state) 5 n) }

-- ---- writers one behind the other

pub ok_head_wrote : (rows id status warnings : ℕ) (d : List ℕ) (at : ℕ) {p₁ p₂ p₃ : ℕ} {r : Result ℕ Refusal} {d₁ d₂ d₃ d₄ : List ℕ}
    → at + length (ok_head rows id status warnings) ≤ length d → Wrote (0x00 ∷ []) d at (Ok p₁) d₁ → Wrote (len_bytes rows) d₁ p₁ (Ok p₂) d₂
    → Wrote (len_bytes id) d₂ p₂ (Ok p₃) d₃ → Wrote (words status warnings) d₃ p₃ r d₄ → Wrote (ok_head rows id status warnings) d at r d₄
ok_head_wrote rows id status warnings d at h w₁ w₂ w₃ w₄ =
    let l = ok_head_length rows id status warnings in
    let two = (0x00 ∷ []) ++ len_bytes rows in
    let k = length-append two (len_bytes id) in
    let second = wrote_on (0x00 ∷ []) (len_bytes rows) d at w₁ w₂ (omega (arith, l)) in
    let third = wrote_on two (len_bytes id) d at second w₃ (omega (arith, l)) in
    wrote_on (two ++ len_bytes id) (words status warnings) d at third w₄ (omega (arith, l, k, words-length status warnings))

pub err_head_wrote : (code : ℕ) (state d : List ℕ) (at : ℕ) {p₁ p₂ p₃ : ℕ} {r : Result ℕ Refusal} {d₁ d₂ d₃ d₄ : List ℕ}
    → at + length (err_head code state) ≤ length d → Wrote (0xFF ∷ []) d at (Ok p₁) d₁ → Wrote (le_bytes 2 code) d₁ p₁ (Ok p₂) d₂
    → Wrote (0x23 ∷ []) d₂ p₂ (Ok p₃) d₃ → Wrote state d₃ p₃ r d₄ → Wrote (err_head code state) d at r d₄
err_head_wrote code state d at h w₁ w₂ w₃ w₄ =
    let two = (0xFF ∷ []) ++ le_bytes 2 code in
    let three = two ++ (0x23 ∷ []) in
    let l = length-append (0xFF ∷ []) (le_bytes 2 code) in
    let k = length-append two (0x23 ∷ []) in
    let n = length-append three state in
    let second = wrote_on (0xFF ∷ []) (le_bytes 2 code) d at w₁ w₂ (omega (arith, l, k, n)) in
    let third = wrote_on two (0x23 ∷ []) d at second w₃ (omega (arith, k, n)) in
    wrote_on three state d at third w₄ (omega (arith, n))

-- what a writer's proof leans on
pub ruleset writing = (has_yes, has_no, wrote_full, wrote_never, le_length, len_length, words-length, err_head_length, ok_head_length)
