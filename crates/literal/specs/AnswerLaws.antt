-- What an answer says of the verdict, what each outcome of `checked` is, and that what an answer says determines it.
use Rattle.literal.specs.declared.Bad.{Bad}
use Rattle.std.specs.Prelude.{ℕ, ◌≤◌, ◌<◌, ◌≡◌, refl, List, length, Result, Ok, Err}
use Rattle.std.proofs.Common.{arith, sym, ap, ap₂, ◌∙◌, le-leb}
use Rattle.std.proofs.lemmas.Bool.{lt-leb}
use Rattle.refusal.specs.Number.{number, number_same}
use Rattle.refusal.specs.declared.Refusal.{Refusal}
use Rattle.refusal.specs.declared.Refusal.TheVariants.{NoRoom}
use Rattle.wire.specs.Room.{patch}
use Rattle.literal.specs.Checked.{Verdict, means, bad, fine, refused, said, counted, Meant}
use Rattle.literal.specs.WriteLaws.{meaning_of}

fine_same : {m n : ℕ} → fine m ≡ fine n → m ≡ n
fine_same e = cc e

fine_not_refused : {m n p : ℕ} → fine m ≡ refused n p → ⊥
fine_not_refused e = let z : ◌≡◌ {A = ℕ} 0 1 = cc e in omega arith

refused_number : {m n p q : ℕ} → refused m p ≡ refused n q → m ≡ n
refused_number e = cc e

refused_place : {m n p q : ℕ} → refused m p ≡ refused n q → p ≡ q
refused_place e = cc e

-- what a count tells
pub counted_sound : (v : Verdict) {n : ℕ} → fine n ≡ counted v → v ≡ means (meaning_of v)
counted_sound (means bs) e = refl
counted_sound (bad p) e = absurd (fine_not_refused e)

pub counted-length : (v : Verdict) {n : ℕ} → fine n ≡ counted v → n ≡ length (meaning_of v)
counted-length (means bs) e = fine_same e
counted-length (bad p) e = absurd (fine_not_refused e)

-- the three outcomes: no literal, no room, and the bytes written
pub meant_bad : (v : Verdict) (d : List ℕ) (r : Refusal) (p : ℕ) → refused (number r) p ≡ counted v → Meant v d (Err (record { why = r; place = p })) d
meant_bad (means bs) d r p e = absurd (fine_not_refused (sym e))
meant_bad (bad q) d r p e = record { tells = e; left = refl }

pub meant_full : (v : Verdict) (d : List ℕ) {n : ℕ} → fine n ≡ counted v → length d < n → Meant v d (Err (record { why = NoRoom; place = 0 })) d
meant_full (means bs) d e h =
    let k = lt-leb (length bs) (length d) (omega (arith, fine_same e)) in record { tells = simp k; left = simp k }
meant_full (bad q) d e h = absurd (fine_not_refused e)

pub meant_fits : (v : Verdict) (d d' : List ℕ) (n : ℕ) → fine n ≡ counted v → n ≤ length d → d' ≡ patch d 0 (meaning_of v) → Meant v d (Ok n) d'
meant_fits (means bs) d d' n e h p =
    let k = le-leb (length bs) (length d) (omega (arith, fine_same e)) in record { tells = simp k e; left = simp k p }
meant_fits (bad q) d d' n e h p = absurd (fine_not_refused e)

-- ---- determined

abbrev at_place : Refusal → ℕ → Result ℕ Bad
at_place r p = Err (record { why = r; place = p })

pub answer_same : (a b : Result ℕ Bad) → said a ≡ said b → a ≡ b
answer_same (Ok m) (Ok n) e = ap Ok (fine_same e)
answer_same (Ok m) (Err b) e = absurd (fine_not_refused e)
answer_same (Err a) (Ok n) e = absurd (fine_not_refused (sym e))
answer_same (Err a) (Err b) e = ap₂ at_place (number_same a.why b.why (refused_number e)) (refused_place e)

pub meant_same : {v : Verdict} {d : List ℕ} {a b : Result ℕ Bad} {d₁ d₂ : List ℕ} → Meant v d a d₁ → Meant v d b d₂ → (a ≡ b) × (d₁ ≡ d₂)
meant_same {a = a} {b = b} x y = (answer_same a b (x.tells ∙ sym y.tells), x.left ∙ sym y.left)
