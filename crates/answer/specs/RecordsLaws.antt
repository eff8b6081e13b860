-- Laws of the session records of an OK packet: the cursor's cases, and which part is handed on for each type.
use Rattle.wire.specs.declared.Text.{Text}
use Rattle.std.specs.Prelude.{ℕ, ◌+◌, ◌-◌, ◌≤◌, ◌<◌, ◌≡◌, refl, Bool, true, false, cond, List, length, take, get_or, eqb}
use Rattle.std.proofs.Common.{sym, ap, ◌∙◌, arith, length-take-le, eq-eqb, ne_eqb, le-leb}
use Rattle.std.proofs.Math.Decide.{dec_lt}
use Rattle.std.proofs.lemmas.Bool.{lt-leb}
use Rattle.refusal.specs.Said.{Said, gives, refused, and_then}
use Rattle.wire.specs.LenEnc.{str_at, part_of}
use Rattle.wire.specs.LenEncLaws.{part_fits}
use Rattle.session.specs.RecordLaws.{str_in, never}
use Rattle.answer.specs.AnswerLaws.{num_there, num_short, one_byte}
use Rattle.answer.specs.Records.{handing, handed_of, end, one, next_in, next_at}
use Rattle.answer.specs.declared.Handed.{Handed}

-- ---- which part is handed on

-- a one_byte body of type 2: from its length byte on
pub handed_digit : (from at : ℕ) → handed_of 2 from at 1 ≡ handing 2 from (at + 1 - from) (at + 1)
unfolding handed_of
handed_digit from at = refl

-- any other body of type 2, and each body of another type: from behind its length
pub handed_long : (from at len : ℕ) → (len ≡ 1 → ⊥) → handed_of 2 from at len ≡ handing 2 at len (at + len)
unfolding handed_of
handed_long from at len n = simp (ne_eqb len 1 n)

pub handed_other : (kind from at len : ℕ) → (kind ≡ 2 → ⊥) → handed_of kind from at len ≡ handing kind at len (at + len)
unfolding handed_of
handed_other kind from at len n = simp (ne_eqb kind 2 n)

-- ---- the cursor

pub next_end : (s : List ℕ) (at : ℕ) → at ≡ length s → next_in s at ≡ gives end
unfolding next_in
next_end s at e = simp (eq-eqb at (length s) e)

pub next_past : (s : List ℕ) (at : ℕ) → length s < at → next_in s at ≡ refused 8
unfolding next_in
next_past s at h = simp (ne_eqb at (length s) (λ e. omega arith), num_short s at 1 (omega arith))

pub next_one : (s : List ℕ) (at : ℕ) → at < length s
    → next_in s at ≡ and_then (str_at s (at + 1)) (λ body. gives (one (handed_of (get_or s at 0) (at + 1) body.at body.len)))
unfolding next_in
next_one s at h =
    simp (ne_eqb at (length s) (λ e. omega arith), num_there s at 1 (omega arith), one_byte s at h) (by (str_at s (at + 1)))
  where
    by : (r : Said Text)
        → and_then (and_then r (λ b. gives (handed_of (get_or s at 0) (at + 1) b.at b.len))) (λ h. gives (one h))
        ≡ and_then r (λ b. gives (one (handed_of (get_or s at 0) (at + 1) b.at b.len)))
    by (gives b) = refl
    by (refused k) = refl

-- what the proof of the cursor leans on
pub ruleset next_cases = (str_in, next_end, next_past, next_one)

pub next-over : (s : List ℕ) (at limit : ℕ) → length s < limit → next_at s at limit ≡ refused 8
unfolding next_at
next-over s at limit h = simp (lt-leb limit (length s) h)

pub next-within : (s : List ℕ) (at limit : ℕ) → limit ≤ length s → next_at s at limit ≡ next_in (part_of s 0 limit) at
unfolding next_at
next-within s at limit h = simp (le-leb limit (length s) h, part_fits s 0 limit (omega arith))

-- ---- the cursor moves on with each record, and never past the end; what is handed on lies behind the type, and ends where the record does

abbrev Lies : Handed → ℕ → ℕ → Type 0
Lies h from last = (from ≤ h.at) × (h.at + h.len ≡ last) × (h.next ≡ last)

handed_lies : (kind from at len : ℕ) → from ≤ at → Lies (handed_of kind from at len) from (at + len)
unfolding handed_of
handed_lies kind from at len h = by (eqb kind 2) (eqb len 1)
  where
    by : (a b : Bool)
        → Lies
        (cond a (cond b (handing kind from (at + len - from) (at + len)) (handing kind at len (at + len))) (handing kind at len (at + len)))
        from
        (at + len)
    by true true = (omega arith, omega arith, refl)
    by true false = (h, refl, refl)
    by false b = (h, refl, refl)

moves_in : (r : List ℕ) (at : ℕ) (h : Handed) → next_in r at ≡ gives (one h)
    → (at < h.at) × (h.at + h.len ≡ h.next) × (at < h.next) × (h.next ≤ length r)
moves_in r at h e = elim (dec_lt at (length r)) [
  | yes l ↦ by (str_at r (at + 1)) refl (sym (next_one r at l) ∙ e)
  | no l ↦ elim (dec_lt (length r) at) [
    | yes p ↦ never (sym (next_past r at p) ∙ e)
    | no p ↦ let z : ◌≡◌ {A = ℕ} 0 1 = cc (sym (next_end r at (omega (arith, l, p))) ∙ e) in absurd (omega arith)
  ]
]
  where
    Moves : Type 0
    Moves = (at < h.at) × (h.at + h.len ≡ h.next) × (at < h.next) × (h.next ≤ length r)

    by : (x : Said Text) → str_at r (at + 1) ≡ x
        → and_then x (λ b. gives (one (handed_of (get_or r at 0) (at + 1) b.at b.len))) ≡ gives (one h) → Moves
    by (gives b) f g =
        let q : handed_of (get_or r at 0) (at + 1) b.at b.len ≡ h = cc g in
        let i = str_in r (at + 1) b f in
        let k = handed_lies (get_or r at 0) (at + 1) b.at b.len (omega (arith, i)) in
        rw (← q) (omega (arith, k), omega (arith, k), omega (arith, k, i), omega (arith, k, i))
    by (refused k) f g = never g

pub record_moves : (s : List ℕ) (at limit : ℕ) (h : Handed) → next_at s at limit ≡ gives (one h)
    → (at < h.at) × (h.at + h.len ≡ h.next) × (at < h.next) × (h.next ≤ limit) × (limit ≤ length s)
record_moves s at limit h e = elim (dec_lt (length s) limit) [
  | yes p ↦ never (sym (next-over s at limit p) ∙ e)
  | no p ↦
      let l : limit ≤ length s = omega (arith, p) in
      let f : part_of s 0 limit ≡ take limit s = part_fits s 0 limit (omega arith) in
      let m = moves_in (take limit s) at h (sym (ap (λ (r : List ℕ). next_in r at) f) ∙ sym (next-within s at limit l) ∙ e) in
      (m.0, m.1, m.2, omega (arith, m.3, length-take-le limit s l), l)
]
