-- Laws of session records.
use Rattle.wire.specs.declared.Text.{Text}
use Rattle.wire.specs.declared.Parsed.{Parsed}
use Rattle.refusal.specs.declared.Refusal.{Refusal}
use Rattle.std.specs.Prelude.{ℕ, ◌+◌, ◌≤◌, ◌<◌, ◌≡◌, refl, Bool, true, false, cond, List, [], ◌∷◌, ◌++◌, length, take, drop, get_or, eqb, ltb, leb, Result, Ok, Err}
use Rattle.std.proofs.Common.{sym, ap, ◌∙◌, append_assoc, arith, length-append, length-take, take_at, drop_at, eqb-true, eq-eqb, ne_eqb, le-ltb, lt-ltb, le-leb}
use Rattle.std.proofs.Math.Decide.{dec_lt}
use Rattle.refusal.specs.Said.{Said, gives, refused, and_then, gives_same, gives_not_refused, said_of}
use Rattle.wire.specs.Le.{le_at}
use Rattle.wire.specs.LenEnc.{len_at, len_enc_int, by_lead, led, within, str_at, part_of}
use Rattle.wire.specs.LenEncLaws.{within-fits, part_fits}
use Rattle.wire.specs.Room.{Wrote, patch}
use Rattle.wire.specs.RoomLaws.{wrote_left, wrote_said, length-patch, patch-append}
use Rattle.session.specs.Record.{is_one, variable_at, pair_at, end, pair}
use Rattle.session.specs.declared.Record.{Record}
use Rattle.session.specs.declared.SessionStateChange.{SessionStateChange}

-- ---- a record of one string

-- what is answered where the string was read so, and `makes` says what its record's type makes of it
abbrev pub IsReadAs : (Text → SessionStateChange → Type 0) → Said Text → Result Record Refusal → Type 0
IsReadAs makes (gives t) r = (change : SessionStateChange) × makes t change × (r ≡ Ok (record { change = change; used = t.at + t.len }))
IsReadAs makes (refused n) r = said_of r ≡ refused n

-- ---- where a string that was read lies: behind its place, and within the bytes

-- by either way of a test
either : {A : Type 0} {P : Type 0} {z : A} (t : Bool) {x y : A} → (x ≡ z → P) → (y ≡ z → P) → cond t x y ≡ z → P
either true f g e = f e
either false f g e = g e

pub never : {A P : Type 0} {a : A} {k : ℕ} → refused k ≡ gives a → P
never e = let z : ◌≡◌ {A = ℕ} 0 1 = cc e in absurd (omega arith)

module _ (s : List ℕ) (at : ℕ) (n : Parsed ℕ) where
  behind : (k v : ℕ) → gives (len_enc_int at k v) ≡ gives n → at < n.next
  behind k v e = let q : len_enc_int at k v ≡ n = gives_same e in rw (← q) (omega arith)

  behind-led : (k : ℕ) → led s at k ≡ gives n → at < n.next
  behind-led k = either (leb (at + 1 + k) (length s)) (behind k (le_at s (at + 1) k)) never

  behind_lead : (b : ℕ) → by_lead s at b ≡ gives n → at < n.next
  behind_lead b =
      either (ltb b 251) (behind 0 b)
      (either (eqb b 0xFC) (behind-led 2)
      (either (eqb b 0xFD) (behind-led 3)
      (either (eqb b 0xFE) (behind-led 8) never)))

  int_behind : len_at s at ≡ gives n → at < n.next
  unfolding len_at
  int_behind = either (ltb at (length s)) (behind_lead (get_or s at 0)) never

pub str_in : (s : List ℕ) (at : ℕ) (p : Text) → str_at s at ≡ gives p → (at < p.at) × (p.at + p.len ≤ length s)
unfolding str_at
str_in s at p e = by (len_at s at) refl e
  where
    by : (r : Said (Parsed ℕ)) → len_at s at ≡ r → and_then r (λ n. within s n.next n.value) ≡ gives p → (at < p.at) × (p.at + p.len ≤ length s)
    by (gives n) f g =
        let place : p.at ≡ n.next =
        either (leb (n.next + n.value) (length s)) (λ h. ap (λ (q : Text). q.at) (sym (gives_same h))) never g in
        (rw place (int_behind s at n f), within-fits s n.next n.value p g)
    by (refused k) f g = never g

-- where a string was read, its end is a place within the bytes
pub text_in : (s : List ℕ) (at : ℕ) (p : Text) → gives p ≡ str_at s at → p.at + p.len ≤ length s
text_in s at p e = (str_in s at p (sym e)).1

-- past the end no string is read
pub str_past : (s : List ℕ) (at : ℕ) → length s ≤ at → str_at s at ≡ refused 8
unfolding str_at len_at
str_past s at h = simp (le-ltb at (length s) h)

-- ---- "true only for the one-byte string `1`"

is_one_true : (l : List ℕ) → is_one l ≡ true → l ≡ 0x31 ∷ []
is_one_true [] e = let z : ◌≡◌ {A = ℕ} 0 1 = cc e in absurd (omega arith)
is_one_true (b ∷ []) e = ap (λ (n : ℕ). n ∷ []) (eqb-true b 0x31 e)
is_one_true (b ∷ c ∷ bs) e = let z : ◌≡◌ {A = ℕ} 0 1 = cc e in absurd (omega arith)

pub same_one : (r : Bool) (l : List ℕ) → (r ≡ true → l ≡ 0x31 ∷ []) × (l ≡ 0x31 ∷ [] → r ≡ true) → r ≡ is_one l
same_one true l h = sym (ap is_one (h.0 refl))
same_one false l h = by (is_one l) refl
  where
    by : (t : Bool) → is_one l ≡ t → false ≡ t
    by true e = h.1 (is_one_true l e)
    by false e = refl

-- ---- two writers, one behind the other

pub wrote_then : (a b d : List ℕ) (at : ℕ) {n : ℕ} {r r' : Result ℕ Refusal} {d₁ d₂ : List ℕ} → n ≡ length a → at + n + length b ≤ length d
    → Wrote a d at r d₁ → Wrote b d₁ (at + n) r' d₂ → Wrote (a ++ b) d at r' d₂
wrote_then a b d at {n} {r} {r'} {d₁} {d₂} e h w v =
    let fits : at + (length a + length b) ≤ length d = omega arith in
    let v' : Wrote b d₁ (at + length a) r' d₂ = rw e at v in
    let f : d₁ ≡ patch d at a = wrote_left w (omega arith) in
    let k : length d₁ ≡ length d = ap length f ∙ length-patch d at a (omega arith) in
    let m : at + length a + length b ≡ at + length (a ++ b) = simp length-append (omega arith) in
    let l : at + length (a ++ b) ≤ length d = simp length-append fits in
    record {
      said = rw (le-leb (at + length (a ++ b)) (length d) l) (wrote_said v' (omega arith) ∙ ap gives m);
      left = rw (le-leb (at + length (a ++ b)) (length d) l) (wrote_left v' (omega arith) ∙ rw f (patch-append d at a b fits));
    }

-- the second goes on at the place that the first answered
pub wrote_on : (a b d : List ℕ) (at : ℕ) {p : ℕ} {r : Result ℕ Refusal} {d₁ d₂ : List ℕ} → Wrote a d at (Ok p) d₁ → Wrote b d₁ p r d₂
    → at + length a + length b ≤ length d → Wrote (a ++ b) d at r d₂
wrote_on a b d at {p} w v h = let e : p ≡ at + length a = gives_same (wrote_said w (omega arith)) in wrote_then a b d at refl h w (rw e at v)

-- a writer whose bytes fit is not refused
pub wrote_never : {P : Type 0} {bs d : List ℕ} {at : ℕ} {q : Refusal} {d' : List ℕ} → Wrote bs d at (Err q) d' → at + length bs ≤ length d → P
wrote_never w h = absurd (gives_not_refused (sym (wrote_said w h)))

-- what a writer wrote is the part that it says
pub wrote_part : {bs d : List ℕ} {at : ℕ} {r : Result ℕ Refusal} {d' : List ℕ} → Wrote bs d at r d' → at + length bs ≤ length d → part_of d' at (length bs) ≡ bs
wrote_part {bs} {d} {at} w h =
    let rest = drop (at + length bs) d in
    let front : length (take at d) ≡ at = simp length-take (omega arith) in
    rw (wrote_left w h)
    (part_fits (patch d at bs) at (length bs) (omega (arith, length-patch d at bs h))
    ∙ ap (λ (l : List ℕ). take (length bs) (drop at l)) (append_assoc (take at d) bs rest)
    ∙ ap (take (length bs)) (drop_at (take at d) (bs ++ rest) at front)
    ∙ take_at bs rest (length bs) refl)

-- ---- the cursor

pub variable_end : (s : List ℕ) (at : ℕ) → at ≡ length s → variable_at s at ≡ gives end
unfolding variable_at
variable_end s at e = simp (eq-eqb at (length s) e)

-- before the end and past it a call is a pair's: past it no name is read
pub variable_pair : (s : List ℕ) (at : ℕ) → (at ≡ length s → ⊥) → variable_at s at ≡ and_then (pair_at s at) (λ v. gives (pair v))
unfolding variable_at
variable_pair s at n = elim (dec_lt at (length s)) [
  | yes h ↦ simp (ne_eqb at (length s) n, lt-ltb at (length s) h)
  | no h ↦ simp (ne_eqb at (length s) n, le-ltb at (length s) (omega (arith, h)), str_past s at (omega (arith, h)))
]

-- what the proof of the cursor leans on
pub ruleset cursor = (text_in, variable_end, variable_pair)
