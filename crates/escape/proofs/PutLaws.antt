-- What the writers lean on: which bytes become two, what they become in parts, and bytes that lead.
use Prim.Native.Nat.{ℕ, zero, suc, ◌+◌, ◌-◌, ◌*◌, ◌%◌, ◌≤◌, ◌<◌}
use mathlib.Core.Path.{◌≡◌, refl, sym, ap, ◌∙◌}
use mathlib.Core.Bool.{Bool, true, false, cond}
use mathlib.Core.List.{List, [], ◌∷◌, ◌++◌, append_assoc, append-nil}
use native.Mathlib.Omega.{arith}
use native.Mathlib.Decide.{ℕ_discrete}
use native.Mathlib.Nat.{add-zero, zero-mul, suc-mul}
use native.Mathlib.Numerals.{add-one}
use lib.ListN.{length, take, drop, set, get_or, length-set, length-append, length-drop, take-append-drop}
use lib.Seq.{drop-drop, drop-cons, take-suc, take_all, take-add, get_or-take}
use lib.Dec.{eqb}
use mir.Val.{bool_byte as from_bool}
use Rattle.std.specs.Simd.{first_chunks}
use Rattle.std.specs.Prelude.{not, None, Some, is_some}
use Rattle.std.proofs.Common.{true≢false, length-take}
use borrow.Author.Tests.{ne_eqb, eq-eqb, eqb-true}
use Rattle.wire.specs.Room.{patch}
use Rattle.wire.specs.RoomLaws.{patch-append, patch_again, patch_cons, patch_one, patch_two, length-patch}
use Rattle.escape.specs.Quote.{quote, behind, becomes, body, quoted}
use Rattle.escape.specs.QuoteLaws.{second_of, unless_zero, more_of, mores, mores-most, body-length, quoted-length, becomes_itself, becomes_two}
use Rattle.escape.specs.Turns.{mark_of, Marks, Slots, Leads, Leading, lead_of}
use Rattle.wire.specs.TableLaws.{every, every_at, tells, told_at}

-- ---- which bytes become two, as a sum of comparisons

abbrev pub whether : (b c : ℕ) → ℕ
whether b c = from_bool (eqb b c)

abbrev pub marks : ℕ → ℕ
marks b = whether b 0x00 + whether b 0x0A + whether b 0x0D + whether b 0x1A + whether b 0x5C + whether b 0x27 + whether b 0x22

-- a fact of every byte: of each that gets a backslash, and of all others
pub by_byte : (P : ℕ → Type 0) → P 0x00 → P 0x0A → P 0x0D → P 0x1A → P 0x5C → P 0x27 → P 0x22
    → ((b : ℕ) → behind b ≡ 0 → marks b ≡ 0 → P b) → (b : ℕ) → P b
unfolding behind
by_byte P p₁ p₂ p₃ p₄ p₅ p₆ p₇ q b = elim (ℕ_discrete b 0x00) [
  | yes e ↦ rw e p₁
  | no a ↦ elim (ℕ_discrete b 0x0A) [
    | yes e ↦ rw e p₂
    | no d ↦ elim (ℕ_discrete b 0x0D) [
      | yes e ↦ rw e p₃
      | no f ↦ elim (ℕ_discrete b 0x1A) [
        | yes e ↦ rw e p₄
        | no g ↦ elim (ℕ_discrete b 0x5C) [
          | yes e ↦ rw e p₅
          | no h ↦ elim (ℕ_discrete b 0x27) [
            | yes e ↦ rw e p₆
            | no i ↦ elim (ℕ_discrete b 0x22) [
              | yes e ↦ rw e p₇
              | no j ↦ q b
                  (simp (ne_eqb b 0x00 a, ne_eqb b 0x0A d, ne_eqb b 0x0D f, ne_eqb b 0x1A g, ne_eqb b 0x5C h, ne_eqb b 0x27 i, ne_eqb b 0x22 j))
                  (simp (ne_eqb b 0x00 a, ne_eqb b 0x0A d, ne_eqb b 0x0D f, ne_eqb b 0x1A g, ne_eqb b 0x5C h, ne_eqb b 0x27 i, ne_eqb b 0x22 j))
            ]
          ]
        ]
      ]
    ]
  ]
]

pub marks_are : (b : ℕ) → marks b ≡ more_of false b
unfolding second_of behind
marks_are = by_byte (λ b. marks b ≡ more_of false b) refl refl refl refl refl refl refl (λ b z e. e ∙ sym (simp (eq-eqb (behind b) 0 z)))

pub doubles_are : (b : ℕ) → whether b 0x27 ≡ more_of true b
unfolding second_of
doubles_are b = by (eqb b quote)
  where
    by : (t : Bool) → ◌≡◌ {A = ℕ} (from_bool t) (cond (eqb (cond t quote 0) 0) 0 1)
    by true = refl
    by false = refl

pub more_most : (m : Bool) (b : ℕ) → more_of m b ≤ 1
more_most m b = by (eqb (second_of m b) 0)
  where
    by : (t : Bool) → cond t 0 1 ≤ 1
    by true = omega arith
    by false = omega arith

-- ---- bytes that lead

-- a byte more was written than is counted
pub leads-over : (xs d : List ℕ) (at y : ℕ) {d' : List ℕ} → d' ≡ patch d at (xs ++ (y ∷ [])) → at + (length xs + 1) ≤ length d → Leads xs d at d'
leads-over xs d at y e l = record {
  then = λ x h r.
      ap (λ (z : List ℕ). patch z (at + length xs) x) (e ∙ sym (patch-append d at xs (y ∷ []) l))
      ∙ patch_again (patch d at xs) (at + length xs) (y ∷ []) x h (omega (arith, length-patch d at xs (omega arith)))
      ∙ patch-append d at xs x r;
}

-- exactly those were written
pub leads_put : (xs d : List ℕ) (at : ℕ) {d' : List ℕ} → d' ≡ patch d at xs → Leads xs d at d'
leads_put xs d at e = record { then = λ x h r. ap (λ (z : List ℕ). patch z (at + length xs) x) e ∙ patch-append d at xs x r }

-- one behind the other
leads_join : {a b d : List ℕ} {at : ℕ} {d' d'' : List ℕ} → Leads a d at d' → Leads b d' (at + length a) d'' → length d' ≡ length d → Leads (a ++ b) d at d''
leads_join {a} {b} {d} {at} {d'} {d''} p q e =
    let n : length (a ++ b) ≡ length a + length b = length-append a b in
    record {
      then = λ x h r.
          let m : length (b ++ x) ≡ length b + length x = length-append b x in
          let k : at + length (a ++ b) ≡ at + length a + length b = omega (arith, n) in
          ap (λ (k : ℕ). patch d'' k x) k
          ∙ q.then x h (omega (arith, n, e))
          ∙ p.then (b ++ x) (omega (arith, m)) (omega (arith, m, n))
          ∙ ap (patch d at) (sym (append_assoc a b x));
    }

-- the second byte by an option
pub unless_none : (n : ℕ) → unless_zero n ≡ None → n ≡ 0
unless_none n e = elim (ℕ_discrete n 0) [
  | yes z ↦ z
  | no a ↦ let f : Some n ≡ None = rw (ne_eqb n 0 a) at e in absurd (cc)
]

pub unless_some : (n : ℕ) {k : ℕ} → unless_zero n ≡ Some k → (n ≡ 0 → ⊥) × (k ≡ n)
unless_some n {k} e = elim (ℕ_discrete n 0) [
  | yes z ↦ let f : None ≡ Some k = rw (eq-eqb n 0 z) at e in absurd (cc)
  | no a ↦ let f : Some n ≡ Some k = rw (ne_eqb n 0 a) at e in (a, cc)
]

-- ---- one byte

pub leading_one : (m : Bool) (b : ℕ) {xs d : List ℕ} {at r : ℕ} {d' : List ℕ} → becomes m b ≡ xs → r ≡ at + length xs → Leads xs d at d'
    → Leading m (b ∷ []) d at r d'
unfolding body
leading_one m b e k p =
    let same : body m (b ∷ []) ≡ _ = append-nil (becomes m b) ∙ e in
    record { place = rw same k; leads = rw same p }

-- two bytes are written, of which the second may be one too many
pub leading_pair : (d : List ℕ) (at b second : ℕ) (escapes : Bool) → at + 2 ≤ length d → escapes ≡ not (eqb (behind b) 0) → (escapes ≡ true → second ≡ behind b)
    → Leading false (b ∷ []) d at (at + (lead_of b escapes).1) (set (set d at (lead_of b escapes).0) (at + 1) second)
unfolding second_of
leading_pair d at b second true h e s = elim (ℕ_discrete (behind b) 0) [
  | yes z ↦ absurd (true≢false (e ∙ simp (eq-eqb (behind b) 0 z)))
  | no n ↦
      leading_one false b (becomes_two false b n ∙ ap (λ (y : ℕ). 0x5C ∷ y ∷ []) (sym (s refl))) refl
      (leads_put (0x5C ∷ second ∷ []) d at (patch_two d at 0x5C second h))
]
leading_pair d at b second false h e s = elim (ℕ_discrete (behind b) 0) [
  | yes z ↦ leading_one false b (becomes_itself false b z) refl (leads-over (b ∷ []) d at second (patch_two d at b second h) h)
  | no n ↦ absurd (true≢false (sym (e ∙ simp (ne_eqb (behind b) 0 n))))
]

-- whether a byte is one of them: by the short list
pub slots_tell : (l : List ℕ) → Slots l → (b : ℕ) → eqb (get_or l (b % 32) 0) b ≡ not (eqb (behind b) 0)
slots_tell l s b = elim (ℕ_discrete (behind b) 0) [
  | yes z ↦ ne_eqb (get_or l (b % 32) 0) b (s.unlisted b z) ∙ sym (simp (eq-eqb (behind b) 0 z))
  | no n ↦ eq-eqb (get_or l (b % 32) 0) b (s.listed b n).0 ∙ sym (simp (ne_eqb (behind b) 0 n))
]

pub slots_second : (l : List ℕ) → Slots l → (b : ℕ) → eqb (get_or l (b % 32) 0) b ≡ true → get_or l (b % 32 + 32) 0 ≡ behind b
slots_second l s b e = elim (ℕ_discrete (behind b) 0) [
  | yes z ↦ absurd (true≢false (sym e ∙ ne_eqb (get_or l (b % 32) 0) b (s.unlisted b z)))
  | no n ↦ (s.listed b n).1
]

-- no mark is the point
not_point : (b : ℕ) → behind b ≡ 0x2E → ⊥
unfolding behind
not_point =
    by_byte (λ b. behind b ≡ 0x2E → ⊥) (λ e. absurd (omega arith)) (λ e. absurd (omega arith)) (λ e. absurd (omega arith)) (λ e. absurd (omega arith))
    (λ e. absurd (omega arith)) (λ e. absurd (omega arith)) (λ e. absurd (omega arith)) (λ b z _ e. absurd (omega arith))

-- ... and by the list of all
pub marks_tell : (l : List ℕ) → Marks l → (b : ℕ) → b < 256 → not (eqb (get_or l b 0) 0x2E) ≡ not (eqb (behind b) 0)
marks_tell l s b h = elim (ℕ_discrete (behind b) 0) [
  | yes z ↦ rw (s.right b h) (simp (eq-eqb (behind b) 0 z))
  | no n ↦ rw (s.right b h) (simp (ne_eqb (behind b) 0 n, ne_eqb (behind b) 0x2E (not_point b)))
]

pub marks_second : (l : List ℕ) → Marks l → (b : ℕ) → b < 256 → not (eqb (get_or l b 0) 0x2E) ≡ true → get_or l b 0 ≡ behind b
marks_second l s b h e = elim (ℕ_discrete (behind b) 0) [
  | yes z ↦ absurd (true≢false (sym e ∙ marks_tell l s b h ∙ simp (eq-eqb (behind b) 0 z)))
  | no n ↦ s.right b h ∙ simp (ne_eqb (behind b) 0 n)
]

-- ---- the lists that the code has

-- no byte but those that get a backslash stands at a slot
special : ℕ → ℕ → Bool
special i x = cond (eqb (behind x) 0) false true

is_special : (i x : ℕ) → special i x ≡ true → behind x ≡ 0 → ⊥
unfolding special
is_special i x e z = let f : false ≡ true = rw (eq-eqb (behind x) 0 z) at e in absurd (let y : ◌≡◌ {A = ℕ} 0 1 = cc in omega arith)

abbrev short : List ℕ
short =
    0x00 ∷ 0x27 ∷ 0x22 ∷ 0x27 ∷ 0x27 ∷ 0x27 ∷ 0x27 ∷ 0x27 ∷ 0x27 ∷ 0x27 ∷ 0x0A ∷ 0x27 ∷ 0x27 ∷ 0x0D ∷ 0x27 ∷ 0x27 ∷
    0x27 ∷ 0x27 ∷ 0x27 ∷ 0x27 ∷ 0x27 ∷ 0x27 ∷ 0x27 ∷ 0x27 ∷ 0x27 ∷ 0x27 ∷ 0x1A ∷ 0x27 ∷ 0x5C ∷ 0x27 ∷ 0x27 ∷ 0x27 ∷
    0x30 ∷ 0x27 ∷ 0x22 ∷ 0x27 ∷ 0x27 ∷ 0x27 ∷ 0x27 ∷ 0x27 ∷ 0x27 ∷ 0x27 ∷ 0x6E ∷ 0x27 ∷ 0x27 ∷ 0x72 ∷ 0x27 ∷ 0x27 ∷
    0x27 ∷ 0x27 ∷ 0x27 ∷ 0x27 ∷ 0x27 ∷ 0x27 ∷ 0x27 ∷ 0x27 ∷ 0x27 ∷ 0x27 ∷ 0x5A ∷ 0x27 ∷ 0x5C ∷ 0x27 ∷ 0x27 ∷ 0x27 ∷ []

short-listed : (b : ℕ) → (behind b ≡ 0 → ⊥) → (get_or short (b % 32) 0 ≡ b) × (get_or short (b % 32 + 32) 0 ≡ behind b)
unfolding behind
short-listed =
    by_byte (λ b. (behind b ≡ 0 → ⊥) → (get_or short (b % 32) 0 ≡ b) × (get_or short (b % 32 + 32) 0 ≡ behind b))
    (λ _. (refl, refl)) (λ _. (refl, refl)) (λ _. (refl, refl)) (λ _. (refl, refl)) (λ _. (refl, refl)) (λ _. (refl, refl)) (λ _. (refl, refl))
    (λ b z _ n. absurd (n z))

short_special : every special 0 (take 32 short) ≡ true
unfolding behind special every
short_special = refl

pub slots : Slots short
slots = record {
  long = refl;
  listed = short-listed;
  unlisted = λ b z e.
      let n : length (take 32 short) ≡ 32 = refl in
      let l : b % 32 < 32 = omega arith in
      is_special _ _ (every_at special 0 (take 32 short) short_special (b % 32) (omega (arith, n, l)))
      (ap behind (get_or-take 32 short (b % 32) 0 l ∙ e) ∙ z);
}

pub marks_of : (l : List ℕ) → length l ≡ 256 → every (tells mark_of) 0 l ≡ true → Marks l
marks_of l n e = record { long = n; right = λ b h. told_at mark_of l e b (omega (arith, n)) }

-- ---- what bytes become, in parts

pub body-append : (m : Bool) (a b : List ℕ) → body m (a ++ b) ≡ body m a ++ body m b
unfolding body
body-append m [] b = refl
body-append m (x ∷ a) b = ap (λ (y : List ℕ). becomes m x ++ y) (body-append m a b) ∙ sym (append_assoc (becomes m x) (body m a) (body m b))

pub mores-append : (m : Bool) (a b : List ℕ) → mores m (a ++ b) ≡ mores m a + mores m b
unfolding mores
mores-append m [] b = omega arith
mores-append m (x ∷ a) b = omega (arith, mores-append m a b)

-- a part and what follows it
pub mores_part : (m : Bool) (s : List ℕ) (i k : ℕ) → mores m (drop i s) ≡ mores m (take k (drop i s)) + mores m (drop (i + k) s)
mores_part m s i k =
    ap (mores m) (sym (take-append-drop k (drop i s)))
    ∙ mores-append m (take k (drop i s)) (drop k (drop i s))
    ∙ ap (λ (x : List ℕ). mores m (take k (drop i s)) + mores m x) (drop-drop k i s)

-- parts that cover all
clean_all : (m : Bool) (s : List ℕ) (i j k : ℕ) → j ≤ i → length s ≤ j + k → mores m (take i s) ≡ 0 → mores m (take k (drop j s)) ≡ 0 → mores m s ≡ 0
clean_all m s i j k h l p q =
    let rest : mores m (drop j s) ≡ 0 = ap (mores m) (sym (take_all k (drop j s) (omega (arith, length-drop j s)))) ∙ q in
    let front : mores m s ≡ mores m (take i s) + mores m (drop i s) = ap (mores m) (sym (take-append-drop i s)) ∙ mores-append m (take i s) (drop i s) in
    let sum : j + (i - j) ≡ i = omega arith in
    omega (arith, p, rest, front, rw sum at (mores_part m s j (i - j)))

-- a part of bytes that have none has none
clean_part : (m : Bool) (s : List ℕ) (i k : ℕ) → mores m s ≡ 0 → mores m (take k (drop i s)) ≡ 0
clean_part m s i k e =
    let front : mores m s ≡ mores m (take i s) + mores m (drop i s) = ap (mores m) (sym (take-append-drop i s)) ∙ mores-append m (take i s) (drop i s) in
    omega (arith, e, front, mores_part m s i k)

-- the word on them: no by a part that has some, and by the last part whatever it has
pub clean_no : (m : Bool) (s : List ℕ) (i k n : ℕ) → n ≡ mores m (take k (drop i s)) → (n ≡ 0 → ⊥) → false ≡ eqb (mores m s) 0
clean_no m s i k n e a = sym (ne_eqb (mores m s) 0 (λ z. a (e ∙ clean_part m s i k z)))

pub clean_last : (m : Bool) (s : List ℕ) (i j k n : ℕ) → j ≤ i → length s ≤ j + k → mores m (take i s) ≡ 0 → n ≡ mores m (take k (drop j s))
    → eqb n 0 ≡ eqb (mores m s) 0
clean_last m s i j k n h l p e = elim (ℕ_discrete n 0) [
  | yes z ↦ eq-eqb n 0 z ∙ sym (eq-eqb (mores m s) 0 (clean_all m s i j k h l p (sym e ∙ z)))
  | no a ↦ ne_eqb n 0 a ∙ clean_no m s j k n e a
]

-- one of the parts of n bytes
part_at : (n k : ℕ) (s d : List ℕ) (i : ℕ) → i < k → get_or (first_chunks n k s) i d ≡ take n (drop (i * n) s)
part_at n zero s d i h = absurd (omega arith)
part_at n (suc k) s d zero h = rw zero-mul
part_at n (suc k) s d (suc i) h =
    let next : n + i * n ≡ suc i * n = omega (arith, suc-mul i n) in
    part_at n k (drop n s) d i (omega arith) ∙ ap (take n) (drop-drop (i * n) n s ∙ ap (λ (j : ℕ). drop j s) next)

pub part_is : (n k : ℕ) (s d : List ℕ) (i : ℕ) {ps : List (List ℕ)} → ps ≡ first_chunks n k s → i < k → get_or ps i d ≡ take n (drop (i * n) s)
part_is n k s d i e h = ap (λ (qs : List (List ℕ)). get_or qs i d) e ∙ part_at n k s d i h

-- those before a part, and with it
pub mores_on : (m : Bool) (s : List ℕ) (n i : ℕ) → mores m (take ((i + 1) * n) s) ≡ mores m (take (i * n) s) + mores m (take n (drop (i * n) s))
mores_on m s n i =
    let next : (i + 1) * n ≡ i * n + n = rw add-one (suc-mul i n) in
    ap (λ (j : ℕ). mores m (take j s)) next ∙ ap (mores m) (take-add (i * n) n s) ∙ mores-append m (take (i * n) s) (take n (drop (i * n) s))

-- a front, and what is left
pub mores_split : (m : Bool) (s : List ℕ) (i : ℕ) → mores m s ≡ mores m (take i s) + mores m (drop i s)
mores_split m s i = ap (mores m) (sym (take-append-drop i s)) ∙ mores-append m (take i s) (drop i s)

-- one byte further
pub mores_step : (m : Bool) (s : List ℕ) (i : ℕ) → i < length s → mores m (take (i + 1) s) ≡ mores m (take i s) + more_of m (get_or s i 0)
unfolding mores
mores_step m s i h =
    let one = get_or s i 0 ∷ [] in
    let e : take (i + 1) s ≡ take i s ++ one = rw add-one (take-suc s i 0 h) in
    ap (mores m) e ∙ omega (arith, mores-append m (take i s) one)

-- of a part no more than all bytes
pub mores_taken : (m : Bool) (s : List ℕ) (i : ℕ) → mores m (take i s) ≤ i
mores_taken m s i = omega (arith, mores-most m (take i s), length-take i s)

-- a byte more or none, as the code tells it
pub more_is : (m : Bool) (b : ℕ) → from_bool (is_some (unless_zero (second_of m b))) ≡ more_of m b
more_is m b = by (eqb (second_of m b) 0)
  where
    by : (t : Bool) → from_bool (is_some (cond t None (Some (second_of m b)))) ≡ cond t 0 1
    by true = refl
    by false = refl

-- what comes behind the first i bytes
body-split : (m : Bool) (s : List ℕ) (i : ℕ) → length (body m s) ≡ length (body m (take i s)) + length (body m (drop i s))
body-split m s i =
    ap (λ (x : List ℕ). length (body m x)) (sym (take-append-drop i s)) ∙ ap length (body-append m (take i s) (drop i s))
    ∙ length-append (body m (take i s)) (body m (drop i s))

pub body-room : (m : Bool) (s : List ℕ) (i : ℕ) → i < length s → length (body m (take i s)) + 1 ≤ length (body m s)
body-room m s i h = omega (arith, body-split m s i, body-length m (drop i s), length-drop i s)

pub body_byte : (m : Bool) (s : List ℕ) (i : ℕ) → i < length s → length (body m (take i s)) + length (becomes m (get_or s i 0)) ≤ length (body m s)
unfolding body
body_byte m s i h =
    let d : length (body m (drop i s)) ≡ length (becomes m (get_or s i 0)) + length (body m (drop (suc i) s)) =
    ap (λ (x : List ℕ). length (body m x)) (drop-cons s i 0 h) ∙ length-append (becomes m (get_or s i 0)) (body m (drop (suc i) s)) in
    omega (arith, body-split m s i, d)

-- bytes of which none becomes two
pub body_clean : (m : Bool) (bs : List ℕ) → mores m bs ≡ 0 → body m bs ≡ bs
unfolding body mores
body_clean m [] e = refl
body_clean m (b ∷ bs) e = by (eqb (second_of m b) 0) refl e (λ q. body_clean m bs q)
  where
    by : (t : Bool) → eqb (second_of m b) 0 ≡ t → cond t 0 1 + mores m bs ≡ 0 → (mores m bs ≡ 0 → body m bs ≡ bs) → becomes m b ++ body m bs ≡ b ∷ bs
    by true p q f = rw (becomes_itself m b (eqb-true (second_of m b) 0 p), f (omega arith))
    by false p q f = absurd (omega arith)

-- ---- what has been written

module _ (m : Bool) (bs : List ℕ) where
  pub leading_none : (d : List ℕ) (at : ℕ) → Leading m (take 0 bs) d at at d
  unfolding body
  leading_none d at = record { place = omega arith; leads = record { then = λ x h r. ap (λ (k : ℕ). patch d k x) (add-zero at) } }

  -- a part, and the next
  pub leading_on : (i j : ℕ) {d : List ℕ} {at r r' : ℕ} {d' d'' : List ℕ} → i ≤ j → Leading m (take i bs) d at r d' → length d' ≡ length d
      → Leading m (take (j - i) (drop i bs)) d' r r' d'' → Leading m (take j bs) d at r' d''
  leading_on i j {d} {at} {r} {r'} {d'} {d''} h p e q =
      let sum : i + (j - i) ≡ j = omega arith in
      let two = body m (take i bs) ++ body m (take (j - i) (drop i bs)) in
      let same : body m (take j bs) ≡ two =
      ap (λ (k : ℕ). body m (take k bs)) (sym sum) ∙ ap (body m) (take-add i (j - i) bs) ∙ body-append m (take i bs) (take (j - i) (drop i bs)) in
      let n = length-append (body m (take i bs)) (body m (take (j - i) (drop i bs))) in
      record {
        place = omega (arith, p.place, q.place, ap length same, n);
        leads = rw same (leads_join p.leads (rw p.place at q.leads) e);
      }

  -- a byte, and the next
  pub leading_byte : (i : ℕ) {d : List ℕ} {at r r' : ℕ} {d' d'' : List ℕ} → i < length bs → Leading m (take i bs) d at r d' → length d' ≡ length d
      → Leading m (get_or bs i 0 ∷ []) d' r r' d'' → Leading m (take (i + 1) bs) d at r' d''
  leading_byte i {d} {at} {r} {r'} {d'} {d''} h p e q =
      let one : take (i + 1 - i) (drop i bs) ≡ get_or bs i 0 ∷ [] = (let k : i + 1 - i ≡ 1 = omega arith in rw k (ap (take 1) (drop-cons bs i 0 h))) in
      leading_on i (i + 1) (omega arith) p e (rw one q)

  pub leading_all : (i : ℕ) {d : List ℕ} {at r : ℕ} {d' : List ℕ} → length bs ≤ i → Leading m (take i bs) d at r d' → Leading m bs d at r d'
  leading_all i h p = let e : take i bs ≡ bs = take_all i bs h in rw (← e) p

  -- what i bytes and the rest become
  pub room-rest : (i : ℕ) → length (body m bs) ≡ length (body m (take i bs)) + length (body m (drop i bs))
  room-rest i =
      ap (λ (x : List ℕ). length (body m x)) (sym (take-append-drop i bs)) ∙ ap length (body-append m (take i bs) (drop i bs))
      ∙ length-append (body m (take i bs)) (body m (drop i bs))

  -- k bytes from i on are some of the rest
  pub room_part : (i k : ℕ) → length (body m (take k (drop i bs))) ≤ length (body m (drop i bs))
  room_part i k =
      let n : length (body m (drop i bs)) ≡ length (body m (take k (drop i bs))) + length (body m (drop k (drop i bs))) =
      ap (λ (x : List ℕ). length (body m x)) (sym (take-append-drop k (drop i bs)))
      ∙ ap length (body-append m (take k (drop i bs)) (drop k (drop i bs)))
      ∙ length-append (body m (take k (drop i bs))) (body m (drop k (drop i bs))) in
      omega (arith, n)

-- bytes that stand for themselves are copied
pub leading_copy : (m : Bool) (bs d : List ℕ) (at r : ℕ) {d' : List ℕ} → mores m bs ≡ 0 → r ≡ at + length bs → d' ≡ patch d at bs → Leading m bs d at r d'
leading_copy m bs d at r z k e =
    let same = body_clean m bs z in
    record { place = rw same k; leads = rw same (leads_put bs d at e) }

pub leading_clean : (m : Bool) (bs d : List ℕ) (at : ℕ) {d' : List ℕ} → eqb (mores m bs) 0 ≡ true → d' ≡ patch d at bs → Leading m bs d at (at + length bs) d'
leading_clean m bs d at z e = leading_copy m bs d at (at + length bs) (eqb-true (mores m bs) 0 z) refl e

-- ---- the quotes around them

pub quoted-size : (m : Bool) (bs : List ℕ) → length (quoted m bs) ≡ length (body m bs) + 2
unfolding quoted
quoted-size m bs = omega (arith, length-append (body m bs) (quote ∷ []))

pub leading_closed : (m : Bool) (bs d : List ℕ) (at r : ℕ) {d' : List ℕ} → at + length (quoted m bs) ≤ length d → length d' ≡ length (set d at quote)
    → Leading m bs (set d at quote) (at + 1) r d'
    → (r + 1 ≡ at + length (quoted m bs)) × (set d' r quote ≡ patch d at (quoted m bs))
unfolding quoted
leading_closed m bs d at r {d'} l k p =
    let n = length-append (body m bs) (quote ∷ []) in
    let q = quoted-size m bs in
    let s = length-set d at quote in (
      omega (arith, q, p.place),
      patch_one d' r quote (omega (arith, q, k, s, p.place))
          ∙ ap (λ (j : ℕ). patch d' j (quote ∷ [])) p.place
          ∙ p.leads.then (quote ∷ []) (omega arith) (omega (arith, q, s))
          ∙ patch_cons d at quote (body m bs ++ (quote ∷ [])) (omega (arith, q, n)),
    )

-- ---- what the functions lean on

pub ruleset copies = (leading_clean, room_part, body-length)

pub ruleset counts = (part_is, mores_on, mores_split, mores-most, clean_no, clean_last)

pub ruleset sizes = (quoted-length, mores-most)

pub ruleset bytes = (body-room, body_byte, room-rest, leading_all)

pub ruleset closed = (quoted-size, leading_closed)
