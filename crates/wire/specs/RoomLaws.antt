-- Laws of a buffer with some bytes put at a place.
use Rattle.refusal.specs.declared.Refusal.{Refusal}
use Rattle.std.specs.Prelude.{◌≡◌, refl, List, [], ◌∷◌, ◌++◌, ℕ, suc, ◌+◌, ◌-◌, ◌≤◌, ◌<◌, length, take, drop, set, Bool, true, false, leb, Result, Ok, Err}
use Rattle.std.proofs.Common.{sym, ap, ◌∙◌, append_assoc, add-one, add_assoc, add-zero, arith, length-set, length-append, length-take}
use Rattle.std.proofs.Common.{length-drop, take-append-drop, take-add, take-take, take_at, drop_at, drop-drop, length-take-le, le-leb}
use Rattle.std.proofs.Common.{leb-true, leb-false}
use Rattle.std.proofs.Math.Seq.{paste, take-length, drop-append-add, append_snoc}
use Rattle.std.proofs.lemmas.List.{take-append-le, drop-append-le, set_split}
use Rattle.std.proofs.lemmas.List.Edits.{sets-eq}
use Rattle.std.proofs.lemmas.Bool.{lt-leb}
use Rattle.refusal.specs.Said.{gives, gives_same, gives_not_refused, said_of, said_same}
use Rattle.refusal.specs.declared.Refusal.TheVariants.{NoRoom}
use Rattle.wire.specs.Room.{patch, Wrote}

-- a copy that has come to its end
pub paste_patch : (d : List ℕ) (at : ℕ) (bs : List ℕ) (n : ℕ) → length bs ≡ n → paste d at bs n ≡ patch d at bs
paste_patch d at bs n e = rw (sym e, take-length)

pub length-patch : (d : List ℕ) (at : ℕ) (bs : List ℕ) → at + length bs ≤ length d → length (patch d at bs) ≡ length d
length-patch d at bs h = simp (length-append, length-take, length-drop) (omega arith)

-- a byte, and the others behind it
pub patch_cons : (d : List ℕ) (at b : ℕ) (bs : List ℕ) → at + suc (length bs) ≤ length d → patch (set d at b) (at + 1) bs ≡ patch d at (b ∷ bs)
patch_cons d at b bs h =
    rw add-one
    (sym (sets-eq bs (set d at b) (suc at) (rw length-set (omega arith))) ∙ sets-eq (b ∷ bs) d at h)

-- one byte put at a place, and two
pub patch_one : (d : List ℕ) (at b : ℕ) → at < length d → set d at b ≡ patch d at (b ∷ [])
patch_one d at b h = set_split d at b h ∙ rw (append_snoc, add-one)

pub patch_two : (d : List ℕ) (at a b : ℕ) → at + 2 ≤ length d → set (set d at a) (at + 1) b ≡ patch d at (a ∷ b ∷ [])
patch_two d at a b h = patch_one (set d at a) (at + 1) b (rw length-set (omega arith)) ∙ patch_cons d at a (b ∷ []) (omega arith)

-- some bytes, and others behind them
pub patch-append : (d : List ℕ) (at : ℕ) (bs cs : List ℕ) → at + (length bs + length cs) ≤ length d
    → patch (patch d at bs) (at + length bs) cs ≡ patch d at (bs ++ cs)
patch-append d at bs cs h =
    let front : length (take at d ++ bs) ≡ at + length bs = simp (length-append, length-take) (omega arith) in
    let t : take (at + length bs) (patch d at bs) ≡ take at d ++ bs = take_at (take at d ++ bs) (drop (at + length bs) d) (at + length bs) front in
    let u : drop (at + length bs + length cs) (patch d at bs) ≡ drop (at + (length bs + length cs)) d =
    rw (sym front, drop-append-add) (rw (drop-drop, front) (rw (add_assoc))) in
    rw (t, u, length-append) (rw (append_assoc (take at d) bs cs))

-- other bytes at the same place, no fewer: nothing is left of the first
pub patch_again : (d : List ℕ) (at : ℕ) (bs cs : List ℕ) → length bs ≤ length cs → at + length cs ≤ length d → patch (patch d at bs) at cs ≡ patch d at cs
patch_again d at bs cs h r =
    let more = length cs - length bs in
    let front : length (take at d) ≡ at = length-take-le at d (omega arith) in
    let whole : length (take at d ++ bs) ≡ at + length bs = simp (length-append, length-take) (omega arith) in
    let sum : at + length cs ≡ length (take at d ++ bs) + more = omega (arith, whole) in
    let t : take at (patch d at bs) ≡ take at d =
    ap (take at) (append_assoc (take at d) bs (drop (at + length bs) d)) ∙ take_at (take at d) (bs ++ drop (at + length bs) d) at front in
    let u : drop (at + length cs) (patch d at bs) ≡ drop (at + length cs) d =
    rw (sum, drop-append-add) (rw (drop-drop, sym whole) refl) in
    rw (t, u)

-- j bytes of s from a place on, and the k behind them
pub patch_parts : (d : List ℕ) (at : ℕ) (s : List ℕ) (i j k : ℕ) → i + (j + k) ≤ length s → at + (j + k) ≤ length d
    → patch (patch d at (take j (drop i s))) (at + j) (take k (drop (i + j) s)) ≡ patch d at (take (j + k) (drop i s))
patch_parts d at s i j k h r =
    let a = take j (drop i s) in
    let b = take k (drop (i + j) s) in
    let la : length a ≡ j = length-take-le j (drop i s) (omega (arith, length-drop i s)) in
    let lb : length b ≡ k = length-take-le k (drop (i + j) s) (omega (arith, length-drop (i + j) s)) in
    ap (λ (x : ℕ). patch (patch d at a) (at + x) b) (sym la)
    ∙ patch-append d at a b (omega (arith, la, lb))
    ∙ ap (λ (x : List ℕ). patch d at (a ++ take k x)) (sym (drop-drop j i s))
    ∙ ap (patch d at) (sym (take-add j k (drop i s)))

-- what stands at a place, put there again
pub patch_same : (d : List ℕ) (at k : ℕ) → at + k ≤ length d → patch d at (take k (drop at d)) ≡ d
patch_same d at k h =
    let n : length (take k (drop at d)) ≡ k = length-take-le k (drop at d) (omega (arith, length-drop at d)) in
    let e : drop (at + length (take k (drop at d))) d ≡ drop k (drop at d) = ap (λ (m : ℕ). drop (at + m) d) n ∙ sym (drop-drop k at d) in
    rw (e, append_assoc) (ap (λ (x : List ℕ). take at d ++ x) (take-append-drop k (drop at d)) ∙ take-append-drop at d)

-- A copy that has come to byte i of s, and then the k bytes from byte j on, which may be there already in part: it has come to j + k.
pub patch-over : (d : List ℕ) (at i j k : ℕ) (s : List ℕ) → j ≤ i → i ≤ j + k → j + k ≤ length s → at + length s ≤ length d
    → patch (patch d at (take i s)) (at + j) (take k (drop j s)) ≡ patch d at (take (j + k) s)
patch-over d at i j k s h g l r =
    let a = take j s in
    let b = take (i - j) (drop j s) in
    let c = take k (drop j s) in
    let la : length a ≡ j = length-take-le j s (omega arith) in
    let lb : length b ≡ i - j = length-take-le (i - j) (drop j s) (omega (arith, length-drop j s)) in
    let lc : length c ≡ k = length-take-le k (drop j s) (omega (arith, length-drop j s)) in
    let sum : i ≡ j + (i - j) = omega arith in
    let first : take i s ≡ a ++ b = ap (λ (x : ℕ). take x s) sum ∙ take-add j (i - j) s in
    let put : patch (patch d at a) (at + j) b ≡ patch d at (take i s) =
    ap (λ (x : ℕ). patch (patch d at a) (at + x) b) (sym la) ∙ patch-append d at a b (omega (arith, la, lb)) ∙ ap (patch d at) (sym first) in
    let all : patch (patch d at a) (at + j) c ≡ patch d at (take (j + k) s) =
    ap (λ (x : ℕ). patch (patch d at a) (at + x) c) (sym la) ∙ patch-append d at a c (omega (arith, la, lc)) ∙ ap (patch d at) (sym (take-add j k s)) in
    ap (λ (x : List ℕ). patch x (at + j) c) (sym put)
    ∙ patch_again (patch d at a) (at + j) b c (omega (arith, lb, lc)) (omega (arith, lc, length-patch d at a (omega (arith, la)))) ∙ all

-- a part that is cut later
pub cut_later : (l : List ℕ) (j k : ℕ) → j ≤ length l → take k (drop j l) ≡ drop j (take (j + k) l)
cut_later l j k h = sym (ap (drop j) (take-add j k l) ∙ drop_at (take j l) (take k (drop j l)) j (length-take-le j l h))

-- ... or bytes which are there already: nothing changes
pub patch-within : (d : List ℕ) (at i j k : ℕ) (s : List ℕ) → j + k ≤ i → i ≤ length s → at + length s ≤ length d
    → patch (patch d at (take i s)) (at + j) (take k (drop j s)) ≡ patch d at (take i s)
patch-within d at i j k s h g r =
    let p = take i s in
    let e = patch d at p in
    let behind = drop (at + length p) d in
    let n : length p ≡ i = length-take-le i s g in
    let front : length (take at d) ≡ at = length-take-le at d (omega arith) in
    let whole : length (take at d ++ p) ≡ at + i = rw (length-append, front, n) refl in
    let le : length e ≡ length d = length-patch d at p (omega (arith, n)) in
    let same : take k (drop j p) ≡ take k (drop j s) =
    cut_later p j k (omega (arith, n)) ∙ ap (drop j) (take-take (j + k) i s h) ∙ sym (cut_later s j k (omega arith)) in
    let from : drop (at + j) (take at d ++ p) ≡ drop j p = ap (λ (x : ℕ). drop (x + j) (take at d ++ p)) (sym front) ∙ drop-append-add (take at d) p j in
    let stands : take k (drop (at + j) e) ≡ take k (drop j p) =
    ap (take k) (drop-append-le (at + j) (take at d ++ p) behind (omega (arith, whole)) ∙ ap (λ (x : List ℕ). x ++ behind) from)
    ∙ take-append-le k (drop j p) behind (omega (arith, length-drop j p, n)) in
    ap (patch e (at + j)) (sym (stands ∙ same)) ∙ patch_same e (at + j) k (omega (arith, le))

-- ---- a copy in steps that may overlap: the first bytes of s stand at a place of d, at least so many

module _ (d : List ℕ) (at : ℕ) (s : List ℕ) (r : at + length s ≤ length d) where
  pub record Come (e : List ℕ) (least : ℕ) : Type 0 where
    pub to : ℕ
    pub holds : e ≡ patch d at (take to s)
    pub far : least ≤ to
    pub within : to ≤ length s

  -- the bytes of s from j on that e has at their place
  abbrev pub Step : (e e' : List ℕ) → (j k : ℕ) → Type 0
  Step e e' j k = e' ≡ patch e (at + j) (take k (drop j s))

  pub copy_begun : {e : List ℕ} (k : ℕ) → Step d e 0 k → k ≤ length s → Come e k
  copy_begun k p h = record { to = k; holds = p ∙ ap (λ (x : ℕ). patch d x (take k s)) (add-zero at); far = omega arith; within = h }

  -- a step from within what has come: it has come as far as before, and as far as the step goes
  pub copy_on : {e e' : List ℕ} {least : ℕ} (j k : ℕ) → Come e least → Step e e' j k → j ≤ least → j + k ≤ length s → Come e' least × Come e' (j + k)
  copy_on {e} {e'} {least} j k c q h l = by (leb (j + k) c.to) refl
    where
      put : e' ≡ patch (patch d at (take c.to s)) (at + j) (take k (drop j s))
      put = q ∙ ap (λ (x : List ℕ). patch x (at + j) (take k (drop j s))) c.holds

      Both : Type 0
      Both = Come e' least × Come e' (j + k)

      came : (to : ℕ) → e' ≡ patch d at (take to s) → c.to ≤ to → j + k ≤ to → to ≤ length s → Both
      came to p a b m =
          (record { to = to; holds = p; far = omega (arith, c.far); within = m }, record { to = to; holds = p; far = b; within = m })

      by : (t : Bool) → leb (j + k) c.to ≡ t → Both
      by true t =
          let u = leb-true (j + k) c.to t in
          came c.to (put ∙ patch-within d at c.to j k s u c.within r) (omega arith) u c.within
      by false t =
          let u = leb-false (j + k) c.to t in
          came (j + k) (put ∙ patch-over d at c.to j k s (omega (arith, c.far)) (omega arith) l r) (omega arith) (omega arith) l

  pub copy_ended : {e : List ℕ} (least : ℕ) → Come e least → least ≡ length s → e ≡ patch d at s
  copy_ended least c h =
      let n : c.to ≡ length s = omega (arith, c.far, c.within) in
      c.holds ∙ ap (patch d at) (ap (λ (x : ℕ). take x s) n ∙ take-length s)

  -- two steps of k bytes that may overlap, the first and the last
  pub both_ends : {e₁ e₂ : List ℕ} (k : ℕ) → Step d e₁ 0 k → Step e₁ e₂ (length s - k) k → k ≤ length s → length s ≤ k + k → e₂ ≡ patch d at s
  both_ends k w₁ w₂ l h =
      let c = copy_on (length s - k) k (copy_begun k w₁ l) w₂ (omega arith) (omega arith) in
      copy_ended (length s - k + k) c.1 (omega arith)

  -- two words, a run from a place within them on that leaves less than 32 bytes, and the last four words
  pub run_and_words : {e₁ e₂ e₃ e₄ : List ℕ} (lead end : ℕ) → Step d e₁ 0 16 → Step e₁ e₂ lead (end - lead) → Step e₂ e₃ (length s - 32) 16
      → Step e₃ e₄ (length s - 16) 16 → 32 < length s → lead ≤ 16 → lead ≤ end → end ≤ length s → length s < end + 32 → e₄ ≡ patch d at s
  run_and_words lead end w₁ w₂ w₃ w₄ l h g m z =
      let n = length s in
      let c₂ = copy_on lead (end - lead) (copy_begun 16 w₁ (omega arith)) w₂ (omega arith) (omega arith) in
      let c₃ = copy_on (n - 32) 16 c₂.1 w₃ (omega arith) (omega arith) in
      let c₄ = copy_on (n - 16) 16 c₃.1 w₄ (omega arith) (omega arith) in
      copy_ended (n - 16 + 16) c₄.1 (omega arith)

-- the two outcomes of a writer
pub wrote_full : (bs d : List ℕ) (at : ℕ) → length d < at + length bs → Wrote bs d at (Err NoRoom) d
wrote_full bs d at h = record { said = simp (lt-leb (at + length bs) (length d) h); left = simp (lt-leb (at + length bs) (length d) h) }

pub wrote_next : (bs d : List ℕ) (at n : ℕ) (d' : List ℕ) → at + length bs ≤ length d → n ≡ at + length bs → d' ≡ patch d at bs
    → Wrote bs d at (Ok n) d'
wrote_next bs d at n d' h e p = record { said = simp (le-leb (at + length bs) (length d) h) (ap gives e); left = simp (le-leb (at + length bs) (length d) h) p }

-- where the bytes fit, a writer has left them there and says the place behind them
pub wrote_left : {bs d : List ℕ} {at : ℕ} {r : Result ℕ Refusal} {d' : List ℕ} → Wrote bs d at r d' → at + length bs ≤ length d → d' ≡ patch d at bs
wrote_left {bs} {d} {at} w h = rw (le-leb (at + length bs) (length d) h) at w.left

pub wrote_said : {bs d : List ℕ} {at : ℕ} {r : Result ℕ Refusal} {d' : List ℕ} → Wrote bs d at r d' → at + length bs ≤ length d → said_of r ≡ gives (at + length bs)
wrote_said {bs} {d} {at} w h = rw (le-leb (at + length bs) (length d) h) at w.said

-- other bytes of the same list
-- where there is room, a writer answers the place behind what it wrote, and no refusal
pub wrote_place : {bs d : List ℕ} {at n : ℕ} {d' : List ℕ} → Wrote bs d at (Ok n) d' → at + length bs ≤ length d → n ≡ at + length bs
wrote_place w h = gives_same (wrote_said w h)

pub wrote_refused : {bs d : List ℕ} {at : ℕ} {q : Refusal} {d' : List ℕ} → Wrote bs d at (Err q) d' → at + length bs ≤ length d → ⊥
wrote_refused w h = gives_not_refused (sym (wrote_said w h))

pub wrote_as : {bs bs' d : List ℕ} {at : ℕ} {r : Result ℕ Refusal} {d' : List ℕ} → bs ≡ bs' → Wrote bs' d at r d' → Wrote bs d at r d'
wrote_as e w = rw e w

-- what a test that was made by `has` tells
pub has_yes : {r : Bool} (a n : ℕ) → r ≡ leb a n → r ≡ true → a ≤ n
has_yes a n e t = leb-true a n (sym e ∙ t)

pub has_no : {r : Bool} (a n : ℕ) → r ≡ leb a n → r ≡ false → n < a
has_no a n e t = leb-false a n (sym e ∙ t)

-- ---- what an answer says determines it, and a contract what it leaves

pub wrote_same : {bs d : List ℕ} {at : ℕ} {a b : Result ℕ Refusal} {d₁ d₂ : List ℕ} → Wrote bs d at a d₁ → Wrote bs d at b d₂ → (a ≡ b) × (d₁ ≡ d₂)
wrote_same {a = a} {b = b} v w = (said_same a b (v.said ∙ sym w.said), v.left ∙ sym w.left)
