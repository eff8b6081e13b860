-- What is written means what was given, and the server's literal ends where ours does.
use Rattle.refusal.specs.declared.Refusal.{Refusal}
use Rattle.std.specs.Prelude.{ℕ, ◌+◌, ◌≤◌, ◌<◌, ◌≡◌, refl, Bool, true, false, List, [], ◌∷◌, ◌++◌, length, take, drop, get_or, eqb, Result}
use Rattle.std.proofs.Common.{arith, sym, ap, ◌∙◌, append_assoc, append-nil, length-append, length-take, drop_at, get_or-drop, add-zero, eqb-true, ne_eqb}
use Rattle.wire.specs.Room.{Wrote}
use Rattle.wire.specs.RoomLaws.{wrote_left}
use Rattle.escape.specs.Quote.{quote, backslash, behind, becomes, body, quoted}
use Rattle.escape.specs.Meaning.{literal, also, escape_means, inside, literal_of, meaning, meaning_of}

-- a number that is k, or is not
whether : {P : Type 0} (b k : ℕ) → (b ≡ k → P) → (eqb b k ≡ false → P) → P
whether {P} b k y n = by (eqb b k) refl
  where
    by : (t : Bool) → eqb b k ≡ t → P
    by true e = y (eqb-true b k e)
    by false e = n e

-- one byte: what it becomes means the byte, before any other
module _ (b c : ℕ) (s : List ℕ) where
  byte_other : inside true (becomes true b ++ (c ∷ s)) ≡ also (b ∷ []) (inside true (c ∷ s))
  unfolding inside becomes
  byte_other = whether b quote (λ e. rw e) (λ n. simp n)

  byte_backslash : inside false (becomes false b ++ (c ∷ s)) ≡ also (b ∷ []) (inside false (c ∷ s))
  unfolding inside becomes behind escape_means
  byte_backslash =
      whether b 0x00 (λ e. rw e) (λ n₀.
      whether b 0x0A (λ e. rw e) (λ n₁.
      whether b 0x0D (λ e. rw e) (λ n₂.
      whether b 0x1A (λ e. rw e) (λ n₃.
      whether b backslash (λ e. rw e) (λ n₄.
      whether b quote (λ e. rw e) (λ n₅.
      whether b 0x22 (λ e. rw e) (λ n₆.
      simp (n₀, n₁, n₂, n₃, n₄, n₅, n₆))))))))

byte_means : (m : Bool) (b c : ℕ) (s : List ℕ) → inside m (becomes m b ++ (c ∷ s)) ≡ also (b ∷ []) (inside m (c ∷ s))
byte_means true = byte_other
byte_means false = byte_backslash

-- the closing quote ends it, unless a quote stands behind it
ends : (m : Bool) (s : List ℕ) → (get_or s 0 0 ≡ quote → ⊥) → inside m (quote ∷ s) ≡ literal [] s
unfolding inside
ends m [] n = refl
ends m (c ∷ s) n = simp (ne_eqb c quote n)

-- every byte in turn
byte_before : (m : Bool) (b : ℕ) (s : List ℕ) → 0 < length s → inside m (becomes m b ++ s) ≡ also (b ∷ []) (inside m s)
byte_before m b [] h = absurd (omega arith)
byte_before m b (c ∷ s) h = byte_means m b c s

body_means : (m : Bool) (bs s : List ℕ) → (get_or s 0 0 ≡ quote → ⊥) → inside m (body m bs ++ (quote ∷ s)) ≡ literal bs s
unfolding body
body_means m [] s n = ends m s n
body_means m (b ∷ bs) s n =
    ap (inside m) (append_assoc (becomes m b) (body m bs) (quote ∷ s))
    ∙ byte_before m b (body m bs ++ (quote ∷ s)) (omega (arith, length-append (body m bs) (quote ∷ s)))
    ∙ ap (also (b ∷ [])) (body_means m bs s n)

-- The quoted form, before anything but another quote, is read as the bytes that were given, and what stood behind it stands
-- behind it still: no bytes can end the literal early or draw in what follows.
pub quoted-read : (m : Bool) (bs s : List ℕ) → (get_or s 0 0 ≡ quote → ⊥) → literal_of m (quoted m bs ++ s) ≡ literal bs s
unfolding quoted literal_of
quoted-read m bs s n = ap (inside m) (append_assoc (body m bs) (quote ∷ []) s) ∙ body_means m bs s n

-- by itself it means the bytes
pub quoted_means : (m : Bool) (bs : List ℕ) → meaning m (quoted m bs) ≡ bs
unfolding meaning
quoted_means m bs = ap meaning_of (ap (literal_of m) (sym (append-nil (quoted m bs))) ∙ quoted-read m bs [] (λ e. omega arith))

-- so two lists of bytes have one quoted form only where they are one list
pub quoted_same : (m : Bool) (bs cs : List ℕ) → quoted m bs ≡ quoted m cs → bs ≡ cs
quoted_same m bs cs e = sym (quoted_means m bs) ∙ ap (meaning m) e ∙ quoted_means m cs

-- In the buffer that `escaped` wrote, a server that reads from the place on finds the bytes, and behind them what stood there.
pub escaped_read : (m : Bool) (bs d : List ℕ) (at : ℕ) {r : Result ℕ Refusal} {d' : List ℕ} → Wrote (quoted m bs) d at r d' → at + length (quoted m bs) ≤ length d
    → (get_or d (at + length (quoted m bs)) 0 ≡ quote → ⊥) → literal_of m (drop at d') ≡ literal bs (drop (at + length (quoted m bs)) d)
escaped_read m bs d at w h n =
    let rest = drop (at + length (quoted m bs)) d in
    let front : length (take at d) ≡ at = simp length-take (omega arith) in
    let first : get_or rest 0 0 ≡ get_or d (at + length (quoted m bs)) 0 = get_or-drop (at + length (quoted m bs)) d 0 0 ∙ rw add-zero in
    rw (wrote_left w h)
    (ap (literal_of m) (ap (drop at) (append_assoc (take at d) (quoted m bs) rest) ∙ drop_at (take at d) (quoted m bs ++ rest) at front)
    ∙ quoted-read m bs rest (λ e. n (sym first ∙ e)))
