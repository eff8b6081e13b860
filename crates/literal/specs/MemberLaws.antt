-- The checker says yes exactly for the grammar's members and what they mean; a no tells the first place where no literal goes on; and whatever
-- the escaping writes is a literal that means its input.
use Rattle.std.specs.Prelude.{ℕ, suc, ◌+◌, ◌≤◌, ◌<◌, ◌≡◌, refl, Bool, true, false, cond, List, [], ◌∷◌, ◌++◌, length, take, drop, ltb, eqb}
use Rattle.std.proofs.Common.{arith, add-one, sym, ap, ◌∙◌, true≢false, append_assoc, length-append, take-append-drop, take-take}
use Rattle.std.proofs.Math.Seq.{take-append-add}
use borrow.Author.Tests.{ne_eqb, ltb-true, ltb-false}
use Rattle.escape.specs.Quote.{quote, backslash, behind, becomes, body, quoted}
use Rattle.escape.specs.Meaning.{escape_means}
use Rattle.literal.specs.Grammar.{Item, itself, doubled, escape, Items, none, more, Literal, literal, Begins, Place}
use Rattle.literal.specs.Checked.{Verdict, means, bad, also, inside, checked}
use Rattle.literal.specs.CheckedLaws.{whether, means_not_bad, item_reads, Reading, ends, closes, cut, behind as beyond, goes, reading}

-- ---- members

means_same : {bs cs : List ℕ} → means bs ≡ means cs → bs ≡ cs
means_same e = cc e

bad_same : {p q : ℕ} → bad p ≡ bad q → p ≡ q
bad_same e = cc e

-- items and the closing quote
items_mean : {m : Bool} {ws bs : List ℕ} → Items m ws bs → inside m (ws ++ (quote ∷ [])) ≡ means bs
unfolding inside
items_mean none = refl
items_mean {m} (more {w} {b} {ws} {bs} i is) =
    ap (inside m) (append_assoc w ws (quote ∷ [])) ∙ item_reads i (ws ++ (quote ∷ [])) ∙ ap (also (length w) b) (items_mean is)

pub member_means : {m : Bool} {s bs : List ℕ} → Literal m s bs → checked m s ≡ means bs
unfolding checked
member_means (literal is) = ap (also 1 []) (items_mean is)

pub one_meaning : {m : Bool} {s bs cs : List ℕ} → Literal m s bs → Literal m s cs → bs ≡ cs
one_meaning l k = means_same (sym (member_means l) ∙ member_means k)

-- bytes that are items and a closing quote
record Closed (m : Bool) (s bs : List ℕ) : Type 0 where
  ws : List ℕ
  items : Items m ws bs
  is : s ≡ ws ++ (quote ∷ [])

closed_literal : {m : Bool} {s bs : List ℕ} → Closed m s bs → Literal m (quote ∷ s) bs
closed_literal c = rw c.is (literal c.items)

reading_closed : {m : Bool} {s : List ℕ} {v : Verdict} → Reading m s v → (bs : List ℕ) → v ≡ means bs → Closed m s bs
reading_closed ends bs e = absurd (means_not_bad (sym e))
reading_closed closes bs e = rw (← (means_same e)) (record { ws = []; items = none; is = refl })
reading_closed (cut n) bs e = absurd (means_not_bad (sym e))
reading_closed (beyond c s n) bs e = absurd (means_not_bad (sym e))
reading_closed {m} (goes {w} {b} {s} {v} i r) bs e = by v (λ cs f. reading_closed r cs f) e
  where
    by : (v : Verdict) → ((cs : List ℕ) → v ≡ means cs → Closed m s cs) → also (length w) b v ≡ means bs → Closed m (w ++ s) bs
    by (means cs) f e =
        let k = f cs refl in
        let whole = ap (λ (x : List ℕ). w ++ x) k.is ∙ sym (append_assoc w k.ws (quote ∷ [])) in
        rw (← (means_same e)) (record { ws = w ++ k.ws; items = more i k.items; is = whole })
    by (bad p) f e = absurd (means_not_bad (sym e))

-- a verdict that stands behind the opening quote
pub behind_means : (v : Verdict) (bs : List ℕ) → also 1 [] v ≡ means bs → v ≡ means bs
behind_means (means cs) bs e = e
behind_means (bad p) bs e = absurd (means_not_bad (sym e))

pub means_member : (m : Bool) (s bs : List ℕ) → checked m s ≡ means bs → Literal m s bs
unfolding checked
means_member m [] bs e = absurd (means_not_bad (sym e))
means_member m (b ∷ s) bs e = whether b quote yes_quote (λ n. absurd (means_not_bad (sym (simp (ne_eqb b quote n) at e))))
  where
    yes_quote : b ≡ quote → Literal m (b ∷ s) bs
    yes_quote f = rw f (closed_literal (reading_closed (reading m s) bs (behind_means (inside m s) bs (rw f at e))))

-- ---- the place

pub bad_no_member : {m : Bool} {s bs : List ℕ} {p : ℕ} → checked m s ≡ bad p → Literal m s bs → ⊥
bad_no_member e l = means_not_bad (sym (member_means l) ∙ e)

-- the verdict on the bytes up to the place and the one that stands there is the same, whatever follows
reading_stops : {m : Bool} {s : List ℕ} {v : Verdict} → Reading m s v → (p : ℕ) → v ≡ bad p → p < length s → (t : List ℕ)
    → inside m (take (suc p) s ++ t) ≡ bad p
unfolding inside
reading_stops ends p e h t = absurd (omega arith)
reading_stops closes p e h t = absurd (means_not_bad e)
reading_stops (cut n) p e h t = absurd (omega (arith, bad_same e))
reading_stops (beyond c s n) p e h t = rw (← (bad_same e)) (simp (ne_eqb c quote n))
reading_stops {m} (goes {w} {b} {s} {v} i r) p e h t = by v (λ q f l u. reading_stops r q f l u) e
  where
    by : (v : Verdict) → ((q : ℕ) → v ≡ bad q → q < length s → (t : List ℕ) → inside m (take (suc q) s ++ t) ≡ bad q)
        → also (length w) b v ≡ bad p → inside m (take (suc p) (w ++ s) ++ t) ≡ bad p
    by (means cs) f e = absurd (means_not_bad e)
    by (bad q) f e =
        let l : p ≡ length w + q = sym (bad_same e) in
        let k : suc p ≡ length w + suc q = omega arith in
        let less : q < length s = omega (arith, length-append w s) in
        ap (λ (n : ℕ). inside m (take n (w ++ s) ++ t)) k
        ∙ ap (λ (x : List ℕ). inside m (x ++ t)) (take-append-add w s (suc q))
        ∙ ap (inside m) (append_assoc w (take (suc q) s) t)
        ∙ item_reads i (take (suc q) s ++ t)
        ∙ ap (also (length w) b) (f q refl less t)
        ∙ e

-- and the bytes up to the place begin a literal
record Goes (m : Bool) (s : List ℕ) : Type 0 where
  rest : List ℕ
  bytes : List ℕ
  ends : inside m (s ++ rest) ≡ means bytes

reading_begins : {m : Bool} {s : List ℕ} {v : Verdict} → Reading m s v → (p : ℕ) → v ≡ bad p → (p ≤ length s) × Goes m (take p s)
unfolding inside escape_means
reading_begins ends p e = rw (← (bad_same e)) (omega arith, record { rest = quote ∷ []; bytes = []; ends = refl })
reading_begins closes p e = absurd (means_not_bad e)
reading_begins (cut n) p e = rw (← (bad_same e)) (omega arith, record { rest = quote ∷ quote ∷ []; bytes = quote ∷ []; ends = rw n })
reading_begins (beyond c s n) p e = rw (← (bad_same e)) (omega arith, record { rest = []; bytes = []; ends = refl })
reading_begins {m} (goes {w} {b} {s} {v} i r) p e = by v (λ q f. reading_begins r q f) e
  where
    by : (v : Verdict) → ((q : ℕ) → v ≡ bad q → (q ≤ length s) × Goes m (take q s)) → also (length w) b v ≡ bad p
        → (p ≤ length (w ++ s)) × Goes m (take p (w ++ s))
    by (means cs) f e = absurd (means_not_bad e)
    by (bad q) f e =
        let l : p ≡ length w + q = sym (bad_same e) in
        let k = f q refl in
        let g = k.1 in
        let goes_on : inside m (take p (w ++ s) ++ g.rest) ≡ means (b ++ g.bytes) =
        ap (λ (n : ℕ). inside m (take n (w ++ s) ++ g.rest)) l
        ∙ ap (λ (x : List ℕ). inside m (x ++ g.rest)) (take-append-add w s q)
        ∙ ap (inside m) (append_assoc w (take q s) g.rest)
        ∙ item_reads i (take q s ++ g.rest)
        ∙ ap (also (length w) b) g.ends in
        (omega (arith, length-append w s, k.0), record { rest = g.rest; bytes = b ++ g.bytes; ends = goes_on })

-- of bytes that begin a literal, fewer do too
pub begins_shorter : {m : Bool} (s : List ℕ) (q p : ℕ) → q ≤ p → Begins m (take p s) → Begins m (take q s)
begins_shorter {m} s q p h b =
    let front : take q s ++ drop q (take p s) ≡ take p s = rw (← (take-take q p s h)) (take-append-drop q (take p s)) in
    record {
      rest = drop q (take p s) ++ b.rest;
      bytes = b.bytes;
      whole = rw (← (append_assoc (take q s) (drop q (take p s)) b.rest), front) b.whole;
    }

-- the opening quote in front
behind_bad : (v : Verdict) (p : ℕ) → also 1 [] v ≡ bad p → (q : ℕ) × (v ≡ bad q) × (p ≡ suc q)
behind_bad (means cs) p e = absurd (means_not_bad e)
behind_bad (bad q) p e = (q, refl, omega (arith, bad_same e))

goes_begins : {m : Bool} {s : List ℕ} → Goes m s → Begins m (quote ∷ s)
unfolding checked
goes_begins {m} {s} g =
    record { rest = g.rest; bytes = g.bytes; whole = means_member m (quote ∷ (s ++ g.rest)) g.bytes (ap (also 1 []) g.ends) }

nothing_begins : (m : Bool) → Begins m []
nothing_begins m = record { rest = quote ∷ quote ∷ []; bytes = []; whole = literal none }

-- no literal begins with another byte
other_not : (m : Bool) (b : ℕ) → (b ≡ quote → ⊥) → Begins m (b ∷ []) → ⊥
unfolding checked
other_not m b n g = means_not_bad (sym (simp (ne_eqb b quote n) at (member_means g.whole)))

opened : (m : Bool) (s : List ℕ) (q : ℕ) → inside m s ≡ bad q → Place m (quote ∷ s) (suc q)
unfolding checked
opened m s q e =
    let k = reading_begins (reading m s) q e in
    let stop : q < length s → Begins m (quote ∷ take (suc q) s) → ⊥ =
    λ h g. means_not_bad (sym (member_means g.whole) ∙ ap (also 1 []) (reading_stops (reading m s) q e h g.rest)) in
    record { within = omega (arith, k.0); before = goes_begins k.1; stops = λ h g. stop (omega arith) (rw add-one at g) }

pub bad_place : (m : Bool) (s : List ℕ) (p : ℕ) → checked m s ≡ bad p → Place m s p
unfolding checked
bad_place m [] p e = rw (← (bad_same e)) (record { within = omega arith; before = nothing_begins m; stops = λ h g. omega arith })
bad_place m (b ∷ s) p e =
    whether b quote
    (λ f. let k = behind_bad (inside m s) p (rw f at e) in rw (f, k.2) (opened m s k.0 k.1))
    (λ n. rw (← (bad_same (simp (ne_eqb b quote n) at e))) (record { within = omega arith; before = nothing_begins m; stops = λ h g. other_not m b n g }))

-- so it is the first such place: every byte before it goes on with some literal
pub bad_least : (m : Bool) (s : List ℕ) (p q : ℕ) → checked m s ≡ bad p → q < p → Begins m (take (q + 1) s)
bad_least m s p q e h = begins_shorter s (q + 1) p (omega arith) (bad_place m s p e).before

-- there is one such place, so a refusal's is determined by the grammar alone
place_not_before : {m : Bool} (s : List ℕ) (p q : ℕ) → Place m s p → Place m s q → p < q → ⊥
place_not_before s p q x y h = x.stops (omega (arith, y.within)) (begins_shorter s (p + 1) q (omega arith) y.before)

pub place_same : {m : Bool} (s : List ℕ) (p q : ℕ) → Place m s p → Place m s q → p ≡ q
place_same s p q x y = by (ltb p q) refl (ltb q p) refl
  where
    by : (t : Bool) → ltb p q ≡ t → (u : Bool) → ltb q p ≡ u → p ≡ q
    by true e u f = absurd (place_not_before s p q x y (ltb-true p q e))
    by false e true f = absurd (place_not_before s q p y x (ltb-true q p f))
    by false e false f = omega (arith, ltb-false p q e, ltb-false q p f)

pub bad_exactly : (m : Bool) (s : List ℕ) (p : ℕ) → ((bs : List ℕ) → Literal m s bs → ⊥) → Place m s p → checked m s ≡ bad p
bad_exactly m s p n x = by (checked m s) refl
  where
    by : (v : Verdict) → checked m s ≡ v → checked m s ≡ bad p
    by (means bs) e = absurd (n bs (means_member m s bs e))
    by (bad q) e = e ∙ ap bad (place_same s q p (bad_place m s q e) x)

-- ---- what our escaping writes

module _ (b : ℕ) where
  other_item : Item true (becomes true b) (b ∷ [])
  unfolding becomes
  other_item = whether b quote (λ e. rw e doubled) (λ n. simp (ne_eqb b quote n) (itself b n (λ e. absurd (true≢false e))))

  backslash_item : Item false (becomes false b) (b ∷ [])
  unfolding becomes behind escape_means
  backslash_item =
      whether b 0x00 (λ e. rw e (escape 0x30 refl)) (λ n₀.
      whether b 0x0A (λ e. rw e (escape 0x6E refl)) (λ n₁.
      whether b 0x0D (λ e. rw e (escape 0x72 refl)) (λ n₂.
      whether b 0x1A (λ e. rw e (escape 0x5A refl)) (λ n₃.
      whether b backslash (λ e. rw e (escape backslash refl)) (λ n₄.
      whether b quote (λ e. rw e (escape quote refl)) (λ n₅.
      whether b 0x22 (λ e. rw e (escape 0x22 refl)) (λ n₆.
      simp (ne_eqb b 0x00 n₀, ne_eqb b 0x0A n₁, ne_eqb b 0x0D n₂, ne_eqb b 0x1A n₃, ne_eqb b backslash n₄, ne_eqb b quote n₅, ne_eqb b 0x22 n₆)
      (itself b n₅ (λ e. n₄)))))))))

byte_item : (m : Bool) (b : ℕ) → Item m (becomes m b) (b ∷ [])
byte_item true = other_item
byte_item false = backslash_item

body_items : (m : Bool) (bs : List ℕ) → Items m (body m bs) bs
unfolding body
body_items m [] = none
body_items m (b ∷ bs) = more (byte_item m b) (body_items m bs)

pub quoted_literal : (m : Bool) (bs : List ℕ) → Literal m (quoted m bs) bs
unfolding quoted
quoted_literal m bs = literal (body_items m bs)

-- so it is accepted, and means its input
pub quoted-checked : (m : Bool) (bs : List ℕ) → checked m (quoted m bs) ≡ means bs
quoted-checked m bs = member_means (quoted_literal m bs)

-- ---- a literal means fewer bytes than it has: at least two fewer, its quotes

either : (t : Bool) (a b : List ℕ) → length a ≤ 2 → length b ≤ 2 → length (cond t a b) ≤ 2
either true a b h k = h
either false a b h k = k

escape_short : (c : ℕ) → length (escape_means c) ≤ 2
unfolding escape_means
escape_short c =
    either (eqb c 0x30) _ _ (omega arith)
    (either (eqb c 0x62) _ _ (omega arith)
    (either (eqb c 0x6E) _ _ (omega arith)
    (either (eqb c 0x72) _ _ (omega arith)
    (either (eqb c 0x74) _ _ (omega arith)
    (either (eqb c 0x5A) _ _ (omega arith)
    (either (eqb c 0x25) _ _ (omega arith)
    (either (eqb c 0x5F) _ _ (omega arith) (omega arith))))))))

item_shorter : {m : Bool} {w b : List ℕ} → Item m w b → length b ≤ length w
item_shorter (itself c n k) = omega arith
item_shorter doubled = omega arith
item_shorter (escape c e) = escape_short c

items_shorter : {m : Bool} {ws bs : List ℕ} → Items m ws bs → length bs ≤ length ws
items_shorter none = omega arith
items_shorter (more {w} {b} {ws} {bs} i is) =
    omega (arith, length-append w ws, length-append b bs, item_shorter i, items_shorter is)

pub literal_shorter : {m : Bool} {s bs : List ℕ} → Literal m s bs → length bs + 2 ≤ length s
literal_shorter (literal {ws} {bs} is) = omega (arith, length-append ws (quote ∷ []), items_shorter is)
