-- What was written is read back: each record, and each list of variables. The cursor moves, and stays within the bytes.
use Rattle.refusal.specs.declared.Refusal.{Refusal}
use Rattle.std.specs.Prelude.{ℕ, zero, suc, ◌+◌, ◌≤◌, ◌<◌, ◌^◌, ◌≡◌, refl, Bool, true, false, List, [], ◌∷◌, ◌++◌, length, drop, eqb, Result}
use Rattle.std.proofs.Common.{sym, ap, ◌∙◌, append_assoc, arith, length-append, length-drop, drop-drop, ne_eqb, eqb-true}
use Rattle.std.proofs.Math.Seq.{drop-append_seam, take-length}
use Rattle.std.proofs.lemmas.Bool.{eqb-false}
use Rattle.refusal.specs.Said.{Said, gives, refused, and_then}
use Rattle.wire.specs.LenEnc.{str_at, part_of, str_bytes, len_bytes}
use Rattle.wire.specs.LenEncLaws.{str_back, part_back, part_fits, len_length}
use Rattle.wire.specs.Room.{Wrote}
use Rattle.session.specs.Record.{record_at, record_of, record_bytes, one_string, bytes_of, whole, is_one, pair_bytes, pair_at, variable_at, pair}
use Rattle.session.specs.RecordLaws.{str_in, variable_end, variable_pair, never, wrote_then, wrote_part}
use Rattle.session.specs.RoundTrip.{Content, content_of, schema, gtids, characteristics, state, unsupported, ReadsBack, NameValue}
use Rattle.session.specs.RoundTrip.{pairs_bytes, Fit, gather}
use Rattle.wire.specs.declared.Text.{Text}
use Rattle.session.specs.declared.SystemVariable.{SystemVariable}
use Rattle.session.specs.declared.SessionStateChange.{SessionStateChange}
use Rattle.session.specs.declared.SessionStateChange.TheVariants as Of

-- ---- records

-- where the string stands that was written first
abbrev front : List ℕ → Text
front bs = record { at = 0 + length (len_bytes (length bs)); len = length bs }

module _ (bs t : List ℕ) (h : length bs < 2 ^ 64) where
  front_read : str_at (str_bytes bs ++ t) 0 ≡ gives (front bs)
  front_read = str_back (str_bytes bs ++ t) 0 t bs h refl

  front_part : part_of (str_bytes bs ++ t) (front bs).at (front bs).len ≡ bs
  front_part = part_back (str_bytes bs ++ t) 0 bs t refl

  front_used : (front bs).at + (front bs).len ≡ length (str_bytes bs)
  front_used = omega (arith, length-append (len_bytes (length bs)) bs)

-- all the bytes
all : (s : List ℕ) → part_of s 0 (length s) ≡ s
all s = part_fits s 0 (length s) (omega arith) ∙ take-length s

-- one string, of whichever type, whatever stands behind it
one_back : (kind : ℕ) (of : Text → SessionStateChange) (says : List ℕ → Content)
    → ((s : List ℕ) → record_at s kind ≡ one_string of s)
    → ((s : List ℕ) (text : Text) → content_of s (of text) ≡ says (bytes_of s text))
    → ((s : List ℕ) (text : Text) → record_bytes s (of text) ≡ str_bytes (bytes_of s text))
    → (src : List ℕ) (text : Text) (t : List ℕ) → length (bytes_of src text) < 2 ^ 64 → ReadsBack src (of text) (record_bytes src (of text) ++ t) kind
one_back kind of says by content written src text t h =
    let bs = bytes_of src text in
    rw (written src text)
    record {
      found = record_of (of (front bs)) ((front bs).at + (front bs).len);
      read = by (str_bytes bs ++ t) ∙ rw (front_read bs t h);
      same = content (str_bytes bs ++ t) (front bs) ∙ ap says (front_part bs t h) ∙ sym (content src text);
      used = front_used bs t h ∙ ap length (sym (written src text));
    }

module _ (src : List ℕ) (text : Text) (t : List ℕ) (h : length (bytes_of src text) < 2 ^ 64) where
  pub schema_back : ReadsBack src (Of.Schema text) (record_bytes src (Of.Schema text) ++ t) 1
  unfolding record_at
  schema_back = one_back 1 Of.Schema schema (λ s. refl) (λ s x. refl) (λ s x. refl) src text t h

  pub characteristics_back : ReadsBack src (Of.TransactionCharacteristics text) (record_bytes src (Of.TransactionCharacteristics text) ++ t) 4
  unfolding record_at
  characteristics_back = one_back 4 Of.TransactionCharacteristics characteristics (λ s. refl) (λ s x. refl) (λ s x. refl) src text t h

  pub state_back : ReadsBack src (Of.TransactionState text) (record_bytes src (Of.TransactionState text) ++ t) 5
  unfolding record_at
  state_back = one_back 5 Of.TransactionState state (λ s. refl) (λ s x. refl) (λ s x. refl) src text t h

-- the digit of a tracked record
digit_back : (src : List ℕ) (b : Bool) (d : ℕ) (t : List ℕ) → is_one (d ∷ []) ≡ b → record_bytes src (Of.IsTracked b) ≡ str_bytes (d ∷ [])
    → ReadsBack src (Of.IsTracked b) (record_bytes src (Of.IsTracked b) ++ t) 2
unfolding record_at
digit_back src b d t e written =
    let h : length (d ∷ []) < 2 ^ 64 = omega arith in
    let is : is_one (part_of (str_bytes (d ∷ []) ++ t) (front (d ∷ [])).at (front (d ∷ [])).len) ≡ b = ap is_one (front_part (d ∷ []) t h) ∙ e in
    rw written
    record {
      found = record_of (Of.IsTracked b) ((front (d ∷ [])).at + (front (d ∷ [])).len);
      read = rw (front_read (d ∷ []) t h) (rw is);
      same = refl;
      used = front_used (d ∷ []) t h ∙ ap length (sym written);
    }

pub tracked_back : (src : List ℕ) (b : Bool) (t : List ℕ) → ReadsBack src (Of.IsTracked b) (record_bytes src (Of.IsTracked b) ++ t) 2
unfolding len_bytes
tracked_back src true t = digit_back src true 0x31 t refl refl
tracked_back src false t = digit_back src false 0x30 t refl refl

-- GTIDs and unsupported records are all their bytes
pub gtids_back : (src : List ℕ) (text : Text) → ReadsBack src (Of.Gtids text) (record_bytes src (Of.Gtids text)) 3
unfolding record_at
gtids_back src text = record {
  found = record_of (Of.Gtids (whole (bytes_of src text))) (length (bytes_of src text));
  read = refl;
  same = ap gtids (all (bytes_of src text));
  used = refl;
}

pub unsupported_back : (src : List ℕ) (text : Text) (kind : ℕ) → 6 ≤ kind → ReadsBack src (Of.Unsupported text) (record_bytes src (Of.Unsupported text)) kind
unfolding record_at
unsupported_back src text kind h = record {
  found = record_of (Of.Unsupported (whole (bytes_of src text))) (length (bytes_of src text));
  read = simp (
    ne_eqb kind 0 (λ e. omega arith),
    ne_eqb kind 1 (λ e. omega arith),
    ne_eqb kind 2 (λ e. omega arith),
    ne_eqb kind 3 (λ e. omega arith),
    ne_eqb kind 4 (λ e. omega arith),
    ne_eqb kind 5 (λ e. omega arith),
  );
  same = ap unsupported (all (bytes_of src text));
  used = refl;
}

-- a record of variables takes nothing by itself
pub variables_back : (src s : List ℕ) → ReadsBack src Of.SystemVariables s 0
unfolding record_at
variables_back src s = record { found = record_of Of.SystemVariables 0; read = refl; same = refl; used = refl }

-- ---- variables

abbrev pair_of : Text → Text → SystemVariable
pair_of n w = record { name = n; value = w; next = w.at + w.len }

module _ (s : List ℕ) (at : ℕ) (v : SystemVariable) where
  abbrev pub Moves : Type 0
  Moves = (at < v.next) × (v.next ≤ length s) × (v.name.at + v.name.len ≤ length s) × (v.value.at + v.value.len ≤ length s)

  valued : (n : Text) → str_at s at ≡ gives n → (r : Said Text) → str_at s (n.at + n.len) ≡ r
      → and_then (and_then r (λ w. gives (pair_of n w))) (λ u. gives (pair u)) ≡ gives (pair v) → Moves
  valued n f (gives w) g e =
      let q : pair_of n w ≡ v = cc e in
      let a = str_in s at n f in
      let b = str_in s (n.at + n.len) w g in
      rw (← q) (omega arith, omega arith, omega arith, omega arith)
  valued n f (refused k) g e = never e

  named : (r : Said Text) → str_at s at ≡ r
      → and_then (and_then r (λ n. and_then (str_at s (n.at + n.len)) (λ w. gives (pair_of n w)))) (λ u. gives (pair u)) ≡ gives (pair v) → Moves
  named (gives n) f e = valued n f (str_at s (n.at + n.len)) refl e
  named (refused k) f e = never e

  -- the cursor moves on with each pair, and never past the end; name and value lie within the bytes
  pub pair_moves : variable_at s at ≡ gives (pair v)
      → (at < v.next) × (v.next ≤ length s) × (v.name.at + v.name.len ≤ length s) × (v.value.at + v.value.len ≤ length s)
  pair_moves e = by (eqb at (length s)) refl
    where
      by : (t : Bool) → eqb at (length s) ≡ t → Moves
      by true q = let z : ◌≡◌ {A = ℕ} 0 1 = cc (sym (variable_end s at (eqb-true at (length s) q)) ∙ e) in absurd (omega arith)
      by false q = named (str_at s at) refl (sym (variable_pair s at (eqb-false at (length s) q)) ∙ e)

-- behind bytes that stand at a place
past : (s : List ℕ) (at n : ℕ) (a b : List ℕ) → drop at s ≡ a ++ b → n ≡ at + length a → drop n s ≡ b
past s at n a b e f = ap (λ (m : ℕ). drop m s) f ∙ sym (drop-drop (length a) at s) ∙ ap (drop (length a)) e ∙ drop-append_seam a b

-- a pair that stands at a place, whatever stands behind it
pub pair_back : (s : List ℕ) (at : ℕ) (p : NameValue) (t : List ℕ) → length p.name < 2 ^ 64 → length p.value < 2 ^ 64
    → drop at s ≡ pair_bytes p.name p.value ++ t
    → (v : SystemVariable) × (pair_at s at ≡ gives v) × (v.next ≡ at + length (pair_bytes p.name p.value))
    × (bytes_of s v.name ≡ p.name) × (bytes_of s v.value ≡ p.value)
pair_back s at p t h k e =
    let n : Text = record { at = at + length (len_bytes (length p.name)); len = length p.name } in
    let w : Text = record { at = n.at + n.len + length (len_bytes (length p.value)); len = length p.value } in
    let first : drop at s ≡ str_bytes p.name ++ (str_bytes p.value ++ t) = e ∙ append_assoc (str_bytes p.name) (str_bytes p.value) t in
    let second : drop (n.at + n.len) s ≡ str_bytes p.value ++ t =
    past s at (n.at + n.len) (str_bytes p.name) (str_bytes p.value ++ t) first (simp length-append (omega arith)) in
    let f : str_at s at ≡ gives n = str_back s at (str_bytes p.value ++ t) p.name h first in
    let g : str_at s (n.at + n.len) ≡ gives w = str_back s (n.at + n.len) t p.value k second in (
      pair_of n w,
      rw f (rw g),
      simp length-append (omega arith),
      part_back s at p.name (str_bytes p.value ++ t) first,
      part_back s (n.at + n.len) p.value t second,
    )

-- Called from a place where a list of pairs stands to the end, one time more than there are pairs, the cursor hands out just
-- these pairs, in their order.
pub pairs_at : (ps : List NameValue) (calls : ℕ) (s : List ℕ) (at : ℕ) → Fit ps → length ps < calls → at ≤ length s
    → drop at s ≡ pairs_bytes ps → gather calls s at ≡ gives ps
unfolding gather pairs_bytes Fit
pairs_at ps zero s at f h l e = absurd (omega arith)
pairs_at [] (suc calls) s at f h l e = rw (variable_end s at (omega (arith, length-drop at s, ap length e)))
pairs_at (p ∷ ps) (suc calls) s at f h l e =
    let b = pair_back s at p (pairs_bytes ps) f.0 f.1 e in
    let v = b.0 in
    let size : length s ≡ at + (length (pair_bytes p.name p.value) + length (pairs_bytes ps)) =
    omega (arith, length-drop at s, ap length e, length-append (pair_bytes p.name p.value) (pairs_bytes ps)) in
    let some : 1 ≤ length (pair_bytes p.name p.value) = simp length-append (omega (arith, len_length (length p.name))) in
    let rest = pairs_at ps calls s v.next f.2 (omega arith) (omega (arith, b.2))
    (past s at v.next (pair_bytes p.name p.value) (pairs_bytes ps) e b.2) in
    rw (variable_pair s at (λ q. omega arith), b.1) (rw rest (rw (b.3, b.4)))

-- from the first to the last
pub pairs_back : (ps : List NameValue) → Fit ps → gather (length ps + 1) (pairs_bytes ps) 0 ≡ gives ps
pairs_back ps f = pairs_at ps (length ps + 1) (pairs_bytes ps) 0 f (omega arith) (omega arith) refl

-- ---- a buffer in between

-- pairs written one behind the other, each at the place that the last writer answered, are their list
pub pairs-written : (p : NameValue) (ps : List NameValue) (d : List ℕ) (at : ℕ) {r r' : Result ℕ Refusal} {d₁ d₂ : List ℕ} → at + length (pairs_bytes (p ∷ ps)) ≤ length d
    → Wrote (pair_bytes p.name p.value) d at r d₁ → Wrote (pairs_bytes ps) d₁ (at + length (pair_bytes p.name p.value)) r' d₂
    → Wrote (pairs_bytes (p ∷ ps)) d at r' d₂
unfolding pairs_bytes
pairs-written p ps d at h w v =
    wrote_then (pair_bytes p.name p.value) (pairs_bytes ps) d at refl
    (omega (arith, length-append (pair_bytes p.name p.value) (pairs_bytes ps))) w v

-- and the cursor hands them out again from the part of the buffer that they fill
pub pairs_through : (ps : List NameValue) (d : List ℕ) (at : ℕ) {r : Result ℕ Refusal} {d' : List ℕ} → Fit ps → at + length (pairs_bytes ps) ≤ length d
    → Wrote (pairs_bytes ps) d at r d' → gather (length ps + 1) (part_of d' at (length (pairs_bytes ps))) 0 ≡ gives ps
pairs_through ps d at f h w = ap (λ (s : List ℕ). gather (length ps + 1) s 0) (wrote_part w h) ∙ pairs_back ps f
