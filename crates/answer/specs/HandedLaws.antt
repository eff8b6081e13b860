-- What was written is handed on: each record, in the part of the packet that the existing reader reads as that record.
use Rattle.std.specs.Prelude.{ℕ, zero, suc, ◌+◌, ◌-◌, ◌≤◌, ◌<◌, ◌^◌, ◌≡◌, refl, Bool, true, false, cond, List, [], ◌∷◌, ◌++◌, length, take, drop, get_or, eqb}
use Rattle.std.proofs.Common.{sym, ap, ◌∙◌, arith, add-zero, length-append, length-drop, get_or-drop, take-take, length-take-le, eq-eqb, ne_eqb, eqb-true}
use Rattle.std.proofs.lemmas.Bool.{eqb-false}
use Rattle.refusal.specs.Said.{gives}
use Rattle.wire.specs.LenEnc.{len_bytes, str_bytes, part_of}
use Rattle.wire.specs.LenEncLaws.{str_back, part_back, part_fits}
use Rattle.wire.specs.RoomLaws.{cut_later}
use Rattle.session.specs.Record.{bytes_of, record_bytes}
use Rattle.session.specs.RoundTrip.{ReadsBack, NameValue, pairs_bytes}
use Rattle.session.specs.RoundTrip as Pairs
use Rattle.session.proofs.RoundTripLaws.{schema_back, tracked_back, gtids_back, characteristics_back, state_back, unsupported_back, variables_back, pairs_back}
use Rattle.session.specs.declared.SessionStateChange.{SessionStateChange}
use Rattle.session.specs.declared.SessionStateChange.TheVariants as Of
use Rattle.answer.specs.Answer.{tracks}
use Rattle.answer.specs.Records.{handing, handed_of, one, next_in, next_at}
use Rattle.answer.specs.RecordsLaws.{handed_digit, handed_long, handed_other, next_end, next_one, next-within}
use Rattle.answer.specs.Written.{holds_length, record_on_wire, ok_bytes}
use Rattle.answer.specs.RoundTrip.{as_handed, HandedOn, ReadsOn, Typed, Kept, records_bytes, Fit, gather, OkBack}
use Rattle.answer.specs.RoundTripLaws.{past, stands, append-nil}
use Rattle.answer.specs.declared.Handed.{Handed}

-- ---- the packet up to the end of its records

-- a part of that is the same part of the packet
part_inside : (s : List ℕ) (a n limit : ℕ) → a + n ≤ limit → limit ≤ length s → part_of (take limit s) a n ≡ part_of s a n
part_inside s a n limit h l =
    let k : length (take limit s) ≡ limit = length-take-le limit s l in
    part_fits (take limit s) a n (omega (arith, k))
    ∙ cut_later (take limit s) a n (omega (arith, k)) ∙ ap (drop a) (take-take (a + n) limit s h) ∙ sym (cut_later s a n (omega arith))
    ∙ sym (part_fits s a n (omega arith))

next-take : (s : List ℕ) (at limit : ℕ) → limit ≤ length s → next_at s at limit ≡ next_in (take limit s) at
next-take s at limit l = next-within s at limit l ∙ ap (λ (r : List ℕ). next_in r at) (part_fits s 0 limit (omega arith))

-- ---- which bytes are handed on

as_other : (src : List ℕ) (kind : ℕ) → (kind ≡ 2 → ⊥) → as_handed src kind ≡ src
unfolding as_handed
as_other src kind n = simp (ne_eqb kind 2 n)

as_long : (src : List ℕ) → (length src ≡ 1 → ⊥) → as_handed src 2 ≡ src
unfolding as_handed
as_long src n = simp (ne_eqb (length src) 1 n)

as_digit : (src : List ℕ) → length src ≡ 1 → as_handed src 2 ≡ str_bytes src
unfolding as_handed
as_digit src e = simp (eq-eqb (length src) 1 e)

-- ---- a type, and a body behind its length

module _ (s : List ℕ) (at limit : ℕ) (src t : List ℕ) (l : limit ≤ length s) (h : length src < 2 ^ 64) where
  abbrev from : ℕ
  from = at + 1

  abbrev place : ℕ
  place = from + length (len_bytes (length src))

  module _ (kind : ℕ) (e : drop at (take limit s) ≡ (kind ∷ []) ++ str_bytes src ++ t) where
    k : length (take limit s) ≡ limit
    k = length-take-le limit s l

    sizes : at + (1 + (length (str_bytes src) + length t)) ≡ limit
    sizes = omega (arith, k, ap length e, length-drop at (take limit s), length-append (str_bytes src) t)

    body : drop from (take limit s) ≡ str_bytes src ++ t
    body = past (take limit s) at from (kind ∷ []) (str_bytes src ++ t) e refl

    seen : next_at s at limit ≡ gives (one (handed_of kind from place (length src)))
    seen =
        let lead : get_or (take limit s) at 0 ≡ kind =
        sym (ap (λ (n : ℕ). get_or (take limit s) n 0) (add-zero at)) ∙ sym (get_or-drop at (take limit s) 0 0) ∙ ap (λ (x : List ℕ). get_or x 0 0) e in
        next-take s at limit l ∙ next_one (take limit s) at (omega (arith, k, sizes)) ∙ rw (lead, str_back (take limit s) from t src h body) refl

    size : length (str_bytes src) ≡ length (len_bytes (length src)) + length src
    size = length-append (len_bytes (length src)) src

    -- handed on from behind its length
    plainly : handed_of kind from place (length src) ≡ handing kind place (length src) (place + length src) → as_handed src kind ≡ src
        → HandedOn s at limit kind (as_handed src kind) (at + length ((kind ∷ []) ++ str_bytes src))
    plainly q w = record {
      handed = handing kind place (length src) (place + length src);
      found = seen ∙ ap (λ (x : Handed). gives (one x)) q;
      kind_is = refl;
      part_is = sym (part_inside s place (length src) limit (omega (arith, sizes, size)) l) ∙ part_back (take limit s) from src t body ∙ sym w;
      next_is = omega (arith, size);
    }

    led_by : (a b : Bool) → eqb kind 2 ≡ a → eqb (length src) 1 ≡ b
        → HandedOn s at limit kind (as_handed src kind) (at + length ((kind ∷ []) ++ str_bytes src))
    led_by false b f g =
        let n = eqb-false kind 2 f in
        plainly (handed_other kind from place (length src) n) (as_other src kind n)
    led_by true false f g =
        let two : kind ≡ 2 = eqb-true kind 2 f in
        let n = eqb-false (length src) 1 g in
        plainly (rw two (handed_long from place (length src) n)) (rw two (as_long src n))
    led_by true true f g =
        let two : kind ≡ 2 = eqb-true kind 2 f in
        let digit : length src ≡ 1 = eqb-true (length src) 1 g in
        let q : handed_of kind from place (length src) ≡ handing 2 from (place + 1 - from) (place + 1) =
        rw two (ap (λ (n : ℕ). handed_of 2 from place n) digit ∙ handed_digit from place) in
        let n : place + 1 - from ≡ length (str_bytes src) = omega (arith, size, digit) in
        record {
          handed = handing 2 from (place + 1 - from) (place + 1);
          found = seen ∙ ap (λ (x : Handed). gives (one x)) q;
          kind_is = sym two;
          part_is =
              sym (part_inside s from (place + 1 - from) limit (omega (arith, sizes, n)) l)
              ∙ stands (take limit s) from (place + 1 - from) (str_bytes src) t n (omega (arith, sizes, k)) body
              ∙ sym (ap (as_handed src) two ∙ as_digit src digit);
          next_is = omega (arith, size, digit);
        }

    -- each type and each body; also the papers' 02 02 01 31
    pub led_handed : HandedOn s at limit kind (as_handed src kind) (at + length ((kind ∷ []) ++ str_bytes src))
    led_handed = led_by (eqb kind 2) (eqb (length src) 1) refl refl

-- ---- a record as it is written

-- the bytes that hold their length already: type 2, and a one-byte string
own_by : (src : List ℕ) → cond (eqb (length src) 2) (eqb (get_or src 0 0) 1) false ≡ true → (d : ℕ) × (src ≡ 0x01 ∷ d ∷ [])
own_by [] e = let z : ◌≡◌ {A = ℕ} 0 1 = cc e in absurd (omega arith)
own_by (x ∷ []) e = let z : ◌≡◌ {A = ℕ} 0 1 = cc e in absurd (omega arith)
own_by (x ∷ d ∷ []) e = (d, ap (λ (n : ℕ). n ∷ d ∷ []) (eqb-true x 1 e))
own_by (x ∷ d ∷ y ∷ l) e =
    let f : false ≡ true = rw (ne_eqb (length (x ∷ d ∷ y ∷ l)) 2 (λ q. omega arith)) at e in
    let z : ◌≡◌ {A = ℕ} 0 1 = cc f in
    absurd (omega arith)

own : (src : List ℕ) (kind : ℕ) → holds_length src kind ≡ true → (kind ≡ 2) × (d : ℕ) × (src ≡ 0x01 ∷ d ∷ [])
unfolding holds_length
own src kind e = by (eqb kind 2) refl e
  where
    by : (b : Bool) → eqb kind 2 ≡ b → cond b (cond (eqb (length src) 2) (eqb (get_or src 0 0) 1) false) false ≡ true
        → (kind ≡ 2) × (d : ℕ) × (src ≡ 0x01 ∷ d ∷ [])
    by true f g = let o = own_by src g in (eqb-true kind 2 f, o.0, o.1)
    by false f g = let z : ◌≡◌ {A = ℕ} 0 1 = cc g in absurd (omega arith)

module _ (s : List ℕ) (at limit : ℕ) (t : List ℕ) (l : limit ≤ length s) where
  -- a one-byte body of type 2 on the wire: handed on with its length
  pub digit_handed : (d : ℕ) → drop at (take limit s) ≡ (0x02 ∷ 0x01 ∷ d ∷ []) ++ t → HandedOn s at limit 2 (0x01 ∷ d ∷ []) (at + 3)
  unfolding len_bytes as_handed
  digit_handed d e = led_handed s at limit (d ∷ []) t l (omega arith) 2 e

  -- the papers' form
  pub paper_handed : (d : ℕ) → drop at (take limit s) ≡ (0x02 ∷ 0x02 ∷ 0x01 ∷ d ∷ []) ++ t → HandedOn s at limit 2 (0x01 ∷ d ∷ []) (at + 4)
  unfolding len_bytes as_handed
  paper_handed d e = led_handed s at limit (0x01 ∷ d ∷ []) t l (omega arith) 2 e

  -- bytes that hold their length already
  held : (src : List ℕ) (kind d : ℕ) → kind ≡ 2 → src ≡ 0x01 ∷ d ∷ [] → drop at (take limit s) ≡ (kind ∷ []) ++ src ++ t
      → HandedOn s at limit kind (as_handed src kind) (at + length ((kind ∷ []) ++ src))
  held src kind d two q e =
      let made : HandedOn s at limit 2 (0x01 ∷ d ∷ []) (at + 3) = digit_handed d (e ∙ rw (two, q) refl) in
      let same : as_handed src kind ≡ 0x01 ∷ d ∷ [] = rw (two, q) (as_long (0x01 ∷ d ∷ []) (λ z. omega arith)) in
      rw same (rw (two, q) made)

  -- Whatever `put_record` writes is handed on as it was given
  pub record_handed : (src : List ℕ) (kind : ℕ) → length src < 2 ^ 64 → drop at (take limit s) ≡ record_on_wire src kind ++ t
      → HandedOn s at limit kind (as_handed src kind) (at + length (record_on_wire src kind))
  record_handed src kind h e = by (holds_length src kind) refl
    where
      by : (b : Bool) → holds_length src kind ≡ b → HandedOn s at limit kind (as_handed src kind) (at + length (record_on_wire src kind))
      by false f = rw f (led_handed s at limit src t l h kind (rw f at e))
      by true f = let o = own src kind f in rw f (held src kind o.1 o.0 o.2 (rw f at e))

-- ---- each change, read by the existing reader

-- its bytes are handed on as they are
change_bytes : (src : List ℕ) (change : SessionStateChange) (kind : ℕ) → Typed change kind → as_handed (record_bytes src change) kind ≡ record_bytes src change
change_bytes src Of.SystemVariables kind e = as_other [] kind (λ q. omega (arith, e))
change_bytes src (Of.Schema x) kind e = as_other (record_bytes src (Of.Schema x)) kind (λ q. omega (arith, e))
change_bytes src (Of.IsTracked true) kind e = rw e (as_long (0x01 ∷ 0x31 ∷ []) (λ q. omega arith))
change_bytes src (Of.IsTracked false) kind e = rw e (as_long (0x01 ∷ 0x30 ∷ []) (λ q. omega arith))
change_bytes src (Of.Gtids x) kind e = as_other (record_bytes src (Of.Gtids x)) kind (λ q. omega (arith, e))
change_bytes src (Of.TransactionCharacteristics x) kind e = as_other (record_bytes src (Of.TransactionCharacteristics x)) kind (λ q. omega (arith, e))
change_bytes src (Of.TransactionState x) kind e = as_other (record_bytes src (Of.TransactionState x)) kind (λ q. omega (arith, e))
change_bytes src (Of.Unsupported x) kind e = as_other (record_bytes src (Of.Unsupported x)) kind (λ q. omega (arith, e))

-- and read back from them
alone : (src : List ℕ) (change : SessionStateChange) (kind n : ℕ) → kind ≡ n → ReadsBack src change (record_bytes src change ++ []) n
    → ReadsBack src change (record_bytes src change) kind
alone src change kind n e b = rw e (rw (append-nil (record_bytes src change)) at b)

change_back : (src : List ℕ) (change : SessionStateChange) (kind : ℕ) → Typed change kind → length (record_bytes src change) < 2 ^ 64
    → ReadsBack src change (record_bytes src change) kind
change_back src Of.SystemVariables kind e h = rw e (variables_back src [])
change_back src (Of.Schema x) kind e h =
    alone src (Of.Schema x) kind 1 e (schema_back src x [] (omega (arith, length-append (len_bytes (length (bytes_of src x))) (bytes_of src x))))
change_back src (Of.IsTracked b) kind e h = alone src (Of.IsTracked b) kind 2 e (tracked_back src b [])
change_back src (Of.Gtids x) kind e h = rw e (gtids_back src x)
change_back src (Of.TransactionCharacteristics x) kind e h =
    alone src (Of.TransactionCharacteristics x) kind 4 e
    (characteristics_back src x [] (omega (arith, length-append (len_bytes (length (bytes_of src x))) (bytes_of src x))))
change_back src (Of.TransactionState x) kind e h =
    alone src (Of.TransactionState x) kind 5 e (state_back src x [] (omega (arith, length-append (len_bytes (length (bytes_of src x))) (bytes_of src x))))
change_back src (Of.Unsupported x) kind e h = unsupported_back src x kind e

module _ (s : List ℕ) (at limit : ℕ) (t : List ℕ) (l : limit ≤ length s) where
  reads_on : (src : List ℕ) (change : SessionStateChange) (kind next : ℕ) → HandedOn s at limit kind (record_bytes src change) next
      → ReadsBack src change (record_bytes src change) kind → ReadsOn s at limit kind src change next
  reads_on src change kind next h b = record {
    handed = h.handed;
    found = h.found;
    kind_is = h.kind_is;
    back = rw (h.part_is, h.kind_is) b;
    next_is = h.next_is;
  }

  -- For each change that `put_record` writes, the reader reads from the part that is handed on just that change
  pub change_handed : (src : List ℕ) (change : SessionStateChange) (kind : ℕ) → Typed change kind → length (record_bytes src change) < 2 ^ 64
      → drop at (take limit s) ≡ record_on_wire (record_bytes src change) kind ++ t
      → ReadsOn s at limit kind src change (at + length (record_on_wire (record_bytes src change) kind))
  change_handed src change kind y h e =
      reads_on src change kind (at + length (record_on_wire (record_bytes src change) kind))
      (rw (change_bytes src change kind y) at (record_handed s at limit t l (record_bytes src change) kind h e)) (change_back src change kind y h)

  -- What servers send, 02 01 31 and 02 01 30, and what the papers give, 02 02 01 31 and 02 02 01 30, read alike
  pub server_tracked : (src : List ℕ) (b : Bool) → drop at (take limit s) ≡ (0x02 ∷ 0x01 ∷ cond b 0x31 0x30 ∷ []) ++ t
      → ReadsOn s at limit 2 src (Of.IsTracked b) (at + 3)
  server_tracked src true e =
      reads_on src (Of.IsTracked true) 2 (at + 3) (digit_handed s at limit t l 0x31 e) (change_back src (Of.IsTracked true) 2 refl (omega arith))
  server_tracked src false e =
      reads_on src (Of.IsTracked false) 2 (at + 3) (digit_handed s at limit t l 0x30 e) (change_back src (Of.IsTracked false) 2 refl (omega arith))

  pub paper_tracked : (src : List ℕ) (b : Bool) → drop at (take limit s) ≡ (0x02 ∷ 0x02 ∷ 0x01 ∷ cond b 0x31 0x30 ∷ []) ++ t
      → ReadsOn s at limit 2 src (Of.IsTracked b) (at + 4)
  paper_tracked src true e =
      reads_on src (Of.IsTracked true) 2 (at + 4) (paper_handed s at limit t l 0x31 e) (change_back src (Of.IsTracked true) 2 refl (omega arith))
  paper_tracked src false e =
      reads_on src (Of.IsTracked false) 2 (at + 4) (paper_handed s at limit t l 0x30 e) (change_back src (Of.IsTracked false) 2 refl (omega arith))

  -- A record of variables: the existing cursor hands out its pairs from the part that is handed on
  pub variables_handed : (ps : List NameValue) → Pairs.Fit ps → length (pairs_bytes ps) < 2 ^ 64
      → drop at (take limit s) ≡ record_on_wire (pairs_bytes ps) 0 ++ t
      → (h : Handed) × (next_at s at limit ≡ gives (one h)) × (h.kind ≡ 0)
      × (Pairs.gather (length ps + 1) (part_of s h.at h.len) 0 ≡ gives ps)
  variables_handed ps f h e =
      let x = record_handed s at limit t l (pairs_bytes ps) 0 h e in
      let p : part_of s x.handed.at x.handed.len ≡ pairs_bytes ps = x.part_is ∙ as_other (pairs_bytes ps) 0 (λ q. omega arith) in
      (x.handed, x.found, x.kind_is, ap (λ (b : List ℕ). Pairs.gather (length ps + 1) b 0) p ∙ pairs_back ps f)

-- ---- a list of records

-- Called from a place where a list of records stands to the end, one time more than there are records, the cursor hands on just
-- these, in their order
pub records_at : (ks : List Kept) (calls : ℕ) (s : List ℕ) (at limit : ℕ) → Fit ks → length ks < calls → at ≤ limit → limit ≤ length s
    → drop at (take limit s) ≡ records_bytes ks → gather calls s at limit ≡ gives ks
unfolding gather records_bytes Fit
records_at ks zero s at limit f h m l e = absurd (omega arith)
records_at [] (suc calls) s at limit f h m l e =
    let k : length (take limit s) ≡ limit = length-take-le limit s l in
    let w : at ≡ length (take limit s) = omega (arith, k, ap length e, length-drop at (take limit s)) in
    rw (next-take s at limit l ∙ next_end (take limit s) at w)
records_at (r ∷ ks) (suc calls) s at limit f h m l e =
    let k : length (take limit s) ≡ limit = length-take-le limit s l in
    let x = record_handed s at limit (records_bytes ks) l r.bytes r.kind f.0 e in
    let n : length (record_on_wire r.bytes r.kind) + length (records_bytes ks) ≡ limit - at =
    sym (length-append (record_on_wire r.bytes r.kind) (records_bytes ks)) ∙ sym (ap length e) ∙ length-drop at (take limit s) ∙ ap (λ (j : ℕ). j - at) k in
    let rest = records_at ks calls s x.handed.next limit f.2 (omega arith) (omega (arith, n, x.next_is)) l
    (past (take limit s) at x.handed.next (record_on_wire r.bytes r.kind) (records_bytes ks) e x.next_is) in
    let p : part_of s x.handed.at x.handed.len ≡ r.bytes = x.part_is ∙ f.1 in
    rw x.found (rw rest (rw (x.kind_is, p)))

-- The records of an OK packet that was read: from their place to their end
pub ok_records : (rows id status warnings : ℕ) (message : List ℕ) (ks : List Kept) (s : List ℕ)
    (b : OkBack rows id status warnings message (records_bytes ks) true s) → Fit ks → tracks status ≡ true
    → length (ok_bytes rows id status warnings message (records_bytes ks) true) ≤ length s
    → gather (length ks + 1) s b.listed.at (b.listed.at + b.listed.len) ≡ gives ks
ok_records rows id status warnings message ks s b f bit l =
    let at = b.listed.at in
    let n = b.listed.len in
    let m : at + n ≤ length s = omega (arith, b.ends) in
    let e : bytes_of s b.listed ≡ records_bytes ks = rw bit at b.records_are in
    records_at ks (length ks + 1) s at (at + n) f (omega arith) (omega arith) m
    (sym (cut_later s at n (omega arith)) ∙ sym (part_fits s at n m) ∙ e)
