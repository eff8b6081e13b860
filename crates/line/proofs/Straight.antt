-- Request W7: over any cutting of any input the straight-through reader's host sees what the waiting one's does (`straight`), and what
-- that means for the packets (`packets_same`) and for a refusal (`whole_same`, `refusal_same`),
-- also where the waiting host's bytes are cut in other pieces (`packets_served`).
use Rattle.chunk.specs.declared.Decoded.{Decoded}
use Rattle.stream.specs.declared.Piece.{Piece}
use Prim.Native.Nat.{ℕ, zero, suc, ◌≤◌}
use mathlib.Core.Path.{◌≡◌, refl, sym, ap, ◌∙◌, subst, fun_ext}
use mathlib.Core.Bool.{Bool, true, false, cond}
use mathlib.Core.List.{List, [], ◌∷◌, ◌++◌, append-nil, flatten, map}
use native.Mathlib.Omega.{arith}
use lib.ListN.{length, replicate}
use Rattle.chunk.specs.Chunks.{largest}
use Rattle.chunk.specs.declared.PlainPacketCodec.{PlainPacketCodec}
use Rattle.chunk.specs.Read as Waiting
use Rattle.stream.specs.Stream.{idle, pass}
use Rattle.stream.specs.declared.Stream.{Stream}
use Rattle.line.specs.Host.{Event, handed, refusal, Reader, Habit, Host, calls, serve}
use Rattle.line.specs.HostLaws.{refusing, serve_waits, serve_shut}
use Rattle.line.specs.Code.{plain_end}
use Rattle.line.specs.Straight.{Through, Watched, before, passes, watch, Agrees, same, sooner, Straight, packets_of, HasWhole, Passes, code_through}
use Rattle.line.proofs.Plain.{steady, shut, calls_none}
use Rattle.line.proofs.Cuts.{watch_joined}
use Rattle.line.proofs.Same.{both}

pub straight : (m : ℕ) → Straight m (pass m)
straight m = record {
  agrees = λ l k b habit room lent acts pieces.
      rw (ap (λ (w : Watched). w.events) (watch_joined m (idle l k) [] pieces)) (both m l habit acts lent k (flatten pieces) b room).agrees;
}

-- any code that meets the contract is the same reader
pub same_through : (f : Stream → List ℕ → Decoded Piece Stream) → Passes f → pass largest ≡ code_through f
same_through f h = fun_ext (λ st. fun_ext (λ u. sym (h st u)))

pub code_straight : (f : Stream → List ℕ → Decoded Piece Stream) → Passes f → Straight largest (code_through f)
code_straight f h = subst (Straight largest) (same_through f h) (straight largest)

-- ---- what it means, of any reader of which it is true

packets-map : (ps : List (List ℕ)) (es : List Event) → packets_of (map handed ps ++ es) ≡ packets_of (map handed ps) ++ packets_of es
packets-map [] es = refl
packets-map (p ∷ ps) es = ap (λ (x : List (List ℕ)). p ∷ x) (packets-map ps es)

packets_agree : (es : List Event) (h : Host PlainPacketCodec) → Agrees es h → packets_of es ≡ packets_of h.events
packets_agree es h (same e) = ap packets_of e
packets_agree es h (sooner ps e e' long short) =
    rw (e, e') (packets-map ps (refusal 3 ∷ []) ∙ append-nil (packets_of (map handed ps)))

whole_agree : (es : List Event) (h : Host PlainPacketCodec) → Agrees es h → HasWhole h → es ≡ h.events
whole_agree es h (same e) w = e
whole_agree es h (sooner ps e e' long short) w = absurd (omega (arith, w long, short))

-- once it has refused, no piece brings anything
stops_by : (w x y : Watched) (t : Bool) → w.refusing ≡ t → (cond w.refusing w (before w.events x)).refusing ≡ true → (x.refusing ≡ true → y ≡ x)
    → cond w.refusing w (before w.events y) ≡ cond w.refusing w (before w.events x)
stops_by w x y true e z ih = rw e
stops_by w x y false e z ih = rw e (ap (before w.events) (ih (rw e at z)))

watch_stops : (r : Through) (st : Stream) (sofar : List ℕ) (pieces more : List (List ℕ)) → (watch r st sofar pieces).refusing ≡ true
    → watch r st sofar (pieces ++ more) ≡ watch r st sofar pieces
unfolding watch
watch_stops r st sofar [] more z = absurd (let y : ◌≡◌ {A = ℕ} 0 1 = cc in omega arith)
watch_stops r st sofar (c ∷ cs) more z =
    let w : Watched = passes r (length c) st sofar c in
    stops_by w (watch r w.state w.sofar cs) (watch r w.state w.sofar (cs ++ more)) w.refusing refl z
    (watch_stops r w.state w.sofar cs more)

module _ (m : ℕ) (r : Through) (law : Straight m r) (l k : ℕ) (b : List ℕ) (habit : Habit PlainPacketCodec) (room : l ≤ length b)
    (lent : (n : ℕ) (d : List ℕ) → l ≤ length d → l ≤ length (habit.lends n d)) (acts : (st : PlainPacketCodec) → habit.acts st ≡ st) where
  -- what the two hosts have seen of the same bytes
  abbrev straightly : List (List ℕ) → Watched
  straightly pieces = watch r (idle l k) [] pieces

  abbrev waiting : List (List ℕ) → Host PlainPacketCodec
  waiting pieces = calls (plain_end m).reader habit 0 (Waiting.idle l k) (flatten pieces) b

  -- "the marked packets equal those of the waiting reader with enough room", always
  pub packets_same : (pieces : List (List ℕ)) → packets_of (straightly pieces).events ≡ packets_of (waiting pieces).events
  packets_same pieces = packets_agree (straightly pieces).events (waiting pieces) (law.agrees l k b habit room lent acts pieces)

  -- "and the refusal number, if any, is the same once the waiting reader has the whole chunk"
  pub whole_same : (pieces : List (List ℕ)) → HasWhole (waiting pieces) → (straightly pieces).events ≡ (waiting pieces).events
  whole_same pieces w = whole_agree (straightly pieces).events (waiting pieces) (law.agrees l k b habit room lent acts pieces) w

  -- and so it is by whatever bytes the chunk becomes whole
  pub refusal_same : (pieces more : List (List ℕ)) → (straightly pieces).refusing ≡ true → HasWhole (waiting (pieces ++ more))
      → (straightly pieces).events ≡ (waiting (pieces ++ more)).events
  refusal_same pieces more z w =
      ap (λ (x : Watched). x.events) (sym (watch_stops r (idle l k) [] pieces more z)) ∙ whole_same (pieces ++ more) w

-- ---- the waiting host's bytes may be cut too, in the same pieces or in others

packets_sevens : (es : List Event) (j : ℕ) → packets_of (es ++ replicate j (refusal 7)) ≡ packets_of es
packets_sevens [] zero = refl
packets_sevens [] (suc j) = packets_sevens [] j
packets_sevens (handed p ∷ es) j = ap (λ (x : List (List ℕ)). p ∷ x) (packets_sevens es j)
packets_sevens (refusal c ∷ es) j = packets_sevens es j

module _ (m l k : ℕ) (b : List ℕ) (habit : Habit PlainPacketCodec) where
  abbrev r : Reader PlainPacketCodec
  r = (plain_end m).reader

  -- on all the bytes at once, and piece by piece
  abbrev at_once : List (List ℕ) → Host PlainPacketCodec
  at_once cs = calls r habit 0 (Waiting.idle l k) (flatten cs) b

  abbrev served : List (List ℕ) → Host PlainPacketCodec
  served cs = serve r habit 0 (Waiting.idle l k) [] b cs

  abbrev Sevens : List (List ℕ) → Type 0
  Sevens cs = (j : ℕ) × ((served cs).events ≡ (at_once cs).events ++ replicate j (refusal 7))

  waiting_by : (cs : List (List ℕ)) (t : Bool) → refusing (at_once cs).events ≡ t
      → (refusing (at_once cs).events ≡ true → (at_once cs).state.closed ≡ true) → Sevens cs
  waiting_by cs true e z =
      serve_shut r habit (steady m) 0 (Waiting.idle l k) [] b cs (calls_none m habit 0 l k 0 b) (shut m habit (at_once cs).state (z e))
  waiting_by cs false e z = (
    0,
    rw (serve_waits r habit (steady m) 0 (Waiting.idle l k) [] b cs (calls_none m habit 0 l k 0 b) e) (sym (append-nil (at_once cs).events)),
  )

  module _ (room : l ≤ length b) (lent : (n : ℕ) (d : List ℕ) → l ≤ length d → l ≤ length (habit.lends n d))
      (acts : (st : PlainPacketCodec) → habit.acts st ≡ st) where
    -- it sees what it sees at once, and then 7 for each piece that comes after a refusal
    pub waiting_cuts : (cs : List (List ℕ)) → Sevens cs
    waiting_cuts cs = waiting_by cs (refusing (at_once cs).events) refl (both m l habit acts lent k (flatten cs) b room).shuts

    pub packets_served : (pieces cs : List (List ℕ)) → flatten cs ≡ flatten pieces
        → packets_of (watch (pass m) (idle l k) [] pieces).events ≡ packets_of (served cs).events
    packets_served pieces cs e =
        let f = waiting_cuts cs in
        packets_same m (pass m) (straight m) l k b habit room lent acts pieces
        ∙ rw (f.1, e) (sym (packets_sevens (at_once pieces).events f.0))
