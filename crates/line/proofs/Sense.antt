-- The definitions say what they are meant to: the pieces are the packet, the bound on the host's calls is never met, what is seen stays
-- seen, and two ends whose line loses nothing bring over every packet.
use Prim.Native.Nat.{ℕ, zero, suc, ◌+◌, ◌-◌, ◌*◌, ◌/◌, ◌%◌, ◌≤◌, ◌<◌}
use mathlib.Core.Path.{◌≡◌, refl, sym, ap, ◌∙◌}
use mathlib.Core.List.{List, [], ◌∷◌, ◌++◌, append-nil, append_assoc, flatten, map}
use native.Mathlib.Nat.{mod-eq-sub-div-mul, div-mul-le_self}
use native.Mathlib.Omega.{arith}
use native.Mathlib.Decide.{dec_le}
use lib.ListN.{length, take, drop, get_or, take-append-drop, length-drop, length-append, get_or-append}
use lib.Seq.{length-take-le, take-length, get_or_at}
use borrow.Author.Tests.{le-leb}
use Rattle.chunk.specs.Chunks.{largest, cut, pieces, chunks_of, after}
use Rattle.chunk.specs.Read.{idle}
use Rattle.chunk.specs.declared.PlainPacketCodec.{PlainPacketCodec}
use Rattle.line.specs.Host.{Event, handed, Reader, Habit, calls_up_to, calls, serve}
use Rattle.line.specs.HostLaws.{bound}
use Rattle.line.specs.Arrivals.{arrived}
use Rattle.line.specs.Written.{count, written, complete}
use Rattle.line.specs.Line.{Given}
use Rattle.line.specs.Code.{plain_end, Decoder, Decodes, code_end, Encoder, Encodes, Writes}
use Rattle.line.proofs.Plain.{steady}
use Rattle.line.proofs.InPlace.{length_cut, length-chunks_of}
use Rattle.line.proofs.Main.{arrived_in_place, code_line}
use Rattle.line.proofs.Writer.{code_written}

-- ---- "A packet of n bytes is cut into floor(n/m)+1 chunks: all but the last hold m bytes, the last holds n mod m, which may be 0"

cut_joins : (q m : ℕ) (p : List ℕ) → flatten (cut q m p) ≡ p
unfolding cut flatten
cut_joins zero m p = append-nil p
cut_joins (suc q) m p = rw (cut_joins q m (drop m p)) (take-append-drop m p)

pub pieces_join : (m : ℕ) (p : List ℕ) → flatten (pieces m p) ≡ p
unfolding pieces
pieces_join m p = cut_joins (length p / m) m p

pub pieces-count : (m : ℕ) (p : List ℕ) → length (pieces m p) ≡ count m p
unfolding pieces
pieces-count m p = length_cut (length p / m) m p ∙ omega arith

cut_full : (q m j : ℕ) (p : List ℕ) → q * m ≤ length p → j < q → length (get_or (cut q m p) j []) ≡ m
unfolding cut
cut_full zero m j p h hj = absurd (omega arith)
cut_full (suc q) m zero p h hj = length-take-le m p (omega arith)
cut_full (suc q) m (suc j) p h hj = cut_full q m j (drop m p) (rw length-drop (omega arith)) (omega arith)

cut_last : (q m : ℕ) (p : List ℕ) → length (get_or (cut q m p) q []) ≡ length p - q * m
unfolding cut
cut_last zero m p = omega arith
cut_last (suc q) m p = cut_last q m (drop m p) ∙ rw length-drop (omega arith)

pub pieces_full : (m j : ℕ) (p : List ℕ) → j < length p / m → length (get_or (pieces m p) j []) ≡ m
unfolding pieces
pieces_full m j p h = cut_full (length p / m) m j p (div-mul-le_self (length p) m) h

pub pieces_last : (m : ℕ) (p : List ℕ) → length (get_or (pieces m p) (length p / m) []) ≡ length p % m
unfolding pieces
pieces_last m p = cut_last (length p / m) m p ∙ sym (mod-eq-sub-div-mul (length p) m)

-- ---- the bound on the host's calls: any above the number of bytes gives the same

pub calls_enough : (m f : ℕ) (habit : Habit PlainPacketCodec) (n : ℕ) (st : PlainPacketCodec) (u b : List ℕ) → length u < f
    → calls_up_to (plain_end m).reader habit f n st u b ≡ calls (plain_end m).reader habit n st u b
unfolding calls
calls_enough m f habit n st u b h = bound (plain_end m).reader habit (steady m) f (suc (length u)) n st u b h (omega arith)

-- ---- what is seen stays seen: later pieces add events, whatever the reader

pub grows : {S : Type 0} (r : Reader S) (habit : Habit S) (n : ℕ) (st : S) (u b : List ℕ) (cs ds : List (List ℕ))
    → (es : List Event) × ((serve r habit n st u b (cs ++ ds)).events ≡ (serve r habit n st u b cs).events ++ es)
unfolding serve
grows r habit n st u b [] ds = ((serve r habit n st u b ds).events, refl)
grows r habit n st u b (c ∷ cs) ds =
    let h = calls r habit n st (u ++ c) b in
    let i = grows r habit h.packets h.state h.unread h.buffer cs ds in
    (i.0, rw i.1 (sym (append_assoc h.events (serve r habit h.packets h.state h.unread h.buffer cs).events i.0)))

-- ---- nothing lost

pub complete_all : (m k : ℕ) (ps : List (List ℕ)) → complete m ps (length (written m k ps)) ≡ ps
unfolding complete written
complete_all m k [] = refl
complete_all m k (p ∷ ps) =
    let W : List (List ℕ) = written m (after m k (length p)) ps in
    let w : length (chunks_of m k p ++ W) ≡ count m p + length W = omega (arith, length-append (chunks_of m k p) W, length-chunks_of m k p) in
    let d : count m p + length W - count m p ≡ length W = omega arith in
    rw (w, le-leb (count m p) (count m p + length W) (omega arith), d) (ap {B = List (List ℕ)} (λ qs. p ∷ qs) (complete_all m (after m k (length p)) ps))

-- every chunk once, in its place
up_to : ℕ → List ℕ
up_to zero = []
up_to (suc n) = up_to n ++ (n ∷ [])

length_up_to : (n : ℕ) → length (up_to n) ≡ n
unfolding up_to
length_up_to zero = refl
length_up_to (suc n) = length-append (up_to n) (n ∷ []) ∙ omega (arith, length_up_to n)

up_to_at : (n j : ℕ) → j < n → get_or (up_to n) j 0 ≡ j
unfolding up_to
up_to_at zero j h = absurd (omega arith)
up_to_at (suc n) j h =
    elim (dec_le n j) [
      | yes g ↦ let e : n ≡ j = omega arith in get_or_at (up_to n) n [] 0 j (length_up_to n ∙ e) ∙ e
      | no g ↦ get_or-append (up_to n) (n ∷ []) 0 j (omega (arith, length_up_to n)) ∙ up_to_at n j (omega arith)
    ]

-- a writer's code and a reader's, by their contracts alone: the reader's host is handed the packets that were written, and no refusal,
-- however their bytes are cut
pub all_handed : (g : Encoder) → Encodes g → (f : Decoder) → Decodes f → (w k l : ℕ) (b : List ℕ) (habit : Habit PlainPacketCodec) (ps : List (List ℕ))
    (out : List ℕ) (st : PlainPacketCodec) → Writes g (idle w k) ps out st
    → k < 256 → l ≤ length b → ((n : ℕ) (d : List ℕ) → l ≤ length d → l ≤ length (habit.lends n d)) → ((s : PlainPacketCodec) → habit.acts s ≡ s)
    → ((j : ℕ) → j < length ps → length (get_or ps j []) ≤ l)
    → (cs : List (List ℕ)) → flatten cs ≡ out → (serve (code_end f).reader habit 0 (idle l k) [] b cs).events ≡ map handed ps
all_handed g hg f hf w k l b habit ps out st s start room lent acts fit cs e =
    let W : List (List ℕ) = written largest k ps in
    let n : ℕ = length W in
    let ln : length (up_to n) ≡ n = length_up_to n in
    let place : (j : ℕ) → j < length (up_to n) → get_or (up_to n) j 0 ≡ j = λ j h. up_to_at n j (omega arith) in
    let G : Given PlainPacketCodec largest k l b habit ps (up_to n) =
    record { sent = record { start = start; fit = fit; real = λ j h. rw (place j h) (omega arith) }; room = room; lent = lent; acts = acts } in
    let bytes : arrived W (up_to n) ≡ flatten W =
    ap (arrived W) (sym (ap (λ (i : ℕ). take i (up_to n)) (sym ln) ∙ take-length (up_to n)))
    ∙ arrived_in_place W n (up_to n) (omega arith) (omega arith) (λ j h. up_to_at n j h)
    ∙ ap flatten (take-length W) in
    ((code_line f hf).in_place k l b habit ps (up_to n) G place cs (e ∙ (code_written g hg w k ps out st s).0 ∙ sym bytes)).0
    ∙ ap (λ (i : ℕ). map handed (complete largest ps i)) ln
    ∙ ap (map handed) (complete_all largest k ps)
