-- The writer's end: what any code that meets the contract of `chunk::packet_to_chunks` sends is what `written` says.
use Prim.Native.Nat.{ℕ, ◌+◌, ◌<◌}
use mathlib.Core.Path.{◌≡◌, refl, sym, ap, ◌∙◌}
use mathlib.Core.Bool.{Bool, true, false}
use mathlib.Core.List.{List, [], ◌∷◌, flatten}
use native.Mathlib.Omega.{arith}
use native.Mathlib.Decide.{dec_le}
use lib.ListN.{length, take, drop}
use lib.Seq.{take_at}
use Rattle.refusal.specs.Said.{Said, gives, refused}
use Rattle.chunk.specs.Chunks.{largest, chunks_of, chunks, needed, after}
use Rattle.chunk.specs.ChunksLaws.{length-chunks}
use Rattle.chunk.specs.Read.{idle}
use Rattle.chunk.specs.Write.{Sent, write}
use Rattle.chunk.specs.WriteLaws.{sent, write-closed, write_large, write_no_room, write-whole}
use Rattle.chunk.specs.declared.PlainPacketCodec.{PlainPacketCodec}
use Rattle.line.specs.Written.{written, writer}
use Rattle.line.specs.Code.{Encoder, Encodes, Writes, none, more}
use Rattle.line.proofs.InPlace.{flatten_append}

-- a writer that did not refuse has written all of the packet
module _ (m : ℕ) (st : PlainPacketCodec) (p d : List ℕ) (n : ℕ) where
  not_refused : {A : Type 0} {k : ℕ} → ◌≡◌ {A = Said ℕ} (refused k) (gives n) → A
  not_refused e = absurd (let z : ◌≡◌ {A = ℕ} 0 1 = cc in omega arith)

  gave_by : (c : Bool) → st.closed ≡ c → (write m st p d).said ≡ gives n → write m st p d ≡ sent m st p d
  gave_by true c e = not_refused (rw (write-closed m st p d c) at e)
  gave_by false c e =
      elim (dec_le (length p) st.limit) [
        | yes h ↦
            elim (dec_le (needed m (length p)) (length d)) [
              | yes g ↦ write-whole m st p d c h g
              | no g ↦ not_refused (rw (write_no_room m st p d c h (omega arith)) at e)
            ]
        | no h ↦ not_refused (rw (write_large m st p d c (omega arith)) at e)
      ]

  pub gave : (write m st p d).said ≡ gives n → write m st p d ≡ sent m st p d
  gave = gave_by st.closed refl

  -- so many bytes of its buffer's front are the packet's chunks
  pub front : 0 < m → (write m st p d).said ≡ gives n → take n (write m st p d).buf ≡ chunks m st.number p
  front pos e =
      let w = gave e in
      let k : n ≡ needed m (length p) = let f : gives (needed m (length p)) ≡ gives n = rw w at e in cc in
      rw (w, k) (take_at (chunks m st.number p) (drop (0 + length (chunks m st.number p)) d) (needed m (length p)) (length-chunks m st.number p pos))

pub sends : (g : Encoder) → Encodes g → (st st' : PlainPacketCodec) (ps : List (List ℕ)) (out : List ℕ) → Writes g st ps out st'
    → (out ≡ flatten (written largest st.number ps)) × (st'.number ≡ writer largest st.number ps)
unfolding written writer flatten
sends g h st st' [] out none = (refl, refl)
sends g h st st' (p ∷ ps) out (more {out = out'} d n e rest) =
    let s : (write largest st p d).said ≡ gives n = ap (λ (x : Sent). x.said) (sym (h st p d)) ∙ e in
    let b : take n (g.leaves st p d) ≡ chunks largest st.number p = ap (λ (x : Sent). take n x.buf) (h st p d) ∙ front largest st p d n
    (omega arith) s in
    let k : (g.answers st p d).next.number ≡ after largest st.number (length p) = ap (λ (x : Sent). x.next.number) (h st p d ∙ gave largest st p d n s) in
    let i = sends g h (g.answers st p d).next st' ps out' rest in (
      rw (b, i.0, k) (unfold chunks in sym (flatten_append (chunks_of largest st.number p) (written largest (after largest st.number (length p)) ps))),
      i.1 ∙ rw k,
    )

-- "Two idle ends": the writer has a limit w of its own
pub code_written : (g : Encoder) → Encodes g → (w k : ℕ) (ps : List (List ℕ)) (out : List ℕ) (st : PlainPacketCodec) → Writes g (idle w k) ps out st
    → (out ≡ flatten (written largest k ps)) × (st.number ≡ writer largest k ps)
code_written g h w k ps out st s = sends g h (idle w k) st ps out s
