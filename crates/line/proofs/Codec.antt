-- Demand 3 of the whole codec, frames off: its reader, seen through its plain state, is the plain one, and so is its writer.
use Rattle.std.specs.Prelude.{None}
use Prim.Native.Nat.{ℕ}
use mathlib.Core.Path.{◌≡◌, refl, sym, ap, ◌∙◌}
use mathlib.Core.Bool.{false}
use mathlib.Core.List.{List, [], ◌∷◌, flatten}
use native.Mathlib.Omega.{arith}
use lib.ListN.{length, take}
use Rattle.refusal.specs.Said.{gives}
use Rattle.chunk.specs.Chunks.{largest, chunks_of, chunks, after}
use Rattle.chunk.specs.Read.{idle, read}
use Rattle.chunk.specs.Write as W
use Rattle.chunk.specs.Write.{write}
use Rattle.chunk.specs.declared.PlainPacketCodec.{PlainPacketCodec}
use Rattle.frame.specs.Codec.{plain_of}
use Rattle.frame.specs.Read.{Done}
use Rattle.frame.specs.Write.{Sent}
use Rattle.frame.specs.declared.PacketCodec.{PacketCodec}
use Rattle.codec.specs.Connection.{unframed}
use Rattle.codec.specs.ConnectionLaws.{plain_done, plain_sent, plain_reader, plain_reader-rest, plain_writer, plain_writer-rest}
use Rattle.line.specs.Host.{Habit, serve}
use Rattle.line.specs.Line.{Given, Line}
use Rattle.line.specs.Written.{written, writer}
use Rattle.line.specs.Code.{called_of, plain_end, CodecDecoder, CodecDecodes, codec_end, CodecEncoder, CodecEncodes, CodecWrites, ends, goes}
use Rattle.line.proofs.InPlace.{flatten_append}
use Rattle.line.proofs.Main.{line}
use Rattle.line.proofs.Writer.{gave, front}
use Rattle.line.proofs.Seen.{seen_call, Seen, serve_seen}

-- ---- the reader

abbrev Off : PacketCodec → Type 0
Off c = c.framed ≡ false

module _ (f : CodecDecoder) (meets : CodecDecodes f) (staging : PacketCodec → (u b : List ℕ) → List ℕ) where
  -- a call with frames off is the plain reader's, and leaves them off
  same : (c : PacketCodec) (u b : List ℕ) → Off c → called_of (read largest None (plain_of c) u b) ≡ seen_call plain_of ((codec_end f staging).reader c u b)
  same c u b k =
      let s = staging c u b in
      sym (ap (λ (d : Done). called_of (plain_done d)) (meets c u s b).done ∙ ap called_of (plain_reader largest c u s b k))

  keeps : (c : PacketCodec) (u b : List ℕ) → Off c → Off ((codec_end f staging).reader c u b).next
  keeps c u b k =
      let s = staging c u b in
      ap (λ (d : Done). d.next.framed) (meets c u s b).done ∙ ap (λ (x : PacketCodec). x.framed) (plain_reader-rest largest c u s b k) ∙ k

  module _ (k l : ℕ) (b : List ℕ) (habit : Habit PacketCodec) (acts : (c : PacketCodec) → habit.acts c ≡ c) where
    abbrev plainly : Habit PlainPacketCodec
    plainly = record { acts = λ st. st; lends = habit.lends }

    seen : (cs : List (List ℕ))
        → Seen plain_of Off (codec_end f staging).reader (plain_end largest).reader same keeps habit acts
        (serve (codec_end f staging).reader habit 0 (unframed (idle l k)) [] b cs) (serve (plain_end largest).reader plainly 0 (idle l k) [] b cs)
    seen cs = serve_seen plain_of Off (codec_end f staging).reader (plain_end largest).reader same keeps habit acts 0 (unframed (idle l k)) [] b cs refl

given : {m k l : ℕ} {b : List ℕ} {habit : Habit PacketCodec} {ps : List (List ℕ)} {a : List ℕ} → Given PacketCodec m k l b habit ps a
    → Given PlainPacketCodec m k l b (record { acts = λ st. st; lends = habit.lends }) ps a
given G = record { sent = G.sent; room = G.room; lent = G.lent; acts = λ st. refl }

pub codec_line : (f : CodecDecoder) → CodecDecodes f → (staging : PacketCodec → (u b : List ℕ) → List ℕ) → Line largest PacketCodec (codec_end f staging)
codec_line f meets staging =
    let plain = line largest (omega arith) (omega arith) in
    record {
      misplaced = λ k l b habit ps a G i D t ht cs e.
          let z = (seen f meets staging k l b habit G.acts cs).is in
          let p = plain.misplaced k l b (plainly f meets staging k l b habit G.acts) ps a (given G) i D t ht cs e in
          (p.0, rw z at p.1);
      in_place = λ k l b habit ps a G h cs e.
          let z = (seen f meets staging k l b habit G.acts cs).is in
          let p = plain.in_place k l b (plainly f meets staging k l b habit G.acts) ps a (given G) h cs e in
          rw z at p;
    }

-- ---- the writer

sends : (g : CodecEncoder) → CodecEncodes g → (c c' : PacketCodec) (ps : List (List ℕ)) (out : List ℕ) → Off c → CodecWrites g c ps out c'
    → (out ≡ flatten (written largest c.number ps)) × (c'.number ≡ writer largest c.number ps)
unfolding written writer flatten
sends g h c c' [] out o ends = (refl, refl)
sends g h c c' (p ∷ ps) out o (goes {out = out'} d n e rest) =
    let st = plain_of c in
    let w = (h c p d).sent in
    let v = ap plain_sent w ∙ plain_writer largest c p d o in
    let s : (write largest st p d).said ≡ gives n = ap (λ (x : W.Sent). x.said) (sym v) ∙ e in
    let b : take n (g.leaves c p d) ≡ chunks largest c.number p = ap (λ (x : W.Sent). take n x.buf) v ∙ front largest st p d n (omega arith) s in
    let k : (g.answers c p d).next.number ≡ after largest c.number (length p) = ap (λ (x : W.Sent). x.next.number) (v ∙ gave largest st p d n s) in
    let o' : Off (g.answers c p d).next =
    ap (λ (x : Sent). x.next.framed) w ∙ ap (λ (x : PacketCodec). x.framed) (plain_writer-rest largest c p d o) ∙ o in
    let i = sends g h (g.answers c p d).next c' ps out' o' rest in (
      rw (b, i.0, k) (unfold chunks in sym (flatten_append (chunks_of largest c.number p) (written largest (after largest c.number (length p)) ps))),
      i.1 ∙ rw k,
    )

-- the writer has a limit w of its own
pub codec_written : (g : CodecEncoder) → CodecEncodes g → (w k : ℕ) (ps : List (List ℕ)) (out : List ℕ) (c : PacketCodec)
    → CodecWrites g (unframed (idle w k)) ps out c → (out ≡ flatten (written largest k ps)) × (c.number ≡ writer largest k ps)
codec_written g h w k ps out c s = sends g h (unframed (idle w k)) c ps out refl s
