-- Any two results that a contract allows are equal, and so are the buffers at exit: no two answers say the same.
use Rattle.chunk.specs.declared.Shut.{Shut}
use Rattle.refusal.specs.Said.{said_same}
use Rattle.std.specs.Prelude.{Result, Ok, Err, Option}
use Rattle.std.proofs.Common.{◌≡◌, ℕ, List, length, sym, ap, ◌∙◌}
use Rattle.refusal.specs.Number.{number_same}
use Rattle.refusal.specs.declared.Refusal.{Refusal}
use Rattle.wire.specs.Room.{patch}
use Rattle.chunk.specs.Chunks.{largest, chunks, after}
use Rattle.chunk.specs.Read.{opening, opened_said, Done, done_of, read, renumbered}
use Rattle.chunk.specs.ReadLaws.{decoded_same, encoded_same, opened_same, answer_same}
use Rattle.chunk.specs.Write.{Sent, sent_of, write}
use Rattle.chunk.specs.declared.PlainPacketCodec.{PlainPacketCodec}
use Rattle.chunk.specs.declared.Decoded.{Decoded}
use Rattle.chunk.specs.declared.Encoded.{Encoded}

-- ---- the readers

done_same : (r r' : Decoded ℕ PlainPacketCodec) (b b' : List ℕ) → done_of r b ≡ done_of r' b' → (r ≡ r') × (b ≡ b')
done_same r r' b b' e = (
  decoded_same (answer_same r.answer r'.answer (ap (λ (d : Done). d.answer) e)) (ap (λ (d : Done). d.used) e) (ap (λ (d : Done). d.next) e),
  ap (λ (d : Done). d.buf) e,
)

-- decode_with; decode is its case None
pub decode_with_unique : (x : Option ℕ) (st : PlainPacketCodec) (u b : List ℕ) (r r' : Decoded ℕ PlainPacketCodec) (e e' : List ℕ)
    → done_of r e ≡ read largest x st u b → done_of r' e' ≡ read largest x st u b → (r ≡ r') × (e ≡ e')
decode_with_unique x st u b r r' e e' h h' = done_same r r' e e' (h ∙ sym h')

-- ---- packet_to_chunks, put_chunks

sent_same : (r r' : Encoded PlainPacketCodec) (d d' : List ℕ) → sent_of r d ≡ sent_of r' d' → (r ≡ r') × (d ≡ d')
sent_same r r' d d' e = (
  encoded_same (said_same r.put r'.put (ap (λ (s : Sent). s.said) e)) (ap (λ (s : Sent). s.next) e),
  ap (λ (s : Sent). s.buf) e,
)

pub packet_to_chunks_unique : (st : PlainPacketCodec) (p d : List ℕ) (r r' : Encoded PlainPacketCodec) (e e' : List ℕ)
    → sent_of r e ≡ write largest st p d → sent_of r' e' ≡ write largest st p d → (r ≡ r') × (e ≡ e')
packet_to_chunks_unique st p d r r' e e' h h' = sent_same r r' e e' (h ∙ sym h')

pub put_chunks_unique : (first from : ℕ) (p d : List ℕ) (r r' : ℕ) (e e' : List ℕ)
    → (r ≡ after largest first (length p)) × (e ≡ patch d from (chunks largest first p))
    → (r' ≡ after largest first (length p)) × (e' ≡ patch d from (chunks largest first p)) → (r ≡ r') × (e ≡ e')
put_chunks_unique first from p d r r' e e' h h' = (h.0 ∙ sym h'.0, h.1 ∙ sym h'.1)

-- ---- opening, reset_seq_id

pub opening_unique : (limit : ℕ) (o o' : Result PlainPacketCodec (Shut PlainPacketCodec)) → opened_said o ≡ opening limit → opened_said o' ≡ opening limit → o ≡ o'
opening_unique limit o o' h h' = opened_same o o' (h ∙ sym h')

pub reset_seq_id_unique : (st r r' : PlainPacketCodec) → r ≡ renumbered st 0 → r' ≡ renumbered st 0 → r ≡ r'
reset_seq_id_unique st r r' h h' = h ∙ sym h'
