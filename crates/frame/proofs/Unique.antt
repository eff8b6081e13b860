-- Any two results that a contract allows are equal, and so are the buffers at exit: no two answers say the same. Of staging the unread
-- bytes are meant; what stands behind them is the listed exception.
use Rattle.chunk.specs.declared.Encoded.{Encoded}
use Rattle.chunk.specs.declared.Decoded.{Decoded}
use Rattle.refusal.specs.Said.{said_same}
use Rattle.std.proofs.Common.{◌≡◌, ℕ, List, sym, ap, ◌∙◌}
use Rattle.chunk.specs.Chunks.{largest}
use Rattle.chunk.specs.ReadLaws.{decoded_same, encoded_same, answer_same}
use Rattle.frame.specs.Codec.{unread_of}
use Rattle.frame.specs.Read.{Done, done_of, read_framed}
use Rattle.frame.specs.Write.{Sent, sent_of, write_framed}
use Rattle.frame.specs.declared.PacketCodec.{PacketCodec}

-- ---- decode_framed

pub decode_framed_unique : (c : PacketCodec) (u s b : List ℕ) (r r' : Decoded ℕ PacketCodec) (s₁ s₂ b₁ b₂ : List ℕ)
    → done_of r s₁ b₁ ≡ read_framed largest c u s b → done_of r' s₂ b₂ ≡ read_framed largest c u s b
    → (r ≡ r') × (unread_of r.next s₁ ≡ unread_of r'.next s₂) × (b₁ ≡ b₂)
decode_framed_unique c u s b r r' s₁ s₂ b₁ b₂ h h' =
    let e : done_of r s₁ b₁ ≡ done_of r' s₂ b₂ = h ∙ sym h' in (
      decoded_same (answer_same r.answer r'.answer (ap (λ (d : Done). d.answer) e)) (ap (λ (d : Done). d.used) e) (ap (λ (d : Done). d.next) e),
      ap (λ (d : Done). d.unread) e,
      ap (λ (d : Done). d.buf) e,
    )

-- ---- encode_framed

pub encode_framed_unique : (c : PacketCodec) (p d : List ℕ) (r r' : Encoded PacketCodec) (d₁ d₂ : List ℕ)
    → sent_of r d₁ ≡ write_framed largest c p d → sent_of r' d₂ ≡ write_framed largest c p d → (r ≡ r') × (d₁ ≡ d₂)
encode_framed_unique c p d r r' d₁ d₂ h h' =
    let e : sent_of r d₁ ≡ sent_of r' d₂ = h ∙ sym h' in (
      encoded_same (said_same r.put r'.put (ap (λ (s : Sent). s.said) e)) (ap (λ (s : Sent). s.next) e),
      ap (λ (s : Sent). s.buf) e,
    )
