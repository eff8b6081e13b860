-- Any two results that a contract allows are equal, and so are the codecs and the buffers at exit: no two answers say the same. Of staging
-- the unread bytes are meant, and all of it where it stays; what else stands behind them is the listed exception. An entry of `lent` has
-- the contract of the one by value, its codec at exit for the one given back.
use Rattle.chunk.specs.ReadLaws.{answer_same, decoded_same, encoded_same, opened_same}
use Rattle.chunk.specs.declared.Encoded.{Encoded}
use Rattle.chunk.specs.declared.Decoded.{Decoded}
use Rattle.chunk.specs.declared.Shut.{Shut}
use Rattle.refusal.specs.Said.{said_of, said_same}
use Rattle.std.specs.Prelude.{Result, Option}
use mathlib.Core.Path.{◌≡◌, sym, ap, ◌∙◌}
use mathlib.Core.Bool.{true}
use mathlib.Core.List.{List}
use Prim.Native.Nat.{ℕ}
use Rattle.chunk.specs.Read.{opened_said}
use Rattle.refusal.specs.declared.Refusal.{Refusal}
use Rattle.frame.specs.Codec.{renumbered, unread_of}
use Rattle.frame.specs.Read.{Done}
use Rattle.frame.specs.Write.{Sent}
use Rattle.frame.specs.declared.PacketCodec.{PacketCodec}
use Rattle.codec.specs.Connection.{opening, frames_on, synced, done_of, staging_stays, Reading, Writing}

-- ---- opening

pub opening_unique : (limit : ℕ) (o o' : Result PacketCodec (Shut PacketCodec)) → opened_said o ≡ opening limit → opened_said o' ≡ opening limit → o ≡ o'
opening_unique limit o o' h h' = opened_same o o' (h ∙ sym h')

-- ---- frames_on, reset_seq_id, sync_seq_id, by value and lent

pub frames_on_unique : (c r r' : PacketCodec) → r ≡ frames_on c → r' ≡ frames_on c → r ≡ r'
frames_on_unique c r r' h h' = h ∙ sym h'

pub reset_seq_id_unique : (c r r' : PacketCodec) → r ≡ renumbered c 0 → r' ≡ renumbered c 0 → r ≡ r'
reset_seq_id_unique c r r' h h' = h ∙ sym h'

pub sync_seq_id_unique : (c r r' : PacketCodec) → r ≡ synced c → r' ≡ synced c → r ≡ r'
sync_seq_id_unique c r r' h h' = h ∙ sym h'

-- ---- decode_in, decode

module _ (c : PacketCodec) (u s b : List ℕ) where
  pub decode_in_unique : (a a' : Result (Option ℕ) Refusal) (n n' : ℕ) (c₁ c₂ : PacketCodec) (s₁ s₂ b₁ b₂ : List ℕ)
      → Reading c u s b a n c₁ s₁ b₁ → Reading c u s b a' n' c₂ s₂ b₂
      → (a ≡ a') × (n ≡ n') × (c₁ ≡ c₂) × (unread_of c₁ s₁ ≡ unread_of c₂ s₂) × (b₁ ≡ b₂) × (staging_stays c s ≡ true → s₁ ≡ s₂)
  decode_in_unique a a' n n' c₁ c₂ s₁ s₂ b₁ b₂ h h' =
      let e : done_of a n c₁ s₁ b₁ ≡ done_of a' n' c₂ s₂ b₂ = h.done ∙ sym h'.done in (
        answer_same a a' (ap (λ (d : Done). d.answer) e),
        ap (λ (d : Done). d.used) e,
        ap (λ (d : Done). d.next) e,
        ap (λ (d : Done). d.unread) e,
        ap (λ (d : Done). d.buf) e,
        λ k. h.stays k ∙ sym (h'.stays k),
      )

  pub decode_unique : (r r' : Decoded ℕ PacketCodec) (s₁ s₂ b₁ b₂ : List ℕ) → Reading c u s b r.answer r.used r.next s₁ b₁
      → Reading c u s b r'.answer r'.used r'.next s₂ b₂
      → (r ≡ r') × (unread_of r.next s₁ ≡ unread_of r'.next s₂) × (b₁ ≡ b₂) × (staging_stays c s ≡ true → s₁ ≡ s₂)
  decode_unique r r' s₁ s₂ b₁ b₂ h h' =
      let e = decode_in_unique r.answer r'.answer r.used r'.used r.next r'.next s₁ s₂ b₁ b₂ h h' in
      (decoded_same e.0 e.1 e.2, e.3, e.4, e.5)

-- ---- encode_in, encode

module _ (c : PacketCodec) (p d : List ℕ) where
  pub encode_in_unique : (r r' : Result ℕ Refusal) (c₁ c₂ : PacketCodec) (d₁ d₂ : List ℕ) → Writing c p d r c₁ d₁ → Writing c p d r' c₂ d₂
      → (r ≡ r') × (c₁ ≡ c₂) × (d₁ ≡ d₂)
  encode_in_unique r r' c₁ c₂ d₁ d₂ h h' =
      let e : ◌≡◌ {A = Sent} (record { said = said_of r; next = c₁; buf = d₁ }) (record { said = said_of r'; next = c₂; buf = d₂ }) =
      h.sent ∙ sym h'.sent in
      (said_same r r' (ap (λ (w : Sent). w.said) e), ap (λ (w : Sent). w.next) e, ap (λ (w : Sent). w.buf) e)

  pub encode_unique : (r r' : Encoded PacketCodec) (d₁ d₂ : List ℕ) → Writing c p d r.put r.next d₁ → Writing c p d r'.put r'.next d₂ → (r ≡ r') × (d₁ ≡ d₂)
  encode_unique r r' d₁ d₂ h h' =
      let e = encode_in_unique r.put r'.put r.next r'.next d₁ d₂ h h' in
      (encoded_same e.0 e.1, e.2)
