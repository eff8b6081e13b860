-- The ends of a line as code: the plain reader, by its definition at any piece size and as any code that meets the contract of
-- `chunk::decode`; and any writer that meets the contract of `chunk::packet_to_chunks`. Then the same ends with the whole codec, frames
-- off: any code that meets the contract of `codec::decode` (and so of `codec::lent::decode_in`), and of `codec::encode`.
use Rattle.std.specs.Prelude.{ℕ, ◌≡◌, List, [], ◌∷◌, ◌++◌, take, None}
use Rattle.refusal.specs.Said.{gives, said_of}
use Rattle.chunk.specs.Chunks.{largest}
use Rattle.chunk.specs.Read.{Done, answer_said, done_of, idle, read}
use Rattle.chunk.specs.Write.{write, sent_of}
use Rattle.chunk.specs.declared.PlainPacketCodec.{PlainPacketCodec}
use Rattle.chunk.specs.declared.Decoded.{Decoded}
use Rattle.chunk.specs.declared.Encoded.{Encoded}
use Rattle.frame.specs.declared.PacketCodec.{PacketCodec}
use Rattle.codec.specs.Connection.{unframed, Reading, Writing}
use Rattle.line.specs.Host.{Called}
use Rattle.line.specs.Line.{End}

abbrev pub called_of : Done → Called PlainPacketCodec
called_of d = record { answer = d.answer; used = d.used; next = d.next; buf = d.buf }

abbrev pub plain_end : ℕ → End PlainPacketCodec
plain_end m = record { reader = λ st u b. called_of (read m None st u b); idle = idle; number = λ st. st.number }

-- what a function answers, and what it leaves in the buffer that it was lent
pub record Decoder : Type 0 where
  pub answers : PlainPacketCodec → (src dst : List ℕ) → Decoded ℕ PlainPacketCodec
  pub leaves : PlainPacketCodec → (src dst : List ℕ) → List ℕ

-- it meets the contract of `chunk::decode`
abbrev pub Decodes : Decoder → Type 0
Decodes f = (st : PlainPacketCodec) (src dst : List ℕ) → done_of (f.answers st src dst) (f.leaves st src dst) ≡ read largest None st src dst

abbrev pub code_end : Decoder → End PlainPacketCodec
code_end f = record { reader = λ st u b. called_of (done_of (f.answers st u b) (f.leaves st u b)); idle = idle; number = λ st. st.number }

-- the same of a writer
pub record Encoder : Type 0 where
  pub answers : PlainPacketCodec → (packet dst : List ℕ) → Encoded PlainPacketCodec
  pub leaves : PlainPacketCodec → (packet dst : List ℕ) → List ℕ

-- it meets the contract of `chunk::packet_to_chunks`
abbrev pub Encodes : Encoder → Type 0
Encodes g = (st : PlainPacketCodec) (p d : List ℕ) → sent_of (g.answers st p d) (g.leaves st p d) ≡ write largest st p d

-- from one state to another it writes packets, each into any buffer d, and refuses none: the bytes that go out are, for each, as many
-- of its buffer's front as it says
pub data Writes (g : Encoder) : PlainPacketCodec → List (List ℕ) → List ℕ → PlainPacketCodec → Type 0 where
  none : {st : PlainPacketCodec} → Writes g st [] [] st
  more : {st st' : PlainPacketCodec} {p out : List ℕ} {ps : List (List ℕ)} (d : List ℕ) (n : ℕ) → said_of (g.answers st p d).put ≡ gives n
      → Writes g (g.answers st p d).next ps out st' → Writes g st (p ∷ ps) (take n (g.leaves st p d) ++ out) st'

-- ---- the codec of a connection

-- what a function answers, and what it leaves in the staging and the packet buffer that it was lent
pub record CodecDecoder : Type 0 where
  pub answers : PacketCodec → (src staging dst : List ℕ) → Decoded ℕ PacketCodec
  pub stages : PacketCodec → (src staging dst : List ℕ) → List ℕ
  pub leaves : PacketCodec → (src staging dst : List ℕ) → List ℕ

-- it meets the contract of `codec::decode`
abbrev pub CodecDecodes : CodecDecoder → Type 0
CodecDecodes f = (c : PacketCodec) (src s dst : List ℕ)
    → Reading c src s dst (f.answers c src s dst).answer (f.answers c src s dst).used (f.answers c src s dst).next (f.stages c src s dst) (f.leaves c src s dst)

-- an opened codec, frames off. The host lends any staging at each call, as `staging` says
abbrev pub codec_end : CodecDecoder → (staging : PacketCodec → (u b : List ℕ) → List ℕ) → End PacketCodec
codec_end f staging = record {
  reader = λ c u b. record {
    answer = answer_said (f.answers c u (staging c u b) b).answer;
    used = (f.answers c u (staging c u b) b).used;
    next = (f.answers c u (staging c u b) b).next;
    buf = f.leaves c u (staging c u b) b;
  };
  idle = λ l k. unframed (idle l k);
  number = λ c. c.number;
}

-- the same of a writer
pub record CodecEncoder : Type 0 where
  pub answers : PacketCodec → (packet dst : List ℕ) → Encoded PacketCodec
  pub leaves : PacketCodec → (packet dst : List ℕ) → List ℕ

-- it meets the contract of `codec::encode`
abbrev pub CodecEncodes : CodecEncoder → Type 0
CodecEncodes g = (c : PacketCodec) (p d : List ℕ) → Writing c p d (g.answers c p d).put (g.answers c p d).next (g.leaves c p d)

pub data CodecWrites (g : CodecEncoder) : PacketCodec → List (List ℕ) → List ℕ → PacketCodec → Type 0 where
  ends : {c : PacketCodec} → CodecWrites g c [] [] c
  goes : {c c' : PacketCodec} {p out : List ℕ} {ps : List (List ℕ)} (d : List ℕ) (n : ℕ) → said_of (g.answers c p d).put ≡ gives n
      → CodecWrites g (g.answers c p d).next ps out c' → CodecWrites g c (p ∷ ps) (take n (g.leaves c p d) ++ out) c'
