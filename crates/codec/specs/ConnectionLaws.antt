-- Laws of the codec of a connection: which reader and writer it is in each mode, and reading in parts in either.
use Rattle.std.specs.Prelude.{◌≡◌, refl, Bool, List, ◌++◌, ℕ, length, drop, None}
use Rattle.std.proofs.Common.{◌∙◌}
use Rattle.std.proofs.Math.Bool.{true, false}
use Rattle.chunk.specs.Read as P
use Rattle.chunk.specs.Read.{need_more}
use Rattle.chunk.specs.ResumeLaws as C
use Rattle.chunk.specs.Write as W
use Rattle.frame.specs.Codec.{plain_of, with_plain, unread_of}
use Rattle.frame.specs.Read.{Done, read_framed, later}
use Rattle.frame.specs.ReadLaws.{framed_mode}
use Rattle.frame.specs.ResumeLaws.{framed_resume, framed_stays}
use Rattle.frame.specs.Write.{Sent, write_framed}
use Rattle.frame.specs.declared.PacketCodec.{PacketCodec}
use Rattle.codec.specs.Connection.{read_plain, read_packet, write_plain, write_packet}

-- a call as the plain reader's and the plain writer's
abbrev pub plain_done : Done → P.Done
plain_done d = record { answer = d.answer; used = d.used; next = plain_of d.next; buf = d.buf }

abbrev pub plain_sent : Sent → W.Sent
plain_sent w = record { said = w.said; next = plain_of w.next; buf = w.buf }

module _ (m : ℕ) (c : PacketCodec) where
  -- with frames on, a call is the framed one
  pub framed-reader : (u s b : List ℕ) → c.framed ≡ true → read_packet m c u s b ≡ read_framed m c u s b
  unfolding read_packet
  framed-reader u s b e = rw e

  pub framed-writer : (p d : List ℕ) → c.framed ≡ true → write_packet m c p d ≡ write_framed m c p d
  unfolding write_packet
  framed-writer p d e = rw e

  -- with frames off, it is the plain one on the plain state, and the rest of the codec stays as it was
  pub off_reader : (u s b : List ℕ) → c.framed ≡ false → read_packet m c u s b ≡ read_plain m c u s b
  unfolding read_packet
  off_reader u s b e = rw e

  pub off_writer : (p d : List ℕ) → c.framed ≡ false → write_packet m c p d ≡ write_plain m c p d
  unfolding write_packet
  off_writer p d e = rw e

  pub plain_reader : (u s b : List ℕ) → c.framed ≡ false → plain_done (read_packet m c u s b) ≡ P.read m None (plain_of c) u b
  unfolding read_plain
  plain_reader u s b e = rw (off_reader u s b e)

  pub plain_writer : (p d : List ℕ) → c.framed ≡ false → plain_sent (write_packet m c p d) ≡ W.write m (plain_of c) p d
  unfolding write_plain
  plain_writer p d e = rw (off_writer p d e)

  pub plain_reader-rest : (u s b : List ℕ) → c.framed ≡ false
      → (read_packet m c u s b).next ≡ with_plain c (P.read m None (plain_of c) u b).next c.unread
  unfolding read_plain
  plain_reader-rest u s b e = rw (off_reader u s b e)

  pub plain_writer-rest : (p d : List ℕ) → c.framed ≡ false
      → (write_packet m c p d).next ≡ with_plain c (W.write m (plain_of c) p d).next c.unread
  unfolding write_plain
  plain_writer-rest p d e = rw (off_writer p d e)

-- ---- reading in parts. Between two calls the host lends any staging as long as before that has the unread bytes at its front

module _ (m : ℕ) (c : PacketCodec) (u v s s' b : List ℕ) where
  abbrev first : Done
  first = read_packet m c u s b

  abbrev onward : Done
  onward = later first.used (read_packet m first.next (drop first.used u ++ v) s' first.buf)

  resume_by : (k : Bool) → c.framed ≡ k → first.answer ≡ need_more → unread_of first.next s' ≡ first.unread → length s' ≡ length s
      → read_packet m c (u ++ v) s b ≡ onward
  unfolding read_plain unread_of
  resume_by true k a w l =
      let o = framed-reader m c u s b k in
      let f = read_framed m c u s b in
      let n = framed-reader m f.next (drop f.used u ++ v) s' f.buf (framed_mode m c u s b ∙ k) in
      rw (framed-reader m c (u ++ v) s b k, o, n) (framed_resume m c u v s s' b (rw o at a) (rw o at w) l)
  resume_by false k a w l =
      let o = off_reader m c u s b k in
      let f = read_plain m c u s b in
      let n = off_reader m f.next (drop f.used u ++ v) s' f.buf k in
      let w' : unread_of f.next s' ≡ unread_of c s = rw o at w in
      rw (off_reader m c (u ++ v) s b k, o, n) (rw (C.resume m None (plain_of c) u v b (rw o at a), w'))

  -- a call that asks for more, then a call on what it left and what came after: one call on all of it
  pub resume : first.answer ≡ need_more → unread_of first.next s' ≡ first.unread → length s' ≡ length s
      → read_packet m c (u ++ v) s b ≡ onward
  resume = resume_by c.framed refl

  stays_by : (k : Bool) → c.framed ≡ k → (first.answer ≡ need_more → ⊥) → read_packet m c (u ++ v) s b ≡ first
  unfolding read_plain
  stays_by true k a =
      let o = framed-reader m c u s b k in
      rw (framed-reader m c (u ++ v) s b k, o) (framed_stays m c u v s s' b (λ y. a (rw o y)))
  stays_by false k a =
      let o = off_reader m c u s b k in
      rw (off_reader m c (u ++ v) s b k, o) (rw (C.stays m None (plain_of c) u v b (λ y. a (rw o y))))

  -- a call that answers a packet or a refusal answers the same when more bytes follow
  pub stays : (first.answer ≡ need_more → ⊥) → read_packet m c (u ++ v) s b ≡ first
  stays = stays_by c.framed refl
