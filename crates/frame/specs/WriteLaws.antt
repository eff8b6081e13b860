-- The cases of `write_framed`.
use Rattle.std.specs.Prelude.{◌≡◌, ℕ, ◌<◌, ◌≤◌, true, false, List, length, ◌≢◌, nat_lt}
use Rattle.std.proofs.Common.{arith}
use borrow.Author.Tests.{lt-ltb, le-ltb, ltb-false, eq-eqb, ne_eqb}
use Rattle.refusal.specs.Said.{gives}
use Rattle.wire.specs.Room.{patch}
use Rattle.chunk.specs.Chunks.{chunks, needed}
use Rattle.chunk.specs.ReadLaws.{by_test}
use Rattle.frame.specs.Frames.{frames, frames_after}
use Rattle.frame.specs.Codec.{renumbered}
use Rattle.frame.specs.Write.{piece_of, total, Sent, write_framed, unsent}
use Rattle.frame.specs.declared.PacketCodec.{PacketCodec}

pub piece_some : (m l : ℕ) → 0 < m → (l ≢ 0) → (0 < piece_of m l) × (piece_of m l ≤ m)
unfolding piece_of
piece_some m l h e = by_test (λ (n : ℕ). (0 < n) × (n ≤ m)) (nat_lt m l) m l (λ _. (h, omega arith)) (λ g. (omega arith, ltb-false _ _ g))

-- a packet that was written
abbrev pub sent : ℕ → PacketCodec → (p d : List ℕ) → Sent
sent m c p d = record {
  said = gives (total m c.limit (length p));
  next = renumbered c (frames_after (piece_of m c.limit) c.frame (needed m (length p)));
  buf = patch d 0 (frames (piece_of m c.limit) c.frame (chunks m c.number p));
}

module _ (m : ℕ) (c : PacketCodec) (p d : List ℕ) where
  pub write-closed : c.closed ≡ true → write_framed m c p d ≡ unsent 7 c d
  unfolding write_framed
  write-closed k = rw k

  module _ (k : c.closed ≡ false) where
    pub write_never : c.limit ≡ 0 → write_framed m c p d ≡ unsent 7 c d
    unfolding write_framed
    write_never z = rw (k, eq-eqb _ _ z)

    module _ (z : c.limit ≡ 0 → ⊥) where
      pub write_large : c.limit < length p → write_framed m c p d ≡ unsent 2 c d
      unfolding write_framed
      write_large h = rw (k, ne_eqb _ _ z, lt-ltb _ _ h)

      module _ (h : length p ≤ c.limit) where
        pub write_no_room : length d < total m c.limit (length p) → write_framed m c p d ≡ unsent 6 c d
        unfolding write_framed
        write_no_room r = rw (k, ne_eqb _ _ z, le-ltb _ _ h, lt-ltb _ _ r)

        pub write-whole : total m c.limit (length p) ≤ length d → write_framed m c p d ≡ sent m c p d
        unfolding write_framed
        write-whole r = rw (k, ne_eqb _ _ z, le-ltb _ _ h, le-ltb _ _ r)
