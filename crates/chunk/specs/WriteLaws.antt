-- The cases of `write`.
use Rattle.std.specs.Prelude.{◌≡◌, ℕ, ◌<◌, ◌≤◌, true, false, List, length}
use borrow.Author.Tests.{lt-ltb, le-ltb}
use Rattle.refusal.specs.Said.{gives}
use Rattle.wire.specs.Room.{patch}
use Rattle.chunk.specs.Chunks.{chunks, needed, after}
use Rattle.chunk.specs.Read.{renumbered}
use Rattle.chunk.specs.Write.{Sent, write, unsent}
use Rattle.chunk.specs.declared.PlainPacketCodec.{PlainPacketCodec}

-- a packet that was written
abbrev pub sent : ℕ → PlainPacketCodec → (p d : List ℕ) → Sent
sent m st p d = record {
  said = gives (needed m (length p));
  next = renumbered st (after m st.number (length p));
  buf = patch d 0 (chunks m st.number p);
}

module _ (m : ℕ) (st : PlainPacketCodec) (p d : List ℕ) where
  pub write-closed : st.closed ≡ true → write m st p d ≡ unsent 7 st d
  unfolding write
  write-closed c = rw c

  module _ (c : st.closed ≡ false) where
    pub write_large : st.limit < length p → write m st p d ≡ unsent 2 st d
    unfolding write
    write_large h = rw (c, lt-ltb _ _ h)

    pub write_no_room : length p ≤ st.limit → length d < needed m (length p) → write m st p d ≡ unsent 6 st d
    unfolding write
    write_no_room h r = rw (c, le-ltb _ _ h, lt-ltb _ _ r)

    pub write-whole : length p ≤ st.limit → needed m (length p) ≤ length d → write m st p d ≡ sent m st p d
    unfolding write
    write-whole h r = rw (c, le-ltb _ _ h, le-ltb _ _ r)
