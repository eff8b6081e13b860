-- Writing a packet, by 01's "Plain chunks", over a piece size m.
use Rattle.std.specs.Prelude.{ℕ, cond, List, length, nat_lt}
use Rattle.refusal.specs.Said.{Said, gives, refused, said_of}
use Rattle.wire.specs.Room.{patch}
use Rattle.chunk.specs.Chunks.{chunks, needed, after}
use Rattle.chunk.specs.Read.{renumbered}
use Rattle.chunk.specs.declared.PlainPacketCodec.{PlainPacketCodec}
use Rattle.chunk.specs.declared.Encoded.{Encoded}

-- a call: how many bytes it wrote from the buffer's front on, or its refusal; and what the state and the buffer are then
pub record Sent : Type 0 where
  pub said : Said ℕ
  pub next : PlainPacketCodec
  pub buf : List ℕ

-- "A refused writer changes no byte, number or cursor"
abbrev pub unsent : ℕ → PlainPacketCodec → List ℕ → Sent
unsent k st d = record { said = refused k; next = st; buf = d }

-- 7 "before all else"; "2 is tested before 6; what lies past the written part of any lent buffer stays"
unfoldable pub write : ℕ → PlainPacketCodec → (p d : List ℕ) → Sent
write m st p d =
    cond st.closed (unsent 7 st d)
    (cond (nat_lt st.limit (length p)) (unsent 2 st d)
    (cond (nat_lt (length d) (needed m (length p))) (unsent 6 st d)
    (record {
      said = gives (needed m (length p));
      next = renumbered st (after m st.number (length p));
      buf = patch d 0 (chunks m st.number p);
    })))

-- what the code's answer says, with the buffer at its exit
abbrev pub sent_of : Encoded PlainPacketCodec → List ℕ → Sent
sent_of r d = record { said = said_of r.put; next = r.next; buf = d }
