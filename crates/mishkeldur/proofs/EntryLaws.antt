-- A closed codec answers a read with 7, and nothing of it or of the buffers changes.
use Rattle.std.specs.Prelude.{None}
use Rattle.std.proofs.Common.{◌≡◌, ℕ, ◌≤◌, Bool, true, false, List, length, refl, ◌∙◌, le-ltb}
use Rattle.chunk.specs.Chunks.{largest}
use Rattle.chunk.specs.Read.{refused}
use Rattle.chunk.specs.ReadLaws.{read-closed}
use Rattle.frame.specs.Codec.{plain_of, unread_of}
use Rattle.frame.specs.ReadLaws.{framed-closed}
use Rattle.frame.specs.declared.PacketCodec.{PacketCodec}
use Rattle.codec.specs.Connection.{read_packet, read_plain}
use Rattle.codec.specs.ConnectionLaws.{framed-reader}
use Rattle.mishkeldur.specs.State.{codec_of, Reads}

module _ (c : PacketCodec) (u g b : List ℕ) where
  abbrev Shut : Type 0
  Shut = ((read_packet largest c u g b).answer ≡ refused 7) × ((read_packet largest c u g b).used ≡ 0)
      × ((read_packet largest c u g b).buf ≡ b) × (unread_of (read_packet largest c u g b).next g ≡ (read_packet largest c u g b).unread)

  shut-framed : c.framed ≡ true → c.closed ≡ true → Shut
  shut-framed f k = rw (framed-reader largest c u g b f ∙ framed-closed largest c u g b k) (refl, refl, refl, refl)

  shut_plain : c.framed ≡ false → c.closed ≡ true → Shut
  unfolding read_packet read_plain
  shut_plain f k = rw (f, read-closed largest None (plain_of c) u b k) (refl, refl, refl, refl)

  shut_by_lem : (t : Bool) → c.framed ≡ t → c.closed ≡ true → Shut
  shut_by_lem true f k = shut-framed f k
  shut_by_lem false f k = shut_plain f k

  shut : c.closed ≡ true → Shut
  shut k = shut_by_lem c.framed refl k

pub reads_closed : (s u g b : List ℕ) (len r : ℕ) → 128 ≤ length s → (codec_of s).closed ≡ true → r ≡ 7 → Reads s u g b len r s g b 0 len
reads_closed s u g b len r h z f =
    let w = shut (codec_of s) u g b z in
    record {
      status = rw (le-ltb (length s) 128 h, w.0) f;
      used = rw (le-ltb (length s) 128 h, w.1) refl;
      len = rw (le-ltb (length s) 128 h, w.0) refl;
      state = rw (le-ltb (length s) 128 h, z) refl;
      packet = rw (le-ltb (length s) 128 h, w.2) refl;
      unread = λ t. w.3;
      stays = λ t. refl;
    }
