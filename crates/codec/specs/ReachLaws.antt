-- "Staging of 2·limit + 4 bytes never gives 6", for every codec that a host can have: opened, and then lent such a staging buffer and a
-- packet buffer of limit bytes at each reading.
use Rattle.std.specs.Prelude.{◌≡◌, refl, Bool, true, false, List, ℕ, ◌+◌, ◌≤◌, length, eqb, ltb, None}
use Rattle.std.proofs.Common.{◌∙◌, arith}
use Rattle.chunk.specs.Chunks.{needed, after}
use Rattle.chunk.specs.Read as P
use Rattle.chunk.specs.Read.{Opening, opens, refused, idle}
use Rattle.chunk.specs.ReadLaws.{by_test}
use Rattle.chunk.specs.Write as W
use Rattle.chunk.specs.declared.PlainPacketCodec.{PlainPacketCodec}
use Rattle.frame.specs.CalmLaws as F
use Rattle.frame.specs.CalmLaws.{Good, read_calm, first_good, renumbered_good}
use Rattle.frame.specs.Codec.{plain_of, with_plain, renumbered}
use Rattle.frame.specs.Frames.{frames_after}
use Rattle.frame.specs.Write as G
use Rattle.frame.specs.Write.{piece_of, total, write_framed}
use Rattle.frame.specs.WriteLaws.{sent}
use Rattle.frame.specs.declared.PacketCodec.{PacketCodec}
use Rattle.codec.specs.Connection.{unframed, opening_of, opening, frames_on, synced, read_plain, read_packet, write_plain, write_packet}
use Rattle.codec.specs.ConnectionLaws.{framed-reader, off_reader}

-- the codecs that a host can have, where l is the limit of its opening: what each entry makes of such a one is another
pub data Reachable (m l : ℕ) : PacketCodec → Type 0 where
  opened : {c : PacketCodec} → opening l ≡ opens c → Reachable m l c
  turned : {c : PacketCodec} → Reachable m l c → Reachable m l (frames_on c)
  reset : {c : PacketCodec} → Reachable m l c → Reachable m l (renumbered c 0)
  sync : {c : PacketCodec} → Reachable m l c → Reachable m l (synced c)
  read : {c : PacketCodec} (u s b : List ℕ) → Reachable m l c → l + l + 4 ≤ length s → l ≤ length b → Reachable m l (read_packet m c u s b).next
  wrote : {c : PacketCodec} (p d : List ℕ) → Reachable m l c → Reachable m l (write_packet m c p d).next

zero_one : ◌≡◌ {A = ℕ} 0 1 → ⊥
zero_one h = omega arith

-- a codec whose counts are within its limit l
abbrev Sound : ℕ → PacketCodec → Type 0
Sound l c = Good c × (c.limit ≡ l)

opened_sound : (l : ℕ) (c : PacketCodec) → opening l ≡ opens c → Sound l c
unfolding opening P.opening
opened_sound l c =
    let Q : Opening PlainPacketCodec → Type 0 = λ o. opening_of o ≡ opens c → Sound l c in
    let shut = P.refuses 1 (P.closed (idle l 0)) in
    by_test Q (eqb l 0) shut _ (λ _ e. absurd (zero_one (cc e)))
    (λ _. by_test Q (ltb 1073741824 l) shut (opens (idle l 0)) (λ _ e. absurd (zero_one (cc e)))
    (λ _ e. let z : unframed (idle l 0) ≡ c = cc e in rw (← z) (first_good l 0 0 false, refl)))

turned_sound : (l : ℕ) (c : PacketCodec) → Sound l c → Sound l (frames_on c)
unfolding frames_on
turned_sound l c g =
    by_test (Sound l) c.framed c _ (λ _. g)
    (λ _. (
      record {
        plain = record { taken = g.0.plain.taken; held = g.0.plain.held };
        frame = λ len num e. absurd (zero_one (cc e));
        few = omega arith;
      },
      g.1,
    ))

numbered_good : (c : PacketCodec) (k : ℕ) → Good c → Good (with_plain c (P.renumbered (plain_of c) k) c.unread)
numbered_good c k g = record { plain = record { taken = g.plain.taken; held = g.plain.held }; frame = g.frame; few = g.few }

synced_sound : (l : ℕ) (c : PacketCodec) → Sound l c → Sound l (synced c)
unfolding synced
synced_sound l c g =
    by_test (Sound l) c.framed _ c
    (λ _. by_test (Sound l) (eqb c.unread 0) _ c (λ _. (numbered_good c c.frame g.0, g.1)) (λ _. g))
    (λ _. g)

-- a call of the reader, in either mode
read_by : (m l : ℕ) (c : PacketCodec) (u s b : List ℕ) (k : Bool) → c.framed ≡ k → Sound l c → l + l + 4 ≤ length s → l ≤ length b
    → ((read_packet m c u s b).answer ≡ refused 6 → ⊥) × Sound l (read_packet m c u s b).next
unfolding read_plain
read_by m l c u s b true k g r h =
    let n = F.never_six m c u s b g.0 (omega (arith, g.1)) (rw g.1 h) in
    rw (framed-reader m c u s b k) (n.0, (n.1, n.2 ∙ g.1))
read_by m l c u s b false k g r h =
    let n = read_calm m None (plain_of c) u b g.0.plain (rw g.1 h) in
    rw (off_reader m c u s b k) (
      n.never,
      (record { plain = n.fits; frame = λ len num e. rw n.limit (g.0.frame len num e); few = rw n.limit g.0.few }, n.limit ∙ g.1),
    )

module _ (m l : ℕ) (c : PacketCodec) (p d : List ℕ) (g : Sound l c) where
  abbrev Stays : G.Sent → Type 0
  Stays w = Sound l w.next

  wrote_framed : Stays (write_framed m c p d)
  unfolding write_framed
  wrote_framed =
      by_test Stays c.closed (G.unsent 7 c d) _ (λ _. g)
      (λ _. by_test Stays (eqb c.limit 0) (G.unsent 7 c d) _ (λ _. g)
      (λ _. by_test Stays (ltb c.limit (length p)) (G.unsent 2 c d) _ (λ _. g)
      (λ _. by_test Stays (ltb (length d) (total m c.limit (length p))) (G.unsent 6 c d) (sent m c p d) (λ _. g)
      (λ _. (renumbered_good c (frames_after (piece_of m c.limit) c.frame (needed m (length p))) g.0, g.1)))))

  wrote_plain : Stays (write_plain m c p d)
  unfolding write_plain W.write
  wrote_plain =
      let T : W.Sent → Type 0 = λ w. Sound l (with_plain c w.next c.unread) in
      by_test T c.closed (W.unsent 7 (plain_of c) d) _ (λ _. g)
      (λ _. by_test T (ltb c.limit (length p)) (W.unsent 2 (plain_of c) d) _ (λ _. g)
      (λ _. by_test T (ltb (length d) (needed m (length p))) (W.unsent 6 (plain_of c) d) _ (λ _. g)
      (λ _. (numbered_good c (after m c.number (length p)) g.0, g.1))))

  wrote_sound : Stays (write_packet m c p d)
  unfolding write_packet
  wrote_sound = by_test Stays c.framed (write_framed m c p d) (write_plain m c p d) (λ _. wrote_framed) (λ _. wrote_plain)

reached : (m l : ℕ) (c : PacketCodec) → Reachable m l c → Sound l c
reached m l c (opened e) = opened_sound l c e
reached m l c (turned {c = o} r) = turned_sound l o (reached m l o r)
reached m l c (reset {c = o} r) = let g = reached m l o r in (renumbered_good o 0 g.0, g.1)
reached m l c (sync {c = o} r) = synced_sound l o (reached m l o r)
reached m l c (read {c = o} u s b r h i) = (read_by m l o u s b o.framed refl (reached m l o r) h i).1
reached m l c (wrote {c = o} p d r) = wrote_sound m l o p d (reached m l o r)

-- no such codec, lent such buffers, answers 6
pub never_six : (m l : ℕ) (c : PacketCodec) (u s b : List ℕ) → Reachable m l c → l + l + 4 ≤ length s → l ≤ length b
    → (read_packet m c u s b).answer ≡ refused 6 → ⊥
never_six m l c u s b r h i = (read_by m l c u s b c.framed refl (reached m l c r) h i).0
