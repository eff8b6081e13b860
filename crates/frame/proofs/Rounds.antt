-- The reader's steps, over plain lists and numbers.
use Rattle.std.specs.Prelude.{Some}
use Rattle.std.proofs.Common.{◌≡◌, ℕ, ◌+◌, ◌-◌, ◌≤◌, true, false, List, [], length, take, drop, sym, refl, ap, ◌∙◌, add_assoc}
use Rattle.std.proofs.Common.{zero-add, arith, length-drop, length-take, length-take-le, take_all, drop-drop, take_at}
use Rattle.wire.specs.Room.{patch}
use Rattle.chunk.specs.Chunks.{largest}
use Rattle.chunk.specs.Read as P
use Rattle.chunk.specs.ReadLaws.{read_uses}
use Rattle.chunk.specs.declared.Decoded.{Decoded}
use Rattle.chunk.specs.declared.PlainPacketCodec.{PlainPacketCodec}
use Rattle.frame.specs.Codec.{plain_of, with_plain, unread_of, last_number}
use Rattle.frame.specs.Read.{Done, Lap, done_of, frame_at, drained, lap_at, later, running}
use Rattle.frame.specs.ReadLaws.{Uses, lap_empty, lap_uses, uses_more, running-stop, running_more}
use Rattle.frame.specs.declared.PacketCodec.{PacketCodec}
use Rattle.frame.proofs.Moves.{drop-take}

-- ---- the plain reader on the unread bytes

module _ (c : PacketCodec) (s b b' : List ℕ) (last : ℕ) (st : PlainPacketCodec) (r : Decoded ℕ PlainPacketCodec) (h : c.unread ≤ length s)
    (p : st ≡ plain_of c) (o : P.done_of r b' ≡ P.read largest (Some last) st (take c.unread s) b) where
  e : P.done_of r b' ≡ P.read largest (Some last) (plain_of c) (take c.unread s) b
  e = rw p at o

  pub drain_fits : r.used ≤ c.unread
  drain_fits =
      let u : r.used ≡ (P.read largest (Some last) (plain_of c) (take c.unread s) b).used = ap (λ (d : P.Done). d.used) e in
      omega (arith, u, read_uses largest (Some last) (plain_of c) (take c.unread s) b, length-take-le c.unread s h)

  front : (s' : List ℕ) → s' ≡ patch s 0 (take (c.unread - r.used) (drop r.used s)) → take (c.unread - r.used) s' ≡ drop r.used (take c.unread s)
  front s' l =
      let q : List ℕ = take (c.unread - r.used) (drop r.used s) in
      let lq : length q ≡ c.unread - r.used = rw (length-take, length-drop) (omega (arith, drain_fits)) in
      ap (take (c.unread - r.used)) l ∙ take_at q (drop (0 + length q) s) (c.unread - r.used) lq ∙ sym (drop-take r.used c.unread s)

  abbrev made : P.Done → Done
  made d = record {
    answer = d.answer;
    used = 0;
    next = with_plain c d.next (c.unread - d.used);
    unread = drop d.used
        (take c.unread s);
    buf = d.buf;
  }

  pub drain_is : (next : PacketCodec) (s' : List ℕ) → last ≡ last_number c.frame → next ≡ with_plain c r.next (c.unread - r.used)
      → s' ≡ patch s 0 (take (c.unread - r.used) (drop r.used s))
      → done_of (record { answer = r.answer; used = 0; next = next }) s' b' ≡ drained largest c (unread_of c s) b
  unfolding drained unread_of
  drain_is next s' k n l =
      ap (λ (x : PacketCodec). done_of (record { answer = r.answer; used = 0; next = x }) s' b') n
      ∙ ap (λ (w : List ℕ). record {
        answer = P.answer_said r.answer;
        used = 0;
        next = with_plain c r.next
            (c.unread - r.used);
        unread = w;
        buf = b';
      }) (front s' l)
      ∙ ap made (e ∙ ap (λ (j : ℕ). P.read largest (Some j) (plain_of c) (take c.unread s) b) k)

-- ---- a round with nothing unread

pub round_empty : (c : PacketCodec) (u s b : List ℕ) (x : Done) → c.unread ≡ 0 → c.closed ≡ false
    → x ≡ (frame_at c u (unread_of c s) (length s) b).done → x ≡ (lap_at largest c u (unread_of c s) (length s) b).done
unfolding unread_of
round_empty c u s b x z k f =
    let w : take c.unread s ≡ [] = ap (λ (j : ℕ). take j s) z in
    f
    ∙ ap (λ (y : List ℕ). (frame_at c u y (length s) b).done) w
    ∙ ap (λ (t : Lap). t.done) (sym (lap_empty largest c u (length s) b k))
    ∙ ap (λ (y : List ℕ). (lap_at largest c u y (length s) b).done) (sym w)

-- ---- the loop: `at` bytes are used, and what is left to read gives what the whole call gives

pub record Head (s₀ b₀ : List ℕ) (c₀ : PacketCodec) (src s b : List ℕ) (at : ℕ) (c : PacketCodec) : Type 0 where
  pub within : at ≤ length src
  pub long : length s ≡ length s₀
  pub same : length b ≡ length b₀
  pub fits : c.unread ≤ length s₀
  pub rest : later at (running largest c (drop at src) (unread_of c s) (length s₀) b) ≡ running largest c₀ src (unread_of c₀ s₀) (length s₀) b₀

pub head_first : (s b : List ℕ) (c : PacketCodec) (src : List ℕ) → c.unread ≤ length s → Head s b c src s b 0 c
head_first s b c src h = record { within = omega arith; long = refl; same = refl; fits = h; rest = simp zero-add }

module _ (s₀ b₀ : List ℕ) (c₀ : PacketCodec) (src s b : List ℕ) (at : ℕ) (c : PacketCodec) (h : Head s₀ b₀ c₀ src s b at c)
    (r : Decoded ℕ PacketCodec) (s' b' : List ℕ)
    (e : done_of r s' b' ≡ (lap_at largest c (take (length src - at) (drop at src)) (unread_of c s) (length s) b).done) where
  abbrev t : Lap
  t = lap_at largest c (drop at src) (unread_of c s) (length s₀) b

  is : done_of r s' b' ≡ t.done
  is =
      e
      ∙ ap (λ (u : List ℕ). (lap_at largest c u (unread_of c s) (length s) b).done) (take_all (length src - at) (drop at src) (rw length-drop (omega arith)))
      ∙ ap (λ (n : ℕ). (lap_at largest c (drop at src) (unread_of c s) n b).done) h.long

  uses : Uses (drop at src) (length s₀) t
  uses = lap_uses largest c (drop at src) (unread_of c s) (length s₀) b h.fits

  used_is : r.used ≡ t.done.used
  used_is = ap (λ (d : Done). d.used) is

  pub used_in : at + r.used ≤ length src
  used_in = omega (arith, used_is, uses.most, length-drop at src, h.within)

  goes : (r.used ≡ 0 → ⊥) → t.more ≡ true
  goes z = (uses_more t (drop at src) (length s₀) uses).1 (λ y. z (used_is ∙ y))

  pub head_more : (r.used ≡ 0 → ⊥) → length s' ≡ length s → length b' ≡ length b → Head s₀ b₀ c₀ src s' b' (at + r.used) r.next
  head_more z l l' = record {
    within = used_in;
    long = l ∙ h.long;
    same = l' ∙ h.same;
    fits = rw (ap (λ (d : Done). d.next) is) uses.within;
    rest =
        ap (λ (d : Done). later (at + d.used) (running largest d.next (drop (at + d.used) src) d.unread (length s₀) d.buf)) is
        ∙ rw (← drop-drop t.done.used at src)
        (simp add_assoc (rw (running_more largest c (drop at src) (unread_of c s) (length s₀) b h.fits (goes z)) at h.rest));
  }

  pub head_last : r.used ≡ 0 → done_of (record { answer = r.answer; used = at; next = r.next }) s' b' ≡ running largest c₀ src (unread_of c₀ s₀) (length s₀) b₀
  head_last z =
      let k : t.more ≡ false = (uses_more t (drop at src) (length s₀) uses).0 (sym used_is ∙ z) in
      let a : at ≡ at + r.used = omega arith in
      ap (λ (j : ℕ). done_of (record { answer = r.answer; used = j; next = r.next }) s' b') a
      ∙ ap (later at) is
      ∙ rw (running-stop largest c (drop at src) (unread_of c s) (length s₀) b k) at h.rest
