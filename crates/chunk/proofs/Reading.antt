-- The reader's steps, over plain lists and numbers.
use Rattle.std.specs.Prelude.{Option}
use Rattle.std.proofs.Common.{◌≡◌, ℕ, ◌+◌, ◌-◌, ◌≤◌, true, false, List, length, take, drop, sym, refl, ap, ◌∙◌, add_assoc, zero-add, arith, length-drop, take_all, drop-drop}
use Rattle.wire.specs.Room.{patch}
use Rattle.chunk.specs.Chunks.{largest}
use Rattle.chunk.specs.declared.PlainPacketCodec.{PlainPacketCodec}
use Rattle.chunk.specs.Read.{Turned, later, turn_of, opened}
use Rattle.chunk.specs.ReadLaws.{Uses, turn_uses, opened-stop, opened_more}

-- the payload that is lent is the chunk's
pub took_put : (taken len : ℕ) (u b d' : List ℕ) → d' ≡ patch b taken (take (len + 4 - 4) (drop 4 u)) → d' ≡ patch b taken (take len (drop 4 u))
took_put taken len u b d' e = let n : len + 4 - 4 ≡ len = omega arith in e ∙ ap (λ (j : ℕ). patch b taken (take j (drop 4 u))) n

-- ---- the loop: `at` bytes are used, and what is left to read gives what the whole call gives

pub record Head (b₀ : List ℕ) (x : Option ℕ) (src : List ℕ) (st₀ : PlainPacketCodec) (b : List ℕ) (at : ℕ) (st : PlainPacketCodec) : Type 0 where
  pub within : at ≤ length src
  pub same : length b ≡ length b₀
  pub rest : later at (opened largest x st (drop at src) b) ≡ opened largest x st₀ src b₀

pub head_first : (b : List ℕ) (x : Option ℕ) (src : List ℕ) (st : PlainPacketCodec) → Head b x src st b 0 st
head_first b x src st = record { within = omega arith; same = refl; rest = simp zero-add }

-- a turn on the part from `at` on, and what the buffer is then
module _ (b₀ : List ℕ) (x : Option ℕ) (src : List ℕ) (st₀ : PlainPacketCodec) (b : List ℕ) (at : ℕ) (st : PlainPacketCodec) (h : Head b₀ x src st₀ b at st)
    (t : Turned) (e : t ≡ turn_of largest x st (take (length src - at) (drop at src)) b) where
  is : t ≡ turn_of largest x st (drop at src) b
  is = e ∙ ap (λ (u : List ℕ). turn_of largest x st u b) (take_all (length src - at) (drop at src) (rw length-drop (omega arith)))

  uses : Uses (drop at src) (turn_of largest x st (drop at src) b)
  uses = turn_uses largest x st (drop at src) b

  pub used_in : at + t.done.used ≤ length src
  used_in = rw is (omega (arith, uses.most, length-drop at src, h.within))

  pub used_some : t.more ≡ true → 4 ≤ t.done.used
  used_some k = rw is (uses.least (sym (ap (λ (y : Turned). y.more) is) ∙ k))

  pub head_more : t.more ≡ true → length t.done.buf ≡ length b → Head b₀ x src st₀ t.done.buf (at + t.done.used) t.done.next
  head_more k l = record {
    within = used_in;
    same = l ∙ h.same;
    rest =
        rw (is, ← drop-drop (turn_of largest x st (drop at src) b).done.used at src)
        (simp add_assoc (rw (opened_more largest x st (drop at src) b (sym (ap (λ (y : Turned). y.more) is) ∙ k)) at h.rest));
  }

  pub head_last : t.more ≡ false → later at t.done ≡ opened largest x st₀ src b₀
  head_last k = rw is (rw (opened-stop largest x st (drop at src) b (sym (ap (λ (y : Turned). y.more) is) ∙ k)) at h.rest)
