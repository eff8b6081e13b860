-- The writer's steps, over plain lists and numbers.
use Rattle.std.proofs.Common.{◌≡◌, ℕ, ◌+◌, ◌-◌, ◌<◌, ◌≤◌, List, ◌∷◌, length, take, drop, set, sym, refl, ap, ◌∙◌, arith, length-drop, length-take, take_all, drop-drop}
use native.Mathlib.Nat.{sub-zero}
use Rattle.wire.specs.Le.{le_bytes}
use Rattle.wire.specs.LeLaws.{le_length}
use Rattle.wire.specs.Room.{patch}
use Rattle.wire.specs.RoomLaws.{patch-append, patch_cons, length-patch}
use Rattle.chunk.specs.Chunks.{largest, next, chunk, chunks, needed, after}
use Rattle.chunk.specs.ChunksLaws.{chunks_last, chunks_more, needed_more, after_last, after_more, chunk_is, length-chunk, length-chunks}

-- a chunk: its length, its number, its payload
pub chunk_put : (d : List ℕ) (at k : ℕ) (p d₁ d₂ : List ℕ) → at + (length p + 4) ≤ length d
    → d₁ ≡ patch d at (le_bytes 3 (length p)) → d₂ ≡ patch (set d₁ (at + 3) k) (at + 4) p → d₂ ≡ patch d at (chunk k p)
chunk_put d at k p d₁ d₂ h e₁ e₂ =
    let hd : List ℕ = le_bytes 3 (length p) in
    let l : length hd ≡ 3 = le_length 3 (length p) in
    let l₁ : length d₁ ≡ length d = ap length e₁ ∙ length-patch d at hd (omega arith) in
    let n : at + 4 ≡ at + 3 + 1 = omega arith in
    e₂
    ∙ ap (λ (j : ℕ). patch (set d₁ (at + 3) k) j p) n
    ∙ patch_cons d₁ (at + 3) k p (omega arith)
    ∙ ap (λ (x : List ℕ). patch x (at + 3) (k ∷ p)) e₁
    ∙ ap (λ (j : ℕ). patch (patch d at hd) (at + j) (k ∷ p)) (sym l)
    ∙ patch-append d at hd (k ∷ p) (omega arith)
    ∙ ap (patch d at) (sym (chunk_is k p))

-- ---- the loop: `at` bytes of p are written, and the chunks of the rest, put where the loop stands, give the whole

pub record Head (d₀ : List ℕ) (from k₀ : ℕ) (p d : List ℕ) (at out k : ℕ) : Type 0 where
  pub within : at ≤ length p
  pub same : length d ≡ length d₀
  pub total : out + needed largest (length p - at) ≡ from + needed largest (length p)
  pub number : after largest k (length p - at) ≡ after largest k₀ (length p)
  pub rest : patch d out (chunks largest k (drop at p)) ≡ patch d₀ from (chunks largest k₀ p)

pub head_first : (d : List ℕ) (from k : ℕ) (p : List ℕ) → Head d from k p d 0 from k
head_first d from k p = record { within = omega arith; same = refl; total = rw sub-zero; number = rw sub-zero; rest = refl }

module _ (d₀ : List ℕ) (from k₀ : ℕ) (p d : List ℕ) (at out k : ℕ) (h : Head d₀ from k₀ p d at out k) where
  abbrev q : List ℕ
  q = take (at + largest - at) (drop at p)

  full : largest ≤ length p - at → q ≡ take largest (drop at p)
  full more = let e : at + largest - at ≡ largest = omega arith in rw e

  full_long : largest ≤ length p - at → length q ≡ largest
  full_long more = rw (full more, length-take, length-drop) (omega arith)

  pub head_more : (d' : List ℕ) → largest ≤ length p - at → from + needed largest (length p) ≤ length d₀ → length d' ≡ length d
      → d' ≡ patch d out (chunk k q) → Head d₀ from k₀ p d' (at + largest) (out + (largest + 4)) (next k)
  head_more d' more room l e =
      let n : length p - (at + largest) ≡ length p - at - largest = omega arith in
      let long : largest ≤ length (drop at p) = rw length-drop more in
      let c : length (chunk k q) ≡ largest + 4 = length-chunk k q ∙ ap (λ (j : ℕ). j + 4) (full_long more) in
      let rs : List ℕ = chunks largest (next k) (drop (at + largest) p) in
      let lr : length rs ≡ needed largest (length p - at - largest) =
      length-chunks largest (next k) (drop (at + largest) p) (omega arith) ∙ ap (needed largest) (length-drop (at + largest) p ∙ n) in
      let t = needed_more largest (length p - at) (omega arith) more in
      record {
        within = omega (arith, h.within);
        same = l ∙ h.same;
        total = rw n (omega (arith, h.total, t));
        number = rw n (sym (after_more largest k (length p - at) (omega arith) more) ∙ h.number);
        rest =
            ap (λ (x : List ℕ). patch x (out + (largest + 4)) rs) e
            ∙ ap (λ (j : ℕ). patch (patch d out (chunk k q)) (out + j) rs) (sym c)
            ∙ patch-append d out (chunk k q) rs (omega (arith, h.total, h.same, t))
            ∙ ap (patch d out)
            (rw (full more, ← drop-drop largest at p) (sym (chunks_more largest k (drop at p) (omega arith) long)))
            ∙ h.rest;
      }

  -- the last chunk
  abbrev z : List ℕ
  z = take (length p - at) (drop at p)

  z_is : z ≡ drop at p
  z_is = take_all (length p - at) (drop at p) (rw length-drop (omega arith))

  pub head_last : (d' : List ℕ) → length p - at < largest → d' ≡ patch d out (chunk k z)
      → (next k ≡ after largest k₀ (length p)) × (d' ≡ patch d₀ from (chunks largest k₀ p))
  head_last d' last e =
      let l : length (drop at p) < largest = rw length-drop last in (
        sym (after_last largest k (length p - at) last) ∙ h.number,
        e ∙ ap (λ (x : List ℕ). patch d out (chunk k x)) z_is ∙ ap (patch d out) (sym (chunks_last largest k (drop at p) l)) ∙ h.rest,
      )
