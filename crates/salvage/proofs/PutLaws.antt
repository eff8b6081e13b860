-- The four numbers of a stretch in a lent list, and those of a round.
use Rattle.std.proofs.Common.{◌≡◌, ℕ, ◌+◌, ◌≤◌, List, [], ◌∷◌, ◌++◌, length, ap, ◌∙◌, arith, length-append, eq-eqb, ne_eqb}
use lib.Seq.{paste-zero}
use Rattle.wire.specs.Room.{patch}
use Rattle.wire.specs.RoomLaws.{patch-append}
use Rattle.salvage.specs.SalvageLaws.{Round}
use Rattle.salvage.specs.Salvage.{numbers}
use Rattle.salvage.specs.SalvageLaws.{shown, four, shown-numbers}

module _ (kind offset bytes last : ℕ) where
  abbrev pub numbers4 : List ℕ
  numbers4 = kind ∷ offset ∷ bytes ∷ last ∷ []

  pub some_is : (bytes ≡ 0 → ⊥) → four kind offset bytes last ≡ numbers4
  unfolding four
  some_is h = rw (ne_eqb bytes 0 h)

  pub none_is : bytes ≡ 0 → four kind offset bytes last ≡ []
  unfolding four
  none_is h = rw (eq-eqb bytes 0 h)

-- nothing written
pub patch_none : (d : List ℕ) (i : ℕ) → d ≡ patch d i []
patch_none d i = paste-zero d i []

-- ---- both stretches of a round

module _ (at : ℕ) (q : Round) where
  abbrev good4 : List ℕ
  good4 = four 1 at q.bytes q.packets

  abbrev lost4 : List ℕ
  lost4 = four 0 (at + q.bytes) q.lost q.why

  both : numbers (shown at q) ≡ good4 ++ lost4
  both = shown-numbers at q

  pub numbers_length : length (numbers (shown at q)) ≡ length good4 + length lost4
  numbers_length = ap length both ∙ length-append good4 lost4

  module _ (d : List ℕ) (i : ℕ) (room : i + length (numbers (shown at q)) ≤ length d) where
    pub put_both : (j k : ℕ) (d₁ d₂ : List ℕ) → j ≡ i + length good4 → d₁ ≡ patch d i good4 → k ≡ j + length lost4 → d₂ ≡ patch d₁ j lost4
        → (k ≡ i + length (numbers (shown at q))) × (d₂ ≡ patch d i (numbers (shown at q)))
    put_both j k d₁ d₂ ej e₁ ek e₂ = (
      omega (arith, numbers_length),
      e₂ ∙ rw (e₁, ej, both) (patch-append d i good4 lost4 (omega (arith, numbers_length))),
    )
