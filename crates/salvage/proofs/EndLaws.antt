-- The outcomes of the two entries, each from what the code has tested.
use Rattle.std.specs.Prelude.{Result, Ok, Err}
use Rattle.std.proofs.Common.{◌≡◌, ℕ, ◌*◌, ◌/◌, ◌<◌, ◌≤◌, Bool, true, false, ltb, leb, List, length, sym, refl, ap, ◌∙◌, arith, le-leb}
use borrow.Author.Tests.{lt-leb}
use Rattle.refusal.specs.Number.{number}
use Rattle.refusal.specs.Said.{Said, gives, refused, check, gives_same, gives_not_refused, said_of}
use Rattle.refusal.specs.declared.Refusal.{Refusal}
use Rattle.refusal.specs.declared.Refusal.TheVariants.{NoRoom}
use Rattle.wire.specs.Room.{patch}
use Rattle.chunk.specs.Chunks.{largest}
use Rattle.salvage.specs.Salvage.{stretches, numbers, counted, salvaged, left_in, Salvages}

-- a limit that is taken for one answer is taken for any
limit_taken : (a b : Bool) (m n : ℕ) (y : Said ℕ) → check a 1 (check b 1 (gives m)) ≡ gives n → (m ≡ n) × (check a 1 (check b 1 y) ≡ y)
limit_taken true true m n y e = (gives_same e, refl)
limit_taken true false m n y e = absurd (gives_not_refused (sym e))
limit_taken false b m n y e = absurd (gives_not_refused (sym e))

limit_refused : (a b : Bool) (m k : ℕ) (y : Said ℕ) → check a 1 (check b 1 (gives m)) ≡ refused k → check a 1 (check b 1 y) ≡ refused k
limit_refused true true m k y e = absurd (gives_not_refused e)
limit_refused true false m k y e = e
limit_refused false b m k y e = e

module _ (limit : ℕ) (s d : List ℕ) (r : Result ℕ Refusal) (said : said_of r ≡ counted limit s) where
  abbrev room : Said ℕ
  room = check (leb (4 * length (stretches limit s)) (length d)) 6 (gives (length (stretches limit s)))

  -- what the entry says, once its limit is taken
  taken : (n : ℕ) → r ≡ Ok n → (length (stretches limit s) ≡ n) × (salvaged limit s d ≡ room)
  unfolding counted salvaged
  taken n e = limit_taken (ltb 0 limit) (ltb limit largest) (length (stretches limit s)) n room (sym said ∙ ap said_of e)

  as_said : (x : Said ℕ) (q : Result ℕ Refusal) (d' : List ℕ) → salvaged limit s d ≡ x → said_of q ≡ x → d' ≡ left_in x (numbers (stretches limit s)) d
      → Salvages limit s d q d'
  as_said x q d' e p l = record { said = p ∙ sym e; left = l ∙ sym (ap (λ (y : Said ℕ). left_in y (numbers (stretches limit s)) d) e) }

  pub salvage_refused : (k : Refusal) → r ≡ Err k → Salvages limit s d (Err k) d
  unfolding counted salvaged
  salvage_refused k e =
      as_said (refused (number k)) (Err k) d
      (limit_refused (ltb 0 limit) (ltb limit largest) (length (stretches limit s)) (number k) room (sym said ∙ ap said_of e)) refl refl

  module _ (n : ℕ) (e : r ≡ Ok n) where
    pub salvage_full : length d / 4 < n → Salvages limit s d (Err NoRoom) d
    salvage_full h =
        let t = taken n e in
        as_said (refused 6) (Err NoRoom) d (t.1 ∙ rw (lt-leb (4 * length (stretches limit s)) (length d) (omega (arith, t.0)))) refl refl

    pub salvage_room : n ≤ length d / 4 → 4 * length (stretches limit s) ≤ length d
    salvage_room h = omega (arith, (taken n e).0)

    pub salvage_written : n ≤ length d / 4 → (d' : List ℕ) → d' ≡ patch d 0 (numbers (stretches limit s)) → Salvages limit s d (Ok n) d'
    salvage_written h d' w =
        let t = taken n e in
        as_said (gives (length (stretches limit s))) (Ok n) d'
        (t.1 ∙ rw (le-leb (4 * length (stretches limit s)) (length d) (salvage_room h))) (ap gives (sym t.0)) w
