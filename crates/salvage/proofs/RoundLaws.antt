-- A round at a place of a capture, and the rounds seen from the middle of a loop.
use Rattle.std.proofs.Common.{◌≡◌, ℕ, ◌+◌, ◌*◌, ◌<◌, ◌≤◌, List, [], ◌++◌, length, drop, sym, refl, ap, ◌∙◌, arith, length-append, length-drop, drop-drop, ne_eqb}
use lib.Seq.{paste-zero}
use Rattle.wire.specs.Room.{patch}
use Rattle.wire.specs.RoomLaws.{patch-append}
use Rattle.refusal.specs.Number.{number}
use Rattle.refusal.specs.declared.Refusal.{Refusal}
use Rattle.refusal.specs.declared.Refusal.TheVariants.{BadLimit, TooLarge, OutOfSync, BadFrameHeader, Packed, NoRoom, Closed, Short, BadLead}
use Rattle.refusal.specs.declared.Refusal.TheVariants.{BadType, OutOfRange, BadRow, BadColumns, BadPacket, BadLiteral, RowTooLong, TooManyRows}
use Rattle.std.specs.Prelude.{Some, None, suc}
use Rattle.salvage.specs.declared.Run as code
use Rattle.salvage.specs.declared.Round as code_round
use Rattle.salvage.specs.SalvageLaws.{Round, round_said, start-most}
use Rattle.salvage.specs.Salvage.{Stretch, runs, run_said, run_on, given, to_start, stretches, numbers}
use Rattle.salvage.specs.SalvageLaws.{Ran, ran, lost_by, round_of, shown, report, report_none, report_round, round_most, round_least, some}
use Rattle.salvage.specs.SalvageLaws.{shown-length, numbers-append, numbers-length}

-- a refusal's number is none of the capture's end
positive : (r : Refusal) → 0 < number r
positive BadLimit = omega arith
positive TooLarge = omega arith
positive OutOfSync = omega arith
positive BadFrameHeader = omega arith
positive Packed = omega arith
positive NoRoom = omega arith
positive Closed = omega arith
positive Short = omega arith
positive BadLead = omega arith
positive BadType = omega arith
positive OutOfRange = omega arith
positive BadRow = omega arith
positive BadColumns = omega arith
positive BadPacket = omega arith
positive BadLiteral = omega arith
positive RowTooLong = omega arith
positive TooManyRows = omega arith

-- a run to the end of what is left, and the round that it begins
module _ (limit : ℕ) (s : List ℕ) (r : code.Run) (is : run_said r ≡ runs (length s) limit (given s) s) where
  all : run_said r ≡ run_on limit (given s) s
  unfolding run_on
  all = is

  done : Ran s (run_said r)
  done = rw all (ran limit (given s) s)

  pub round_ends : r.why ≡ None → round_said (record { run = r; lost = 0 }) ≡ round_of limit s
  unfolding round_of lost_by
  round_ends e =
      let d : length (drop r.bytes s) ≡ 0 = rw length-drop (omega (arith, done.ended (rw e))) in
      rw (← all, e, d)

  module _ (w : Refusal) (e : r.why ≡ Some w) where
    pub bad_within : r.bytes < length s
    bad_within = done.short (rw e (positive w))

    pub lost_less : to_start limit (drop (r.bytes + 1) s) + r.bytes < length s
    lost_less = omega (arith, bad_within, start-most limit (drop (r.bytes + 1) s), length-drop (r.bytes + 1) s)

    pub round_goes : (n : ℕ) → n ≡ to_start limit (drop (r.bytes + 1) s) → round_said (record { run = r; lost = 1 + n }) ≡ round_of limit s
    unfolding round_of lost_by
    round_goes n q =
        let l : 1 + n ≡ suc (to_start limit (drop 1 (drop r.bytes s))) = rw drop-drop (omega (arith, q)) in
        rw (← all, e, ne_eqb (number w) 0 (λ y. omega (arith, positive w)), l)

-- ---- the stretches from a place on

module _ (limit : ℕ) (s : List ℕ) where
  abbrev pub rest : ℕ → List Stretch
  rest at = report limit at (drop at s)

  pub rest_all : rest 0 ≡ stretches limit s
  unfolding report stretches
  rest_all = refl

  pub rest_none : (at : ℕ) → length s ≤ at → rest at ≡ []
  rest_none at h = report_none limit at (drop at s) (rw length-drop (omega arith))

  module _ (at : ℕ) (r : code_round.Round) (is : round_said r ≡ round_of limit (drop at s)) where
    rounds : rest at ≡ shown at (round_said r) ++ rest (at + (r.run.bytes + r.lost))
    rounds = report_round limit at (drop at s) ∙ rw (drop-drop, ← is)

    -- a round ends within the capture, and behind its start
    pub round_within : at ≤ length s → at + (r.run.bytes + r.lost) ≤ length s
    round_within h = let e = ap (λ (q : Round). q.bytes + q.lost) is in omega (arith, e, round_most limit (drop at s), length-drop at s)

    pub round_onward : at < length s → 0 < r.run.bytes + r.lost
    round_onward h = let e = ap (λ (q : Round). q.bytes + q.lost) is in omega (arith, e, round_least limit (drop at s) (rw length-drop (omega arith)))

    -- how many it has, with those behind it
    pub rounds-length : length (rest at) ≡ some r.run.bytes + some r.lost + length (rest (at + (r.run.bytes + r.lost)))
    rounds-length =
        omega (arith, ap length rounds, length-append (shown at (round_said r)) (rest (at + (r.run.bytes + r.lost))), shown-length at (round_said r))

  -- ---- writing them

  module _ (d₀ : List ℕ) where
    pub record Writing (d : List ℕ) (i at : ℕ) : Type 0 where
      pub within : at ≤ length s
      pub kept : length d ≡ length d₀
      pub room : i + length (numbers (rest at)) ≤ length d
      pub list_so : patch d i (numbers (rest at)) ≡ patch d₀ 0 (numbers (stretches limit s))

    pub writing_begins : 4 * length (stretches limit s) ≤ length d₀ → Writing d₀ 0 0
    writing_begins h = record {
      within = omega arith;
      kept = refl;
      room = rw rest_all (omega (arith, numbers-length (stretches limit s)));
      list_so = rw rest_all refl;
    }

    pub writing_ends : (d : List ℕ) (i at : ℕ) → Writing d i at → length s ≤ at → d ≡ patch d₀ 0 (numbers (stretches limit s))
    unfolding numbers
    writing_ends d i at w h = paste-zero d i [] ∙ sym (ap (λ (l : List Stretch). patch d i (numbers l)) (rest_none at h)) ∙ w.list_so

    module _ (d : List ℕ) (i at : ℕ) (w : Writing d i at) (r : code_round.Round) (is : round_said r ≡ round_of limit (drop at s)) where
      abbrev here : List ℕ
      here = numbers (shown at (round_said r))

      abbrev later : List ℕ
      later = numbers (rest (at + (r.run.bytes + r.lost)))

      split : numbers (rest at) ≡ here ++ later
      split = ap numbers (rounds at r is) ∙ numbers-append (shown at (round_said r)) (rest (at + (r.run.bytes + r.lost)))

      split-room : i + (length here + length later) ≤ length d
      split-room = omega (arith, w.room, ap length split, length-append here later)

      pub writing_room : i + length here ≤ length d
      writing_room = omega (arith, split-room)

      pub writing_turn : (j : ℕ) (d' : List ℕ) → j ≡ i + length here → d' ≡ patch d i here → length d' ≡ length d → Writing d' j (at + (r.run.bytes + r.lost))
      writing_turn j d' ej ed l = record {
        within = round_within at r is w.within;
        kept = l ∙ w.kept;
        room = omega (arith, split-room);
        list_so = rw (ed, ej) (patch-append d i here later split-room ∙ ap (patch d i) (sym split) ∙ w.list_so);
      }
