-- What the walks lean on: the opening quote, and where a run from a place ends.
use Rattle.literal.specs.RunLaws.{clean, clean_run, run_le, escape_most, run_backslash}
use Rattle.literal.specs.WriteLaws.{passed_on, sound_within, rest_last, all_sound, patch_none}
use Rattle.literal.specs.JudgeLaws.{quote_closes, quote-stops, quote_doubled, backslash-cut, backslash_escapes, run_turned, leads_end, leads_all, not_opened}
use Rattle.std.proofs.Common.{rules, tests}
use Rattle.escape.specs.Quote.{quote}
use Rattle.std.specs.List.{starts_with, position_or_len, position}
use Rattle.std.specs.Option.{unwrap_or}
use Rattle.std.specs.Prelude.{not, Option, None, Some, cond, ltb, eqb}
use lib.ListN.{length, get_or}
use borrow.Author.Tests.{ltb-false}
use native.Mathlib.Omega.{arith}
use mathlib.Core.Bool.{Bool, true, false}
use mathlib.Core.List.{List, [], ◌∷◌}
use mathlib.Core.Path.{◌≡◌, refl}
use Prim.Native.Nat.{ℕ, suc, ◌+◌, ◌<◌}

-- whether a quote opens it
pub opened : (s : List ℕ) → starts_with eqb s (quote ∷ []) ≡ true → (0 < length s) × (get_or s 0 0 ≡ quote)
opened [] e = absurd (cc)
opened (b ∷ s) e = (omega arith, search (rules, tests))

pub opened_not : (s : List ℕ) → starts_with eqb s (quote ∷ []) ≡ false → get_or s 0 0 ≡ quote → ⊥
opened_not [] e q = omega arith
opened_not (b ∷ s) e q = search (rules, tests)

-- a run is the place of the first byte that is none of it, or all
run_place : (other : ℕ) (s : List ℕ) → position_or_len (λ b. not (clean other b)) s ≡ clean_run other s
unfolding clean_run
run_place other [] = refl
run_place other (b ∷ s) = by (clean other b) (run_place other s)
  where
    by : (t : Bool) → position_or_len (λ b. not (clean other b)) s ≡ clean_run other s
        → cond (not (not t)) (1 + position_or_len (λ b. not (clean other b)) s) 0 ≡ cond t (suc (clean_run other s)) 0
    by true e = omega (arith, e)
    by false e = refl

pub run_found : (other : ℕ) (s : List ℕ) (r : Option ℕ) → r ≡ position (λ b. not (clean other b)) s → unwrap_or r (length s) ≡ clean_run other s
run_found other s r e = rw (e) (by (ltb k (length s)) refl)
  where
    k : ℕ
    k = position_or_len (λ b. not (clean other b)) s

    by : (t : Bool) → ltb k (length s) ≡ t → unwrap_or (cond t (Some k) None) (length s) ≡ clean_run other s
    by true h = run_place other s
    by false h = omega (arith, ltb-false k (length s) h, run_place other s, run_le other s)

-- what a turn leads to, and a walk
pub ruleset turns = (quote_closes, quote-stops, quote_doubled, backslash-cut, backslash_escapes, escape_most, run_turned, leads_end, run_backslash, opened, opened_not, leads_all, not_opened)

-- what the writer leaves
pub ruleset writes = (passed_on, sound_within, rest_last, all_sound, patch_none)
