use Rattle.literal.specs.RunLaws.{clean_run, run_special}
use Rattle.literal.specs.WriteLaws.{rest, Sound, Passed, passed_some, passed_on, sound_within, run_sound, run_rest, pair_sound, pair_rest}
use Rattle.escape.specs.Meaning.{escape_means}
use Rattle.escape.specs.QuoteLaws.{first_of}
use Rattle.wire.specs.Room.{patch}
use lib.ListN.{length, take, drop, get_or, length-append, length-drop}
use lib.Seq.{length-take-le}
use mathlib.Core.List.{List, ◌++◌}
use mathlib.Core.Bool.{Bool}
use native.Mathlib.Omega.{arith}
use mathlib.Core.Path.{◌≡◌, ap, sym, ◌∙◌}
use Prim.Native.Nat.{ℕ, ◌+◌, ◌-◌, ◌≤◌, ◌<◌}
use Rattle.literal.proofs.put_turn.Goals as goal

-- where the run ends: before the input's end, with a sound rest
module _ (m : Bool) (s : List ℕ) (at run : ℕ) (r : run ≡ clean_run (first_of m) (drop at s)) (h : Sound m s at) where
  ends : at + run ≡ at + clean_run (first_of m) (drop at s)
  ends = ap (λ (n : ℕ). at + n) r

  sound : Sound m s (at + run)
  sound = run_sound m s at (at + run) ends h

  within : at + run < length s
  within = sound_within m s (at + run) sound

  -- what is written: the run, and then the rest
  abbrev written : List ℕ
  written = take (at + run - at) (drop at s)

  rests : rest m s at ≡ written ++ rest m s (at + run)
  rests = run_rest m s at (at + run) ends h

  count : length written ≡ run
  count =
      let n : at + run - at ≡ run = omega arith in
      length-take-le (at + run - at) (drop at s) (omega (arith, within, length-drop at s)) ∙ n

  room : length (rest m s at) ≡ run + length (rest m s (at + run))
  room = omega (arith, ap length rests, length-append written (rest m s (at + run)), count)

  copied : (d d' : List ℕ) (next : ℕ) → next + length (rest m s at) ≤ length d → d' ≡ patch d next written
      → Passed d next (rest m s at) d' (next + run) (rest m s (at + run))
  copied d d' next r p = passed_some next written (rest m s (at + run)) rests r p (ap (λ (n : ℕ). next + n) (sym count))

  -- two bytes more
  pair : at ≤ length s → at + run + 1 < length s
      → Sound m s (at + run + 1 + 1) × (rest m s (at + run) ≡ escape_means (get_or s (at + run + 1) 0) ++ rest m s (at + run + 1 + 1))
  pair a l =
      let b = run_special m s at a (at + run) ends within in (
        pair_sound m s (at + run) l b sound,
        pair_rest m s (at + run) l b sound,
      )

pub copy-requires : goal.copy-requires
copy-requires c =
    let n = count c.args.no_backslash_escape c.args.input.now c.args.spot.at c.run_len-run.result c.run_len-run.ensures.0 c.requires.1 in
    omega (arith, n, room c.args.no_backslash_escape c.args.input.now c.args.spot.at c.run_len-run.result c.run_len-run.ensures.0 c.requires.1, c.requires.2)

pub overflow_add-count : goal.overflow_add-count
overflow_add-count c = omega (arith, room c.args.no_backslash_escape c.args.input.now c.args.spot.at c.run_len-run.result c.run_len-run.ensures.0 c.requires.1, c.requires.2)

pub overflow_add-second : goal.overflow_add-second
overflow_add-second c = omega (arith, within c.args.no_backslash_escape c.args.input.now c.args.spot.at c.run_len-run.result c.run_len-run.ensures.0 c.requires.1)

pub returns-then-second-input : goal.returns-then-second-input
returns-then-second-input c = record {
  further = omega arith;
  within = within c.args.no_backslash_escape c.args.input.now c.args.spot.at c.run_len-run.result c.run_len-run.ensures.0 c.requires.1;
  sound = sound c.args.no_backslash_escape c.args.input.now c.args.spot.at c.run_len-run.result c.run_len-run.ensures.0 c.requires.1;
  passed = copied c.args.no_backslash_escape c.args.input.now c.args.spot.at c.run_len-run.result c.run_len-run.ensures.0 c.requires.1 c.args.dst.now c.copy.new.dst c.args.spot.count c.requires.2 c.copy.ensures;
}

pub bounds-input-second : goal.bounds-input-second
bounds-input-second c = omega (arith, within c.args.no_backslash_escape c.args.input.now c.args.spot.at c.run_len-run.result c.run_len-run.ensures.0 c.requires.1)

pub put_escape-requires : goal.put_escape-requires
put_escape-requires c =
    let s = c.args.input.now in
    let second = c.args.spot.at + c.run_len-run.result + 1 in
    let w = within c.args.no_backslash_escape c.args.input.now c.args.spot.at c.run_len-run.result c.run_len-run.ensures.0 c.requires.1 in
    let two = pair c.args.no_backslash_escape c.args.input.now c.args.spot.at c.run_len-run.result c.run_len-run.ensures.0 c.requires.1 (omega arith) (omega arith) in
    let l = length-append (escape_means (get_or s second 0)) (rest c.args.no_backslash_escape s (second + 1)) in
    let n = room c.args.no_backslash_escape c.args.input.now c.args.spot.at c.run_len-run.result c.run_len-run.ensures.0 c.requires.1 in
    omega (arith, n, c.requires.2, ap length two.1, l, c.copy.auto.dst)

pub overflow_add-result : goal.overflow_add-result
overflow_add-result c = omega (arith, within c.args.no_backslash_escape c.args.input.now c.args.spot.at c.run_len-run.result c.run_len-run.ensures.0 c.requires.1)

pub returns : goal.returns
returns c =
    let put = c.put_escape in
    let spot = c.args.spot in
    let s = c.args.input.now in
    let run = c.run_len-run.result in
    let second = spot.at + run + 1 in
    let w = within c.args.no_backslash_escape c.args.input.now c.args.spot.at c.run_len-run.result c.run_len-run.ensures.0 c.requires.1 in
    let two = pair c.args.no_backslash_escape c.args.input.now c.args.spot.at c.run_len-run.result c.run_len-run.ensures.0 c.requires.1 (omega arith) (omega arith) in
    let did = copied c.args.no_backslash_escape c.args.input.now c.args.spot.at c.run_len-run.result c.run_len-run.ensures.0 c.requires.1 c.args.dst.now c.copy.new.dst spot.count c.requires.2 c.copy.ensures in
    let h : spot.count + run + length (rest c.args.no_backslash_escape s (spot.at + run)) ≤ length c.copy.new.dst =
    omega (arith, room c.args.no_backslash_escape c.args.input.now c.args.spot.at c.run_len-run.result c.run_len-run.ensures.0 c.requires.1, c.requires.2, c.copy.auto.dst) in
    record {
      further = omega arith;
      within = sound_within c.args.no_backslash_escape s (second + 1) two.0;
      sound = two.0;
      passed =
          passed_on did
          (passed_some (spot.count + run) (escape_means (get_or s second 0)) (rest c.args.no_backslash_escape s (second + 1)) two.1 h put.ensures.1 put.ensures.0);
    }
