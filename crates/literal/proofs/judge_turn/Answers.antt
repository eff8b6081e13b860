use Rattle.literal.specs.JudgeLaws.{run_turned, leads_end}
use native.Mathlib.Omega.{arith}
use mathlib.Core.Path.{sym, ◌∙◌}
use Prim.Native.Nat.{◌+◌}
use Rattle.literal.proofs.judge_turn.Goals as goal

pub returns-then-end-input : goal.returns-then-end-input
returns-then-end-input c =
    let m = c.args.no_backslash_escape in
    let s = c.args.input.now in
    let spot = c.args.spot in
    let run = c.run_len-run in
    run_turned m s spot c.requires.0 run.result run.ensures.0 _ (record {
      same = c.no_literal.ensures ∙ sym (leads_end m s (spot.at + run.result) _ (omega arith));
      fits = omega arith;
    })

pub returns-then-input-end-eq39 : goal.returns-then-input-end-eq39
returns-then-input-end-eq39 c =
    let m = c.args.no_backslash_escape in
    let run = c.run_len-run in
    run_turned m c.args.input.now c.args.spot c.requires.0 run.result run.ensures.0 _ (c.at_quote.ensures m)
