use Rattle.std.proofs.Common.{rules, tests}
use Rattle.std.specs.Prelude.{not}
use Rattle.std.proofs.lemmas.Iterator.{YieldsList-from_slice}
use Rattle.std.proofs.lemmas.Iterator.Search.{position_from_yields_List}
use Rattle.literal.specs.RunLaws.{clean, clean_run, run_le}
use Rattle.literal.proofs.Runs.{run_found}
use native.Mathlib.Omega.{arith}
use mathlib.Core.Path.{◌≡◌, ◌∙◌}
use Rattle.literal.proofs.clean_len.Goals as goal

pub returns : goal.returns
returns c =
    let s = c.args.bytes.now in
    let other = c.args.other in
    let found = run_found other s c.position.result
    (position_from_yields_List (λ b. not (clean other b)) _ _ _ c.position.ensures.ran (YieldsList-from_slice s cc)
    (λ x b q k. search (rules, tests))) in
    let e : c.unwrap_or.result ≡ clean_run other s = c.unwrap_or.ensures ∙ found in
    (e, omega (arith, e, run_le other s))
