use Rattle.std.proofs.Common.{arith, ◌≡◌, Err}
use Rattle.std.proofs.lemmas.Grind.{common_steps}
use Rattle.row.proofs.EndLaws.{lists_fine, params_lists, params_values}
use Rattle.row.proofs.read_params.Goals as goal

pub returns-in_err-listed_columns : goal.returns-in_err-listed_columns
returns-in_err-listed_columns c =
    let a = c.args in
    let k = c.listed_columns in
    let r : c.from_residual.result ≡ Err c.in_err-listed_columns.field-0.0 = grind (arith, common_steps) in
    rw r (params_lists a.list.now a.types.now a.signs.now a.starts.now k.result k.ensures _ c.in_err-listed_columns.was)

pub read_values-requires : goal.read_values-requires
read_values-requires c =
    let k = c.listed_columns in
    let ok = lists_fine k.result _ _ _ _ k.ensures c.in_ok-listed_columns.was in
    (omega arith, rw c.bit_offset.ensures (omega arith), ok.0, ok.1)

pub returns : goal.returns
returns c =
    let a = c.args in
    let k = c.listed_columns in
    params_values a.list.now a.types.now a.signs.now a.starts.now k.result k.ensures _ c.in_ok-listed_columns.was
    _ _ (rw c.bit_offset.ensures at c.read_values.ensures)
