use Rattle.std.proofs.Common.{arith, ◌≡◌, ◌≤◌, Err, length, get_or}
use Rattle.std.proofs.lemmas.Grind.{common_steps}
use Rattle.refusal.specs.declared.Refusal.TheVariants.{Short}
use Rattle.row.proofs.EndLaws.{lists_fine, row_lists, row_empty, row_lead, row_values}
use Rattle.row.proofs.read_row.Goals as goal

pub returns-in_err-listed_columns : goal.returns-in_err-listed_columns
returns-in_err-listed_columns c =
    let a = c.args in
    let k = c.listed_columns in
    let r : c.from_residual.result ≡ Err c.in_err-listed_columns.field-0.0 = grind (arith, common_steps) in
    rw r (row_lists a.row.now a.types.now a.signs.now a.starts.now k.result k.ensures _ c.in_err-listed_columns.was)

pub returns-in_err-lead : goal.returns-in_err-lead
returns-in_err-lead c =
    let a = c.args in
    let k = c.listed_columns in
    let none : length a.row.now ≡ 0 = grind (arith, common_steps) in
    let r : c.from_residual-in_err-lead.result ≡ Err Short = grind (arith, common_steps) in
    rw r (row_empty a.row.now a.types.now a.signs.now a.starts.now k.result k.ensures _ c.in_ok-listed_columns.was none)

pub returns-then-lead-ne0 : goal.returns-then-lead-ne0
returns-then-lead-ne0 c =
    let a = c.args in
    let k = c.listed_columns in
    let some : length a.row.now ≡ 0 → ⊥ = λ z. grind (arith, common_steps) in
    let lead : c.in_ok-lead.lead.now ≡ get_or a.row.now 0 0 = grind (arith, common_steps) in
    row_lead a.row.now a.types.now a.signs.now a.starts.now k.result k.ensures _ c.in_ok-listed_columns.was some (rw (← lead) c.if-lead-ne0.true)

pub read_values-requires : goal.read_values-requires
read_values-requires c =
    let k = c.listed_columns in
    let ok = lists_fine k.result _ _ _ _ k.ensures c.in_ok-listed_columns.was in
    let some : 1 ≤ length c.args.row.now = grind (arith, common_steps) in
    (some, rw c.bit_offset.ensures (omega arith), ok.0, ok.1)

pub returns : goal.returns
returns c =
    let a = c.args in
    let k = c.listed_columns in
    let some : length a.row.now ≡ 0 → ⊥ = λ z. grind (arith, common_steps) in
    let lead : get_or a.row.now 0 0 ≡ 0 = grind (arith, common_steps) in
    row_values a.row.now a.types.now a.signs.now a.starts.now k.result k.ensures _ c.in_ok-listed_columns.was some lead
    _ _ (rw c.bit_offset.ensures at c.read_values.ensures)
