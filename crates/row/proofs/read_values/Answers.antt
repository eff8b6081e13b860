use Rattle.std.proofs.Common.{arith, ◌≡◌, Err, refl}
use Rattle.std.proofs.lemmas.Grind.{common_steps}
use native.Mathlib.Nat.{add-sub_cancel_left}
use Rattle.row.proofs.EndLaws.{values_short, values_read, values_stop}
use Rattle.row.proofs.read_values.Goals as goal

pub returns-then-bytes-lead : goal.returns-then-bytes-lead
returns-then-bytes-lead c =
    let a = c.args in
    let m = c.map_size-size in
    values_short a.bytes.now a.lead a.off a.types.now a.starts.now m.result m.ensures (omega arith)

pub returns-in_err-end : goal.returns-in_err-end
returns-in_err-end c =
    let a = c.args in
    let m = c.map_size-size in
    let r : c.from_residual.result ≡ Err c.in_err-end.field-0.0 = grind (arith, common_steps) in
    rw r (values_stop a.bytes.now a.lead a.off a.types.now a.starts.now m.result m.ensures (omega (arith, c.if-bytes-lead.false, c.requires)) _ (rw add-sub_cancel_left refl)
    c.in_err-end.field-0.0 (rw c.in_err-end.was at c.end.ensures))

pub returns : goal.returns
returns c =
    let a = c.args in
    let m = c.map_size-size in
    values_read a.bytes.now a.lead a.off a.types.now a.starts.now m.result m.ensures (omega (arith, c.if-bytes-lead.false, c.requires)) _ (rw add-sub_cancel_left refl)
    _ _ _ (rw c.in_ok-used.was at c.list.ensures) c.count_nulls-nulls.ensures
