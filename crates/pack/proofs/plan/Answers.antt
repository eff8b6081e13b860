use Rattle.pack.specs.WalkLaws.{plans_full, plans_done}
use Rattle.pack.proofs.plan.Goals as goal

pub returns-then-ends-n : goal.returns-then-ends-n
returns-then-ends-n c =
    let a = c.args in
    let k = c.count_groups in
    plans_full a.overhead a.limit a.rows.now a.ends.now c.if-rows-gt-MAX_ROWS.false k.result k.ensures _ c.in_ok-n.was c.if-ends-n.true

pub returns : goal.returns
returns c =
    let a = c.args in
    let k = c.count_groups in
    plans_done a.overhead a.limit a.rows.now a.ends.now
    c.if-rows-gt-MAX_ROWS.false k.result k.ensures _ c.in_ok-n.was c.if-ends-n.false
    _ c.put_ends.ensures
