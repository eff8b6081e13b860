use Rattle.std.proofs.Common.{arith}
use Rattle.row.proofs.WalkLaws.{col_null, col_led, col_there, col_short}
use Rattle.row.proofs.Values.column.Goals as goal

pub returns-then-self-at : goal.returns-then-self-at
returns-then-self-at c =
    let v = c.args.self.now in
    col_short v.bytes.now v.map.now v.off v.types.now c.args.i c.args.at _ _ c.has_value-there.ensures c.step_of-step.ensures
    (omega arith) (omega arith) (omega arith)

pub returns-then-step-le8 : goal.returns-then-step-le8
returns-then-step-le8 c =
    let v = c.args.self.now in
    col_there v.bytes.now v.map.now v.off v.types.now c.args.i c.args.at _ _ c.has_value-there.ensures c.step_of-step.ensures
    (omega arith) (omega arith)

pub returns-then-there-eq0 : goal.returns-then-there-eq0
returns-then-there-eq0 c =
    let v = c.args.self.now in
    col_null v.bytes.now v.map.now v.off v.types.now c.args.i c.args.at _ _ c.has_value-there.ensures c.step_of-step.ensures
    c.if-there-eq0.true

pub returns : goal.returns
returns c =
    let v = c.args.self.now in
    col_led v.bytes.now v.map.now v.off v.types.now c.args.i c.args.at _ _ c.has_value-there.ensures c.step_of-step.ensures
    c.if-there-eq0.false c.if-step-le8.false _ c.skip_led.ensures
