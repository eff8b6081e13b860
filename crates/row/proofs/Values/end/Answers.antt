use Rattle.std.proofs.Common.{arith}
use Rattle.std.proofs.lemmas.Grind.{common_steps}
use Rattle.row.proofs.WalkLaws.{col_next, ending_turn, pass-stops, pass-ends}
use Rattle.row.proofs.Values.end.Goals as goal

pub returns-in_err-at : goal.returns-in_err-at
returns-in_err-at c =
    let v = c.args.self.now in
    let l = c.loop-i in
    grind (arith, common_steps, pass-stops v.bytes.now v.map.now v.off v.types.now c.args.from l.at l.i l.invariant.1 c.loop-i-test.true c.column.result c.column.ensures _ c.in_err-at.was)

pub loop-i-preserved : goal.loop-i-preserved
loop-i-preserved c =
    let v = c.args.self.now in
    let l = c.loop-i in (
      col_next v.bytes.now v.map.now v.off v.types.now l.i l.at _ c.column.result c.column.ensures c.in_ok-at.was l.invariant.0,
      ending_turn v.bytes.now v.map.now v.off v.types.now c.args.from l.at l.i l.invariant.1 c.loop-i-test.true c.column.result c.column.ensures _ c.in_ok-at.was,
    )

pub returns : goal.returns
returns c =
    let v = c.args.self.now in
    let l = c.loop-i in
    pass-ends v.bytes.now v.map.now v.off v.types.now c.args.from l.at l.i l.invariant.1 c.loop-i-test.false
