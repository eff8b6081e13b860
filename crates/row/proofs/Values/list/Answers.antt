use Rattle.std.proofs.Common.{arith, ◌≡◌, Err}
use Rattle.std.proofs.lemmas.Grind.{common_steps}
use Rattle.row.proofs.WalkLaws.{col_next, ending_turn, listing_turn, listing-stops, pass-lists}
use Rattle.row.proofs.Values.list.Goals as goal

pub returns-in_err-at : goal.returns-in_err-at
returns-in_err-at c =
    let v = c.args.self.now in
    let l = c.loop-i in
    let r : c.from_residual.result ≡ Err c.in_err-at.field-0.0 = grind (arith, common_steps) in
    rw r (listing-stops v.bytes.now v.map.now v.off v.types.now c.args.from l.at l.i l.invariant.1 c.loop-i-test.true c.column.result c.column.ensures
    c.args.starts.now l.starts l.invariant.2 _ c.requires.1 c.in_err-at.was)

pub loop-i-preserved : goal.loop-i-preserved
loop-i-preserved c =
    let v = c.args.self.now in
    let l = c.loop-i in (
      col_next v.bytes.now v.map.now v.off v.types.now l.i l.at _ c.column.result c.column.ensures c.in_ok-at.was l.invariant.0,
      ending_turn v.bytes.now v.map.now v.off v.types.now c.args.from l.at l.i l.invariant.1 c.loop-i-test.true c.column.result c.column.ensures _ c.in_ok-at.was,
      listing_turn v.bytes.now v.map.now v.off v.types.now c.args.from l.at l.i l.invariant.1 c.loop-i-test.true c.column.result c.column.ensures
          c.args.starts.now l.starts l.invariant.2 _ c.in_ok-at.was,
    )

pub returns : goal.returns
returns c =
    let v = c.args.self.now in
    let l = c.loop-i in
    pass-lists v.bytes.now v.map.now v.off v.types.now c.args.from l.at l.i l.invariant.1 c.loop-i-test.false c.args.starts.now l.starts c.requires.1 l.invariant.2
