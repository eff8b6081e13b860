use Rattle.std.proofs.Common.{arith}
use Rattle.frame.proofs.Rounds.{drain_fits, drain_is}
use Rattle.frame.proofs.reader.drain.Goals as goal

pub overflow_sub-left : goal.overflow_sub-left
overflow_sub-left c = drain_fits c.args.codec _ _ _ _ _ _ c.requires c.plain_of.ensures c.decode_with-answer.ensures

pub shift_left-requires : goal.shift_left-requires
shift_left-requires c =
    let fits = drain_fits c.args.codec c.args.staging.now _ _ _ _ _ c.requires c.plain_of.ensures c.decode_with-answer.ensures in
    (omega arith, omega (arith, fits))

pub returns : goal.returns
returns c =
    drain_is c.args.codec _ _ _ _ _ _ c.requires c.plain_of.ensures c.decode_with-answer.ensures _ _
    c.last_number-last.ensures
    c.with_plain.ensures c.shift_left.ensures
