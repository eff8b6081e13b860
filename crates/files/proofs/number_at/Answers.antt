use Rattle.std.proofs.Common.{rules, pow_pos, ◌≤◌, ◌+◌, ◌*◌, length, sym, arith}
use Rattle.wire.specs.Le.{num_at}
use Rattle.wire.specs.RoomLaws.{has_yes}
use Rattle.files.proofs.number_at.Goals as goal

pub le-requires : goal.le-requires
le-requires c =
    let a = c.args in
    let h : a.at + a.k ≤ length a.list.now = has_yes (a.at + a.k) (length a.list.now) c.has.ensures c.if-has.true in
    search rules

pub returns-then-has : goal.returns-then-has
unfolding num_at
returns-then-has c = (simp (sym c.has.ensures, c.if-has.true, c.le.ensures.0), c.le.ensures.1)

pub returns-else-has : goal.returns-else-has
unfolding num_at
returns-else-has c = (simp (sym c.has.ensures, c.if-has.false), omega (arith, pow_pos (8 * c.args.k)))
