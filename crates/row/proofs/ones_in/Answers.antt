use Rattle.std.proofs.Common.{arith, ◌/◌, ◌^◌}
use Rattle.row.proofs.BitLaws.{one_shl}
use lib.Bits.{and_mask}
use Rattle.row.proofs.ones_in.Goals as goal

pub returns : goal.returns
returns c =
    let a = c.args in
    rw (one_shl a.w (omega arith), and_mask (a.b / 2 ^ a.lo) a.w)
