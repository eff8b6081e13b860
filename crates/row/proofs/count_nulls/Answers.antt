use Rattle.std.proofs.Common.{◌≡◌, arith, ◌*◌, ◌-◌, ◌/◌, ◌^◌, get_or, min, inl, inr}
use Rattle.row.specs.Nulls.{null_count}
use Rattle.row.specs.RowLaws.{count_few}
use Rattle.row.proofs.BitLaws.{count_turn, ones_few}
use Rattle.row.proofs.count_nulls.Goals.{then-k-eq0, else-k-eq0}
use Rattle.row.proofs.count_nulls.Goals as goal

pub loop-k-init : goal.loop-k-init
unfolding null_count
loop-k-init c = let none : min (0 - c.args.off) c.args.n ≡ 0 = omega arith in rw none

pub overflow_add-count : goal.overflow_add-count
overflow_add-count c =
    let a = c.args in
    let l = c.loop-k in
    omega (
      arith,
      count_few a.map.now a.off (min (8 * l.k - a.off) a.n),
      ones_few (get_or a.map.now l.k 0 / 2 ^ c.if-k-eq0.low) (c.min-high.result - c.if-k-eq0.low),
    )

pub loop-k-preserved : goal.loop-k-preserved
loop-k-preserved c =
    let a = c.args in
    let l = c.loop-k in
    elim c.if-k-eq0.branch [
      | then-k-eq0 w ↦ omega (arith, count_turn a.map.now a.off a.n l.k c.if-k-eq0.low c.min-high.result (omega arith) (omega arith) (inl (omega arith, w.low-is)) (omega arith))
      | else-k-eq0 w ↦ omega (arith, count_turn a.map.now a.off a.n l.k c.if-k-eq0.low c.min-high.result (omega arith) (omega arith) (inr (omega arith, w.low-is)) (omega arith))
    ]

pub returns : goal.returns
returns c =
    let a = c.args in
    let all : min (8 * c.loop-k.k - a.off) a.n ≡ a.n = omega arith in
    rw all at c.loop-k.invariant
