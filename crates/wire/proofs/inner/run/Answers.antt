use Rattle.wire.specs.RoomLaws.{paste_patch}
use lib.Seq.{paste-zero, paste-suc}
use lib.ListN.{length-set}
use native.Mathlib.Numerals.{add-one}
use native.Mathlib.Omega.{arith}
use mathlib.Core.Path.{refl, ◌∙◌}
use Rattle.wire.proofs.inner.run.Goals as goal

pub loop-i-init : goal.loop-i-init
loop-i-init c = (omega arith, paste-zero c.args.dst.now c.args.at c.args.src.now, refl)

pub loop-i-preserved : goal.loop-i-preserved
loop-i-preserved c =
    let a = c.args in
    let l = c.loop-i in (
      omega arith,
      rw (add-one, l.invariant.1) (paste-suc a.dst.now a.at a.src.now l.i 0 (omega arith) (omega arith)),
      simp length-set l.invariant.2,
    )

pub returns : goal.returns
returns c =
    let a = c.args in
    let l = c.loop-i in
    l.invariant.1 ∙ paste_patch a.dst.now a.at a.src.now l.i (omega arith)
