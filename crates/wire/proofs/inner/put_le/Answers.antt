use mathlib.Core.Path.{◌∙◌}
use Prim.Native.Nat.{◌<◌}
use native.Mathlib.Omega.{arith}
use native.Mathlib.Numerals.{add-one}
use lib.ListN.{length-set}
use lib.Seq.{paste-suc}
use Rattle.wire.specs.Le.{le_bytes}
use Rattle.wire.specs.LeLaws.{le_length, byte_next, bytes_next}
use Rattle.wire.specs.RoomLaws.{paste_patch}
use Rattle.wire.proofs.inner.put_le.Goals as goal

pub loop-i-preserved : goal.loop-i-preserved
loop-i-preserved c =
    let a = c.args in
    let l = c.loop-i in
    let h : l.i < a.k = c.loop-i-test.true in
    let n = byte_next a.k l.i a.v l.rest h l.invariant.1 in (
      rw (add-one, l.invariant.0, n)
          (paste-suc a.dst.now a.at (le_bytes a.k a.v) l.i 0 (omega arith) (omega (arith, le_length a.k a.v))),
      rw add-one (bytes_next a.k l.i a.v l.rest h l.invariant.1),
      simp length-set l.invariant.2,
    )

pub returns : goal.returns
returns c =
    let a = c.args in
    let l = c.loop-i in
    l.invariant.0 ∙ paste_patch a.dst.now a.at (le_bytes a.k a.v) l.i (omega (arith, le_length a.k a.v))
