use Rattle.value.proofs.WriteLaws.{fields_wrote}
use Rattle.wire.specs.RoomLaws.{has_yes, has_no, wrote_full}
use Rattle.wire.specs.LeLaws.{le_length}
use Rattle.wire.specs.Le.{le_bytes}
use lib.ListN.{length, length-append, length-take, take}
use native.Mathlib.Omega.{arith}
use Prim.Native.Nat.{◌+◌}
use mathlib.Core.Path.{◌≡◌}
use mathlib.Core.List.{◌∷◌, ◌++◌}
use Rattle.value.proofs.write.put_fields.Goals as goal

pub returns : goal.returns
returns c =
    let q = c in
    let p = q in
    let a = p.args in
    let h = has_yes (a.at + (a.len + 1)) (length a.dst.now) p.has.ensures p.if-not-has.false in
    fields_wrote a.dst.now a.at a.len a.k a.head a.micros q.min-n.result _ _
    q.min-n.ensures (omega arith) h q.put_le.ensures c.put_le-2.ensures

pub returns-then-not-has : goal.returns-then-not-has
returns-then-not-has c =
    let a = c.args in
    let h = has_no (a.at + (a.len + 1)) (length a.dst.now) c.has.ensures c.if-not-has.true in
    let n : length (take a.len (le_bytes a.k a.head ++ le_bytes 4 a.micros)) ≡ a.len =
    simp (length-take, length-append, le_length) (omega arith) in
    wrote_full (a.len ∷ take a.len (le_bytes a.k a.head ++ le_bytes 4 a.micros)) a.dst.now a.at (omega (arith, h, n))
