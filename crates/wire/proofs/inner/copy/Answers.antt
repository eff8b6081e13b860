use Rattle.wire.specs.RoomLaws.{both_ends}
use Rattle.std.proofs.Common.{arith}
use Rattle.wire.proofs.inner.copy.Goals as goal

pub returns-then-n-le16 : goal.returns-then-n-le16
returns-then-n-le16 c =
    let a = c.args in
    both_ends a.dst.now a.at a.src.now c.requires 8 c.word.ensures c.word-then-n-le16.ensures c.if-n-lt8.false c.if-n-le16.true

pub returns-then-n-le32 : goal.returns-then-n-le32
returns-then-n-le32 c =
    let a = c.args in
    both_ends a.dst.now a.at a.src.now c.requires 16 c.word-then-n-le32.ensures c.word-then-n-le32-2.ensures (omega arith) c.if-n-le32.true
