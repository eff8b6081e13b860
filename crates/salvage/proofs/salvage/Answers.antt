use Rattle.salvage.proofs.EndLaws.{salvage_full, salvage_room, salvage_written}
use Rattle.salvage.proofs.salvage.Goals as goal

pub returns-then-out-n : goal.returns-then-out-n
returns-then-out-n c =
    let a = c.args in
    let q = c.stretches in
    salvage_full a.limit a.capture.now a.out.now q.result q.ensures c.in_ok-n.n c.in_ok-n.was c.if-out-n.true

pub write-requires : goal.write-requires
write-requires c =
    let a = c.args in
    let q = c.stretches in
    salvage_room a.limit a.capture.now a.out.now q.result q.ensures c.in_ok-n.n c.in_ok-n.was c.if-out-n.false

pub returns : goal.returns
returns c =
    let a = c.args in
    let q = c.stretches in
    salvage_written a.limit a.capture.now a.out.now q.result q.ensures c.in_ok-n.n c.in_ok-n.was c.if-out-n.false _ c.write.ensures
