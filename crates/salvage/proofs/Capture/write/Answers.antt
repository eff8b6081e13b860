use Rattle.salvage.proofs.RoundLaws.{writing_begins, writing_turn}
use Rattle.salvage.proofs.Capture.write.Goals as goal

pub loop-at-init : goal.loop-at-init
loop-at-init c = writing_begins c.args.self.limit c.args.self.bytes.now c.args.out.now c.requires

pub loop-at-preserved : goal.loop-at-preserved
loop-at-preserved c =
    let s = c.args.self in
    let l = c.loop-at in
    let r = c.round-round in
    let e = rw (c.after.ensures.limit, c.after.ensures.bytes) at r.ensures in
    let p = c.put-i in
    writing_turn s.limit s.bytes.now c.args.out.now l.out l.i l.at l.invariant r.result e p.result p.new.out p.ensures.0 p.ensures.1 p.auto.out
