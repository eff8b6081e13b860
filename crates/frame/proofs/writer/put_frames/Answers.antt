use Rattle.frame.proofs.Writing.{head_first, head_more, head_last}
use Rattle.chunk.specs.Chunks.{next}
use Rattle.std.proofs.Common.{arith}
use Rattle.frame.proofs.writer.put_frames.Goals as goal

pub loop-left-init : goal.loop-left-init
loop-left-init c =
    let q = c.requires in
    head_first _ _ _ _ _ q.0 q.1 q.2 q.3

pub loop-left-preserved : goal.loop-left-preserved
unfolding next
loop-left-preserved c =
    let f = c.put_frame in
    head_more _ _ _ _ _ _ _ _ _ c.loop-left.invariant _ (omega arith) f.auto.dst f.ensures

pub returns : goal.returns
unfolding next
returns c =
    let q = c.requires in
    rw q.2 (head_last _ _ _ _ _ _ _ _ _ c.loop-left.invariant _ (omega arith) (rw q.2 at q.3) q.1 c.put_frame-2.ensures)
