use Rattle.chunk.proofs.Writing.{head_first, head_more, head_last}
use Rattle.chunk.specs.Chunks.{next, needed}
use Rattle.std.proofs.Common.{arith}
use Rattle.chunk.proofs.inner.put_chunks.Goals as goal

pub put_chunk-requires : goal.put_chunk-requires
unfolding needed
put_chunk-requires c = omega arith

pub loop-at-preserved : goal.loop-at-preserved
unfolding next
loop-at-preserved c =
    let put = c in
    let l = put in
    let s = l in
    let a = s.args in
    let n = l.loop-at in
    let did = put.put_chunk in
    head_more a.dst.now a.from a.first a.packet.now n.dst n.at n.out n.number n.invariant
    did.new.dst (omega arith) s.requires did.auto.dst did.ensures

pub put_chunk-requires-2 : goal.put_chunk-requires-2
unfolding needed
put_chunk-requires-2 c = omega arith

pub returns : goal.returns
unfolding next
returns c =
    let put = c in
    let l = put in
    let a = l.args in
    let n = l.loop-at in
    let did = put.put_chunk-2 in
    head_last a.dst.now a.from a.first a.packet.now n.dst n.at n.out n.number n.invariant
    did.new.dst (omega arith) did.ensures
