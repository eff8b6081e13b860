use Rattle.chunk.proofs.Reading.{head_first, head_more, head_last, used_in, used_some}
use Rattle.chunk.specs.ReadLaws.{read-closed, read_open}
use Rattle.chunk.specs.Read.{turned_of}
use Rattle.chunk.specs.Chunks.{largest}
use Rattle.std.proofs.Common.{sym, ◌∙◌, arith}
use Rattle.chunk.proofs.decode_with.Goals as goal

pub returns-then-codec : goal.returns-then-codec
returns-then-codec c =
    let a = c.args in
    sym (read-closed largest a.x a.codec a.src.now a.dst.now c.if-codec.true)

pub overflow_add-at : goal.overflow_add-at
overflow_add-at c =
    let t = c in
    let l = t in
    let a = l.args in
    omega (
      arith,
      used_in a.dst.now a.x a.src.now a.codec l.loop-answer.dst l.loop-answer.at l.loop-answer.st l.loop-answer.invariant
          (turned_of t.turn-t.result t.turn-t.new.dst) t.turn-t.ensures,
    )

pub loop-answer-smaller : goal.loop-answer-smaller
loop-answer-smaller c =
    let t = c in
    let l = t in
    let a = l.args in
    let u = used_in a.dst.now a.x a.src.now a.codec l.loop-answer.dst l.loop-answer.at l.loop-answer.st l.loop-answer.invariant
    (turned_of t.turn-t.result t.turn-t.new.dst) t.turn-t.ensures in
    let s = used_some a.dst.now a.x a.src.now a.codec l.loop-answer.dst l.loop-answer.at l.loop-answer.st l.loop-answer.invariant
    (turned_of t.turn-t.result t.turn-t.new.dst) t.turn-t.ensures c.if-t.true in
    omega (arith, u, s)

pub loop-answer-preserved : goal.loop-answer-preserved
loop-answer-preserved c =
    let t = c in
    let l = t in
    let a = l.args in
    head_more a.dst.now a.x a.src.now a.codec l.loop-answer.dst l.loop-answer.at l.loop-answer.st l.loop-answer.invariant
    (turned_of t.turn-t.result t.turn-t.new.dst) t.turn-t.ensures c.if-t.true t.turn-t.auto.dst

pub returns-else-t : goal.returns-else-t
returns-else-t c =
    let t = c in
    let l = t in
    let a = l.args in
    head_last a.dst.now a.x a.src.now a.codec l.loop-answer.dst l.loop-answer.at l.loop-answer.st l.loop-answer.invariant
    (turned_of t.turn-t.result t.turn-t.new.dst) t.turn-t.ensures c.if-t.false
    ∙ sym (read_open largest a.x a.codec a.src.now a.dst.now l.if-codec.false)
