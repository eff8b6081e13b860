use Rattle.chunk.specs.ReadLaws.{headed_empty, headed_large, headed_held}
use Rattle.chunk.specs.Chunks.{largest}
use Rattle.wire.specs.Le.{le_at}
use Rattle.std.proofs.Common.{◌+◌, get_or, sym, ◌∙◌, ltb-false, ltb-true}
use Rattle.chunk.proofs.reader.headed_chunk.Goals as goal

pub returns-then-len-eq0 : goal.returns-then-len-eq0
returns-then-len-eq0 c =
    let test = c in
    let read = test in
    let a = read.args in
    let s = a.src.now in
    let none = sym read.le-len.ensures.0 ∙ test.if-len-eq0.true in
    c.chunk.ensures ∙ sym (headed_empty largest a.x a.st (le_at s 0 3) (get_or s 3 0) s a.dst.now none)

pub returns-then-exceeds : goal.returns-then-exceeds
returns-then-exceeds c =
    let large = c in
    let read = large in
    let a = read.args in
    let s = a.src.now in
    let l = read.le-len.ensures.0 in
    let some = rw l at large.if-len-eq0.false in
    let over = ltb-true a.st.limit (a.st.taken + le_at s 0 3) (rw l at (sym large.exceeds.ensures ∙ c.if-exceeds.true)) in
    rw (headed_large largest a.x a.st (le_at s 0 3) (get_or s 3 0) s a.dst.now some over, c.stop.ensures)

pub returns : goal.returns
returns c =
    let held = c in
    let test = held in
    let large = test in
    let read = large in
    let a = read.args in
    let s = a.src.now in
    let l = read.le-len.ensures.0 in
    let some = rw l at large.if-len-eq0.false in
    let within = ltb-false a.st.limit (a.st.taken + le_at s 0 3) (rw l at (sym large.exceeds.ensures ∙ test.if-exceeds.false)) in
    let e = headed_held largest a.x a.st (le_at s 0 3) (get_or s 3 0) s a.dst.now some within in
    c.chunk-2.ensures ∙ rw (held.hold.ensures, l, e)
