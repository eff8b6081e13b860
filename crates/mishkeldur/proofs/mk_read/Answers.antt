use Rattle.std.proofs.Common.{rules, ◌+◌, ◌%◌, get_or, arith, get_or-set_other}
use Rattle.mishkeldur.proofs.WholeLaws.{reads_whole, reads_whole-frame}
use Rattle.mishkeldur.proofs.mk_read.Goals as goal

pub slice_bounds-copy-count : goal.slice_bounds-copy-count
slice_bounds-copy-count c = omega (arith, (c.whole.ensures _ c.in-Some.is).least)

pub slice_bounds-copy-start : goal.slice_bounds-copy-start
slice_bounds-copy-start c = let w = c.whole.ensures _ c.in-Some.is in omega (arith, w.least, w.chunk.front)

pub slice_bounds-copy-end : goal.slice_bounds-copy-end
slice_bounds-copy-end c = let w = c.whole.ensures _ c.in-Some.is in omega (arith, w.least, w.chunk.front)

pub returns-in-Some : goal.returns-in-Some
returns-in-Some c =
    rw (c.copy.ensures)
    (reads_whole c.args.state.now c.if-state-lt-STATE_SIZE.false (search rules) c.args.src.now c.args.staging.now c.args.packet.now c.in-Some.n
    (c.whole.ensures _ c.in-Some.is))

pub slice_bounds-copy-count-in-Some-whole_frame : goal.slice_bounds-copy-count-in-Some-whole_frame
slice_bounds-copy-count-in-Some-whole_frame c = omega (arith, (c.whole_frame.ensures _ c.in-Some-whole_frame.is).least)

pub slice_bounds-copy-start-in-Some-whole_frame : goal.slice_bounds-copy-start-in-Some-whole_frame
slice_bounds-copy-start-in-Some-whole_frame c = let w = c.whole_frame.ensures _ c.in-Some-whole_frame.is in omega (arith, w.least, w.chunk.front)

pub slice_bounds-copy-end-in-Some-whole_frame : goal.slice_bounds-copy-end-in-Some-whole_frame
slice_bounds-copy-end-in-Some-whole_frame c = let w = c.whole_frame.ensures _ c.in-Some-whole_frame.is in omega (arith, w.least, w.chunk.front)

pub returns-in-Some-whole_frame : goal.returns-in-Some-whole_frame
returns-in-Some-whole_frame c =
    let s = c.args.state.now in
    rw (c.copy-in-Some-whole_frame.ensures, get_or-set_other s 1 4 ((get_or s 1 0 + 1) % 256) 0 (λ e. omega arith))
    (reads_whole-frame s c.if-state-lt-STATE_SIZE.false (search rules)
    c.args.src.now c.args.staging.now c.args.packet.now c.in-Some-whole_frame.n (c.whole_frame.ensures _ c.in-Some-whole_frame.is))
