use Rattle.chunk.specs.ReadLaws.{turn_short, turn_headed, turn_held}
use Rattle.chunk.specs.Chunks.{largest}
use Rattle.std.proofs.Common.{sym, ◌∙◌}
use Rattle.chunk.proofs.reader.turn.Goals as goal

pub returns-then-st : goal.returns-then-st
returns-then-st c =
    let a = c.args in
    c.chunk.ensures ∙ sym (turn_held largest a.x a.st a.src.now a.dst.now a.st.len a.st.ahead
    (rw c.if-st.true))

pub returns-then-src-lt4 : goal.returns-then-src-lt4
returns-then-src-lt4 c =
    let a = c.args in
    rw (turn_short largest a.x a.st a.src.now a.dst.now (rw c.if-st.false) c.if-src-lt4.true, c.stop.ensures)

pub returns : goal.returns
returns c =
    let a = c.args in
    c.headed_chunk.ensures ∙ sym
    (turn_headed largest a.x a.st a.src.now a.dst.now (rw c.if-st.false)
    c.if-src-lt4.false)
