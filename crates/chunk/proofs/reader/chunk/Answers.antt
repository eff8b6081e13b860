use Rattle.chunk.specs.ReadLaws.{chunk-short, chunk_sync, chunk_no_room, chunk-took}
use Rattle.chunk.specs.Chunks.{largest}
use Rattle.std.proofs.Common.{◌+◌, ◌<◌, ◌≤◌, length, sym, ◌∙◌, arith, ltb-false, ltb-true}
use Rattle.chunk.proofs.reader.chunk.Goals as goal

pub returns-then-exceeds : goal.returns-then-exceeds
returns-then-exceeds c =
    let a = c.args in
    let t = ltb-true (length a.src.now) (4 + a.len) (sym c.exceeds.ensures ∙ c.if-exceeds.true) in
    let h : length a.src.now < a.len + 4 = omega (arith, t) in
    rw (chunk-short largest a.x a.st a.len a.number a.src.now a.dst.now h, c.stop.ensures)

pub returns-then-not-accepts : goal.returns-then-not-accepts
returns-then-not-accepts c =
    let there = c in
    let a = there.args in
    let t = ltb-false (length a.src.now) (4 + a.len) (sym there.exceeds.ensures ∙ there.if-exceeds.false) in
    let h : a.len + 4 ≤ length a.src.now = omega (arith, t) in
    let other = sym c.accepts.ensures ∙ c.if-not-accepts.true in
    rw (chunk_sync largest a.x a.st a.len a.number a.src.now a.dst.now h other, c.stop-then-not-accepts.ensures)

pub returns-then-exceeds-2 : goal.returns-then-exceeds-2
returns-then-exceeds-2 c =
    let right = c in
    let there = right in
    let a = there.args in
    let t = ltb-false (length a.src.now) (4 + a.len) (sym there.exceeds.ensures ∙ there.if-exceeds.false) in
    let h : a.len + 4 ≤ length a.src.now = omega (arith, t) in
    let same = sym right.accepts.ensures ∙ right.if-not-accepts.false in
    let over = ltb-true _ _ (sym c.exceeds-2.ensures ∙ c.if-exceeds-2.true) in
    rw (chunk_no_room largest a.x a.st a.len a.number a.src.now a.dst.now h same over, c.stop-then-exceeds-2.ensures)

pub returns : goal.returns
returns c =
    let p = c in
    let a = p.args in
    let t = ltb-false (length a.src.now) (4 + a.len) (sym p.exceeds.ensures ∙ p.if-exceeds.false) in
    let whole : a.len + 4 ≤ length a.src.now = omega (arith, t) in
    let fits = ltb-false _ _ (sym p.exceeds-2.ensures ∙ p.if-exceeds-2.false) in
    let right = p in
    let same = sym right.accepts.ensures ∙ right.if-not-accepts.false in
    c.take_chunk.ensures
    ∙ sym (chunk-took largest a.x a.st a.len a.number a.src.now a.dst.now whole same fits)
