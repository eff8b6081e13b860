use Rattle.chunk.specs.WriteLaws.{write-closed, write_large, write_no_room, write-whole}
use Rattle.chunk.specs.Chunks.{largest}
use Rattle.std.proofs.Common.{arith}
use Rattle.chunk.proofs.packet_to_chunks.Goals as goal

pub returns-then-codec : goal.returns-then-codec
returns-then-codec c =
    let a = c.args in
    rw (write-closed largest a.codec a.packet.now a.dst.now c.if-codec.true, c.unsent.ensures)

pub returns-then-codec-packet : goal.returns-then-codec-packet
returns-then-codec-packet c =
    let a = c.args in
    rw (write_large largest a.codec a.packet.now a.dst.now c.if-codec.false c.if-codec-packet.true, c.unsent-then-codec-packet.ensures)

pub returns-then-dst-n : goal.returns-then-dst-n
returns-then-dst-n c =
    let within = c in
    let live = within in
    let a = live.args in
    let n = c.chunks_len-n.ensures in
    rw (write_no_room largest a.codec a.packet.now a.dst.now live.if-codec.false within.if-codec-packet.false (omega (arith, n)), c.unsent-then-dst-n.ensures)

pub returns : goal.returns
returns c =
    let sized = c in
    let within = sized in
    let live = within in
    let a = live.args in
    let n = sized.chunks_len-n.ensures in
    let p = c.put_chunks-number.ensures in
    rw (write-whole largest a.codec a.packet.now a.dst.now live.if-codec.false within.if-codec-packet.false (omega (arith, n)), n, p.0, p.1)
