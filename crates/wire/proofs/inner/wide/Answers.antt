use Rattle.wire.specs.RoomLaws.{run_and_words}
use Rattle.std.proofs.Common.{arith, ◌+◌, ◌-◌, ◌*◌, ◌/◌, ◌%◌, length}
use Rattle.wire.proofs.inner.wide.Goals as goal

pub returns : goal.returns
returns c =
    let a = c.args in
    let n = length a.src.now in
    let lead = 16 - a.at % 16 in
    run_and_words a.dst.now a.at a.src.now c.requires.1 lead (lead + (n - lead) / 32 * 32)
    c.word.ensures c.run.ensures c.word-2.ensures c.word-3.ensures c.requires.0 (omega arith) (omega arith) (omega arith) (omega arith)
