use Rattle.escape.proofs.PutLaws.{marks_tell, marks_second}
use native.Mathlib.Omega.{arith}
use Rattle.escape.proofs.LongPut.put.Goals as goal

pub put_pair-requires : goal.put_pair-requires
put_pair-requires c =
    let all = c.args.self.now in
    let b = c.args.b in
    (c.requires.0, marks_tell all.marks.now all.right b (omega arith), marks_second all.marks.now all.right b (omega arith))
