use Rattle.escape.proofs.PutLaws.{slots_tell, slots_second}
use Rattle.escape.proofs.ShortPut.put.Goals as goal

pub put_pair-requires : goal.put_pair-requires
put_pair-requires c =
    let short = c.args.self.now in
    let b = c.args.b in
    (c.requires.0, slots_tell short.marks.now short.right b, slots_second short.marks.now short.right b)
