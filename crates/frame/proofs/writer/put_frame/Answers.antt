use Rattle.frame.proofs.Writing.{frame_put}
use Rattle.frame.proofs.writer.put_frame.Goals as goal

pub returns : goal.returns
returns c = frame_put _ _ _ _ _ _ _ _ c.requires.0 c.requires.1 c.put_le.ensures c.put_le-2.ensures c.shift_left.ensures
