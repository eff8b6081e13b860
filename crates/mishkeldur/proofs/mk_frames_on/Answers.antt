use Rattle.codec.specs.Connection.{frames_on}
use Rattle.mishkeldur.proofs.mk_frames_on.Goals as goal

pub returns : goal.returns
returns c = c.change_codec.ensures frames_on (λ x y made. made.1)
