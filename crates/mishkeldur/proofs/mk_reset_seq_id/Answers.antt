use Rattle.frame.specs.Codec.{renumbered}
use Rattle.mishkeldur.proofs.mk_reset_seq_id.Goals as goal

pub returns : goal.returns
returns c = c.change_codec.ensures (λ x. renumbered x 0) (λ x y made. made.1)
