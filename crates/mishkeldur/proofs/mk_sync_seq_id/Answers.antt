use Rattle.codec.specs.Connection.{synced}
use Rattle.mishkeldur.proofs.mk_sync_seq_id.Goals as goal

pub returns : goal.returns
returns c = c.change_codec.ensures synced (λ x y made. made.1)
