use Rattle.mishkeldur.proofs.PassLaws.{passes_closed}
use Rattle.mishkeldur.proofs.streams.mk_stream_read.Goals as goal

pub returns-then-stream : goal.returns-then-stream
returns-then-stream c =
    passes_closed _ _ _ _ _ _ c.if-state-lt-STREAM_SIZE.false (rw (← c.load-stream.ensures) c.if-stream.true) c.number_of-then-stream.ensures
