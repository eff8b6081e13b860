use Rattle.mishkeldur.proofs.EntryLaws.{reads_closed}
use Rattle.mishkeldur.proofs.read_codec.Goals as goal

pub returns-then-codec : goal.returns-then-codec
returns-then-codec c =
    reads_closed _ _ _ _ _ _ c.requires (rw (← c.load-codec.ensures) c.if-codec.true) c.number_of.ensures
