use Rattle.escape.proofs.PutLaws.{slots}
use Rattle.escape.proofs.put_marked.Goals as goal

pub invariant_of-put_each : goal.invariant_of-put_each
invariant_of-put_each c = record { right = slots }
