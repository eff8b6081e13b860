use Rattle.escape.proofs.PutLaws.{marks_of}
use Rattle.escape.specs.Quote.{behind}
use Rattle.wire.specs.TableLaws.{every}
use mathlib.Core.Path.{refl}
use Rattle.escape.proofs.put_all.Goals as goal

pub invariant_of-put_turns : goal.invariant_of-put_turns
unfolding every behind
invariant_of-put_turns c = record { right = marks_of _ refl refl }
