use Rattle.std.proofs.Common.{refl, arith}
use Rattle.wire.specs.TableLaws.{every}
use Rattle.value.specs.Kinds.{kind_of}
use Rattle.row.specs.declared.TheConstants.{STEPS}
use Rattle.row.proofs.StepLaws.{steps_are}
use Rattle.row.proofs.step_of.Goals as goal

pub returns : goal.returns
unfolding every kind_of
returns c = (steps_are STEPS refl refl).right c.args.t (omega arith)
