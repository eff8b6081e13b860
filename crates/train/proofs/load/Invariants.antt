-- each turn puts one train at most into the queue
use Rattle.std.proofs.Common.{◌≤◌, length}
use Rattle.train.proofs.load.Given as goal

abbrev pub invariant-loop : goal.invariant-loop
invariant-loop g l = length l.queue.items ≤ l.counter
