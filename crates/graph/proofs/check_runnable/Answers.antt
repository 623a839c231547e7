-- `check_runnable` meets its contract. Assumes nothing.
use Rattle.graph.specs.Checks.{runnable_check}
use Rattle.graph.proofs.check_runnable.Goals as goal

pub returns : goal.returns
unfolding runnable_check
returns c = rw c.runnable.ensures at c.check.ensures
