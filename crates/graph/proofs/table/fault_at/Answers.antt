-- `table::fault_at` meets its contract. Assumes nothing.
use Rattle.graph.specs.Checks.{fault_at}
use Rattle.graph.proofs.table.fault_at.Goals as goal

pub returns : goal.returns
unfolding fault_at
returns c = rw (c.role_at-role.ensures, c.word-kind.ensures, c.word.ensures) at c.fault.ensures
