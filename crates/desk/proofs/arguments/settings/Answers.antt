-- `desk::arguments::settings` meets its contract.
-- Assumes nothing.
use Rattle.std.proofs.Common.{arith}
use Rattle.desk.proofs.Cells.{settings_ready}
use Rattle.desk.proofs.arguments.settings.Goals as goal

pub returns : goal.returns
returns c = settings_ready c.args.cells.now _ (grind arith) (grind arith) (grind arith)
