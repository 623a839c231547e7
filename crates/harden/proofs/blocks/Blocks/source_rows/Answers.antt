-- `Blocks::source_rows` meets its contract: one row more. Assumes nothing.
use Rattle.harden.proofs.Turns.{source-next}
use Rattle.harden.proofs.blocks.Blocks.source_rows.Goals as goal

pub loop-n-preserved : goal.loop-n-preserved
loop-n-preserved c = source-next _ _ _ c.loop-n.invariant c.own_row.ensures
