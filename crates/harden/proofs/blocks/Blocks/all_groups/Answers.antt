-- `Blocks::all_groups` meets its contract: one group more. Assumes nothing.
use Rattle.harden.proofs.Turns.{groups-next}
use Rattle.harden.proofs.blocks.Blocks.all_groups.Goals as goal

pub loop-n-preserved : goal.loop-n-preserved
loop-n-preserved c = groups-next _ _ _ c.loop-n.invariant c.group.ensures
