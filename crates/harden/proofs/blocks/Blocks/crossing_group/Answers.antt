-- `Blocks::crossing_group` meets its contract: one row, then two for the leader. Assumes nothing.
use mathlib.Core.List.{[], ◌∷◌}
use mathlib.Core.Path.{refl}
use Rattle.harden.proofs.Writes.{more_rows, row_written}
use Rattle.harden.proofs.blocks.Blocks.crossing_group.Goals as goal

pub returns : goal.returns
returns c =
    rw (← c.start-e.ensures.at)
    (more_rows _ _ _ (_ ∷ []) _ (row_written _ _ _ c.put_row.ensures (rw (c.sign.ensures, c.sign-2.ensures) at c.prepare.ensures)) c.arrive.ensures refl)
