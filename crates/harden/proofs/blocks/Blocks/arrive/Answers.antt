-- `Blocks::arrive` meets its contract: one row after the other. Assumes nothing.
use mathlib.Core.List.{[], ◌∷◌}
use mathlib.Core.Path.{refl}
use Rattle.harden.proofs.Writes.{more_rows, row_written}
use Rattle.harden.proofs.blocks.Blocks.arrive.Goals as goal

pub returns : goal.returns
returns c =
    more_rows _ _ _ (_ ∷ []) (_ ∷ []) (row_written _ _ _ c.put_row.ensures c.update.ensures)
    (row_written _ _ _ c.put_row-2.ensures (rw c.sign.ensures at c.check.ensures)) refl
