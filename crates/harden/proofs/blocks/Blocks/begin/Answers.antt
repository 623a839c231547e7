-- `Blocks::begin` meets its contract: one row after the other. Assumes nothing.
use mathlib.Core.List.{[], ◌∷◌}
use mathlib.Core.Path.{refl}
use Rattle.harden.specs.Hardened.{first_row}
use Rattle.harden.proofs.Writes.{more_rows, row_written}
use Rattle.harden.proofs.blocks.Blocks.begin.Goals as goal

pub returns : goal.returns
unfolding first_row
returns c =
    more_rows _ _ _ (_ ∷ []) (_ ∷ []) (row_written _ _ _ c.put_row.ensures (rw c.sign.ensures refl)) (row_written _ _ _ c.put_row-2.ensures refl) refl
