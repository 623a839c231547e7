-- `Blocks::branch_group` meets its contract: three rows, then two for each target. Assumes nothing.
use mathlib.Core.List.{[], ◌∷◌}
use mathlib.Core.Path.{refl}
use Rattle.harden.proofs.Writes.{more_rows, row_written}
use Rattle.harden.proofs.blocks.Blocks.branch_group.Goals as goal

pub returns : goal.returns
returns c =
    rw (← c.start-e.ensures.at)
    (more_rows _ _ _ (_ ∷ _ ∷ _ ∷ _ ∷ _ ∷ []) (_ ∷ _ ∷ [])
    (more_rows _ _ _ (_ ∷ _ ∷ _ ∷ []) (_ ∷ _ ∷ [])
    (more_rows _ _ _ (_ ∷ _ ∷ []) (_ ∷ [])
    (more_rows _ _ _ (_ ∷ []) (_ ∷ [])
    (row_written _ _ _ c.put_row.ensures (rw (c.sign-s.ensures, c.sign.ensures) at c.prepare.ensures))
    (row_written _ _ _ c.put_row-2.ensures (rw (c.sign-s.ensures, c.sign-2.ensures) at c.prepare-2.ensures)) refl)
    (row_written _ _ _ c.put_row-3.ensures c.redirected.ensures) refl)
    c.arrive.ensures refl)
    c.arrive-2.ensures refl)
