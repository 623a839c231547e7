-- `reach::look_at` meets its contract. Assumes nothing.
use mathlib.Core.Bool.{true}
use mathlib.Core.List.{[], ◌∷◌}
use lib.ListN.{set}
use Rattle.graph.specs.Paths.{Marks}
use borrow.Author.Rules.{rules}
use Rattle.graph.proofs.Growing.{look_marked, grown_none, grown_then}
use Rattle.graph.proofs.reach.look_at.Goals as goal

pub returns-in-None-clause-grown : goal.returns-in-None-clause-grown
returns-in-None-clause-grown c =
    look_marked _ _ _ [] (search rules) (rw c.in-None.is at c.targets.ensures) (grown_none _)

pub returns-in-One-clause-grown : goal.returns-in-One-clause-grown
returns-in-One-clause-grown c =
    look_marked _ _ _ (_ ∷ []) (search rules) (rw c.in-One.is at c.targets.ensures) c.mark.ensures.grown

pub returns-in-Two-clause-grown : goal.returns-in-Two-clause-grown
returns-in-Two-clause-grown c =
    look_marked _ _ _ (_ ∷ _ ∷ []) (search rules) (rw c.in-Two.is at c.targets.ensures)
    (grown_then (λ (marks : Marks). set marks c.in-Two.other true) c.mark-in-Two.ensures.grown c.mark-in-Two-2.ensures.grown)
