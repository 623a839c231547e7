-- Document 01, "The graph": where the edges of a node lead, for each case of the answer.
-- Assumes nothing.
use Rattle.std.specs.Prelude.{ℕ, List, [], ◌∷◌}
use Rattle.graph.specs.declared.Successors.{Successors}
use Rattle.graph.specs.declared.Successors.TheVariants.{None, One, Two}

abbrev pub targets_of : Successors → List ℕ
targets_of None = []
targets_of (One next) = next ∷ []
targets_of (Two then else) = then ∷ else ∷ []
