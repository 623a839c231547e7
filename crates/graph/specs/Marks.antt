-- How the code sweeps over marks: how many there are, how they grow, one sweep.
-- Assumes nothing.
use Rattle.std.specs.Prelude.{ℕ, zero, suc, ◌+◌, ◌≡◌, cond, [], ◌∷◌}
use Rattle.graph.specs.Nodes.{Node, targets}
use Rattle.graph.specs.Paths.{Marks, marked, mark_all}

-- how many nodes are marked
unfoldable pub count : Marks → ℕ
count [] = 0
count (mark ∷ marks) = cond mark 1 0 + count marks

-- the marks wanted stand there, and so many of them are new
pub record Grown (before wanted after : Marks) (fresh : ℕ) : Type 0 where
  pub there : after ≡ wanted
  pub new : count after ≡ count before + fresh

-- the marks after a node is looked at: where it is marked, its targets are marked too
unfoldable pub looked_at : (ℕ → Node) → ℕ → Marks → Marks
looked_at graph n marks = cond (marked marks n) (mark_all (targets (graph n)) marks) marks

-- one sweep in place: the nodes below n upward, each with the marks that those before it have set
unfoldable pub swept : (ℕ → Node) → Marks → ℕ → Marks
swept graph marks zero = marks
swept graph marks (suc n) = looked_at graph n (swept graph marks n)
