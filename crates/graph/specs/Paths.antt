-- Document 01, "The graph": every node of a source is reachable from the entry by some path of edges, the entry by the empty one.
-- `Path` says it; `reached` computes it, in rounds that each follow one edge more.
-- Assumes nothing.
use Rattle.std.specs.Prelude.{ℕ, zero, suc, Bool, true, false, cond, get_or, set, replicate}
use mathlib.Core.List.{List, [], ◌∷◌, Memᴰ}
use Rattle.graph.specs.Nodes.{Node, targets}

-- a path of edges from the entry
pub data Path (graph : ℕ → Node) (entry : ℕ) : ℕ → Type 0 where
  empty : Path graph entry entry
  along : {m n : ℕ} → Path graph entry m → Memᴰ n (targets (graph m)) → Path graph entry n

-- a path of so many edges from the entry
pub data PathIn (graph : ℕ → Node) (entry : ℕ) : ℕ → ℕ → Type 0 where
  start : PathIn graph entry zero entry
  onward : {edges m n : ℕ} → PathIn graph entry edges m → Memᴰ n (targets (graph m)) → PathIn graph entry (suc edges) n

-- marks, one a node
abbrev pub Marks : Type 0
Marks = List Bool

abbrev pub marked : Marks → ℕ → Bool
marked marks n = get_or marks n false

abbrev pub mark_all : List ℕ → Marks → Marks
mark_all [] marks = marks
mark_all (n ∷ ns) marks = mark_all ns (set marks n true)

-- the marks, and with them what the edges of the marked nodes below n lead to
unfoldable pub followed : (ℕ → Node) → Marks → ℕ → Marks
followed graph marks zero = marks
followed graph marks (suc n) =
    let before = followed graph marks n in
    let more = mark_all (targets (graph n)) before in
    cond (marked marks n) more before

-- what is reached from the entry within so many edges
unfoldable pub reached_in : (ℕ → Node) → ℕ → ℕ → ℕ → Marks
reached_in graph nodes entry zero = set (replicate nodes false) entry true
reached_in graph nodes entry (suc edges) = let marks = reached_in graph nodes entry edges in followed graph marks nodes

-- the nodes that some path reaches: no shortest path has more edges than there are nodes
unfoldable pub reached : (ℕ → Node) → ℕ → ℕ → Marks
reached graph nodes entry = reached_in graph nodes entry nodes
