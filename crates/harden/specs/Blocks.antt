-- Document 01, "Blocks and signatures": leaders, ranks, blocks, signatures and crossing edges of a source graph,
-- which is its nodes by number, how many they are, and the entry.
-- Assumes nothing.
use Rattle.std.specs.Prelude.{ℕ, zero, suc, ◌+◌, Bool, false, cond, ◌||◌, List, [], ◌∷◌, eqb, ltb, leb}
use Rattle.graph.specs.Nodes.{Node, go, branch, ret, stop, targets}

-- how often a node is among these
abbrev pub among : List ℕ → ℕ → ℕ
among [] n = 0
among (t ∷ ts) n = cond (eqb t n) 1 0 + among ts n

-- the edges into a node from the nodes below m
unfoldable pub edges_into : (ℕ → Node) → ℕ → ℕ → ℕ
edges_into graph zero n = 0
edges_into graph (suc m) n = edges_into graph m n + among (targets (graph m)) n

abbrev pub aims_at : Node → ℕ → Bool
aims_at (branch c a b then else) n = eqb then n || eqb else n
aims_at (go action next) n = false
aims_at (ret a) n = false
aims_at stop n = false

-- whether a branch below m has the node for a target
unfoldable pub branch_to : (ℕ → Node) → ℕ → ℕ → Bool
branch_to graph zero n = false
branch_to graph (suc m) n = branch_to graph m n || aims_at (graph m) n

-- the entry, any target of a branch, or a node with two or more edges into it
unfoldable pub leader : (ℕ → Node) → ℕ → ℕ → ℕ → Bool
leader graph nodes entry n = eqb n entry || (branch_to graph nodes n || leb 2 (edges_into graph nodes n))

-- the last node below m with an edge to n: a node that is no leader has just one
unfoldable pub predecessor : (ℕ → Node) → ℕ → ℕ → ℕ
predecessor graph zero n = 0
predecessor graph (suc m) n = let before = predecessor graph m n in cond (ltb 0 (among (targets (graph m)) n)) m before

-- the leader of a node's block: the node itself, or that of its predecessor
unfoldable pub head_in : (ℕ → Node) → ℕ → ℕ → ℕ → ℕ → ℕ
head_in graph nodes entry zero n = n
head_in graph nodes entry (suc steps) n =
    let further = head_in graph nodes entry steps (predecessor graph nodes n) in
    cond (leader graph nodes entry n) n further

unfoldable pub block_head : (ℕ → Node) → ℕ → ℕ → ℕ → ℕ
block_head graph nodes entry n = head_in graph nodes entry nodes n

-- the leaders below a node: the rank, from 0, of a leader
unfoldable pub rank : (ℕ → Node) → ℕ → ℕ → ℕ → ℕ
rank graph nodes entry zero = 0
rank graph nodes entry (suc n) = rank graph nodes entry n + cond (leader graph nodes entry n) 1 0

-- a plan of signatures, from rank to word; the first plan is 1 plus the rank
abbrev pub Plan : Type 0
Plan = ℕ → ℕ

abbrev pub one_plus_rank : Plan
one_plus_rank r = 1 + r

-- the signature of a node's block
unfoldable pub signature : Plan → (ℕ → Node) → ℕ → ℕ → ℕ → ℕ
signature plan graph nodes entry n = plan (rank graph nodes entry (block_head graph nodes entry n))

-- whether a node's edge crosses: it is no branch, and the edge leads to a leader, even the head of its own block
abbrev pub crosses : (ℕ → Bool) → Node → Bool
crosses is_leader (go action next) = is_leader next
crosses is_leader (branch c a b then else) = false
crosses is_leader (ret a) = false
crosses is_leader stop = false
