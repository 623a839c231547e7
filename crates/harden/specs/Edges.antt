-- Document 01, "Blocks and signatures", as relations: edges, the three clauses of a leader, the one predecessor of any other node,
-- and crossing edges. The definitions of specs/Blocks.antt compute just these (proofs/Leaders.antt, proofs/Crossings.antt).
-- Assumes nothing.
use Rattle.std.specs.Prelude.{ℕ, ◌<◌, ◌≡◌, true, false, length, get_or}
use Rattle.graph.specs.Nodes.{Node, go, Action, targets}
use Rattle.harden.specs.Blocks.{Plan, block_head, signature}
use Rattle.harden.specs.Hardened.{is_branch}

-- the edge of node m in slot j leads to n
pub record Edge (graph : ℕ → Node) (nodes m j n : ℕ) : Type 0 where
  pub inside : m < nodes
  pub slot : j < length (targets (graph m))
  pub leads : get_or (targets (graph m)) j 0 ≡ n

-- two edges into a node, from two nodes or in two slots of one
pub record TwoEdges (graph : ℕ → Node) (nodes n : ℕ) : Type 0 where
  pub from₁ : ℕ
  pub slot₁ : ℕ
  pub from₂ : ℕ
  pub slot₂ : ℕ
  pub first : Edge graph nodes from₁ slot₁ n
  pub second : Edge graph nodes from₂ slot₂ n
  pub apart : from₁ ≡ from₂ → slot₁ ≡ slot₂ → ⊥

-- the entry, any target of a branch, or a node with two or more edges into it
pub data Leader (graph : ℕ → Node) (nodes entry n : ℕ) : Type 0 where
  is_entry : n ≡ entry → Leader graph nodes entry n
  branch_target : (m j : ℕ) → is_branch (graph m) ≡ true → Edge graph nodes m j n → Leader graph nodes entry n
  many_edges : TwoEdges graph nodes n → Leader graph nodes entry n

-- another node has one predecessor, no branch, and lies in that node's block; so it has its signature by any plan
pub record Inside (graph : ℕ → Node) (nodes entry n : ℕ) : Type 0 where
  pub from : ℕ
  pub action : Action
  pub below : from < nodes
  pub edge : graph from ≡ go action n
  pub only : (m j : ℕ) → Edge graph nodes m j n → m ≡ from
  pub block : block_head graph nodes entry n ≡ block_head graph nodes entry from
  pub signed : (plan : Plan) → signature plan graph nodes entry n ≡ signature plan graph nodes entry from

-- an edge from a node that is no branch to a leader
pub record CrossingEdge (graph : ℕ → Node) (nodes entry m l : ℕ) : Type 0 where
  pub no_branch : is_branch (graph m) ≡ false
  pub edge : Edge graph nodes m 0 l
  pub to : Leader graph nodes entry l

-- a plan that gives different ranks below 256 different signatures
abbrev pub Distinct : Plan → Type 0
Distinct plan = (q r : ℕ) → q < 256 → r < 256 → plan q ≡ plan r → q ≡ r
