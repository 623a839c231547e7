-- Document 01, "The graph": what holds of an accepted graph, node by node. The checks establish it (proofs/Facts.antt).
-- Assumes nothing.
use Rattle.std.specs.Prelude.{ℕ, ◌≤◌, ◌<◌}
use Rattle.graph.specs.Nodes.{Node, go, branch, ret, stop, Action, const, op, input, output, Operand, register, constant}
use Rattle.graph.specs.Paths.{Path}

abbrev pub ActionIn : ℕ → Action → Type 0
ActionIn registers (const d k) = d < registers
ActionIn registers (op o d a b) = (o < 7) × (d < registers) × (a < registers) × (b < registers)
ActionIn registers (input d) = d < registers
ActionIn registers (output port a) = (port < 256) × (a < registers)

abbrev pub OperandIn : ℕ → Operand → Type 0
OperandIn registers (register b) = b < registers
OperandIn registers (constant k) = Unit {0}

-- a node whose registers are below R and whose targets are below N
abbrev pub NodeIn : ℕ → ℕ → Node → Type 0
NodeIn registers nodes (go action next) = ActionIn registers action × (next < nodes)
NodeIn registers nodes (branch c a b then else) = (c < 6) × (a < registers) × OperandIn registers b × (then < nodes) × (else < nodes)
NodeIn registers nodes (ret a) = a < registers
NodeIn registers nodes stop = Unit {0}

-- a runnable graph
pub record RunnableGraph (registers nodes entry : ℕ) (graph : ℕ → Node) : Type 0 where
  pub some_registers : 1 ≤ registers
  pub few_registers : registers ≤ 64
  pub few_nodes : nodes ≤ 2050
  pub entry_in : entry < nodes
  pub node_in : (n : ℕ) → n < nodes → NodeIn registers nodes (graph n)

abbrev pub NoCatch : Node → Type 0
NoCatch (go action next) = Unit {0}
NoCatch (branch c a b then else) = Unit {0}
NoCatch (ret a) = Unit {0}
NoCatch stop = ⊥

-- a source graph
pub record SourceGraph (registers nodes entry : ℕ) (graph : ℕ → Node) : Type 0 where
  pub some_registers : 1 ≤ registers
  pub few_registers : registers ≤ 62
  pub few_nodes : nodes ≤ 256
  pub entry_in : entry < nodes
  pub node_in : (n : ℕ) → n < nodes → NodeIn registers nodes (graph n)
  pub no_catch : (n : ℕ) → n < nodes → NoCatch (graph n)
  pub path : (n : ℕ) → n < nodes → Path graph entry n
