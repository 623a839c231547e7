-- What the check of a runner's graph says of its nodes, and of the state that its runs start in.
-- Assumes nothing.
use Rattle.std.proofs.Common.{ℕ, ◌*◌, ◌<◌, ◌≤◌, length, arith}
use Rattle.graph.specs.Nodes.{Node, go, branch, ret, stop, const, op, input, output, register, constant, node_at}
use Rattle.graph.specs.Accepted.{NodeIn, RunnableGraph}
use Rattle.graph.proofs.Facts.{runnable_facts, runnable_room}
use Rattle.bench.specs.Steps.{start}
use Rattle.bench.specs.Ready.{Ready, first_point}
use Rattle.bench.specs.declared.runner.Runner.{Runner}

-- registers below R are below 64
node_in_more : (registers nodes : ℕ) → registers ≤ 64 → (node : Node) → NodeIn registers nodes node → NodeIn 64 nodes node
node_in_more registers nodes h (go (const d k) next) i = (omega arith, i.1)
node_in_more registers nodes h (go (op o d a b) next) i =
    let o = i.0 in ((o.0, omega arith, omega arith, omega arith), i.1)
node_in_more registers nodes h (go (input d) next) i = (omega arith, i.1)
node_in_more registers nodes h (go (output port a) next) i = let o = i.0 in ((o.0, omega arith), i.1)
node_in_more registers nodes h (branch c a (register b) then else) i = (i.0, omega arith, omega arith, i.3, i.4)
node_in_more registers nodes h (branch c a (constant k) then else) i = (i.0, omega arith, tt, i.3, i.4)
node_in_more registers nodes h (ret a) i = omega arith
node_in_more registers nodes h stop i = tt

module _ (r : Runner) where
  facts : RunnableGraph r.header.registers r.header.nodes r.header.entry (node_at r.table.now)
  facts = runnable_facts r.header.registers r.header.nodes r.header.entry r.table.now r.checked

  pub few_nodes : r.header.nodes ≤ 2050
  few_nodes = facts.few_nodes

  pub rows_in : 6 * r.header.nodes ≤ length r.table.now
  rows_in = runnable_room r.header.registers r.header.nodes r.header.entry r.table.now r.checked

  pub node_in : (n : ℕ) → n < r.header.nodes → NodeIn 64 r.header.nodes (node_at r.table.now n)
  node_in n h = node_in_more r.header.registers r.header.nodes facts.few_registers (node_at r.table.now n) (facts.node_in n h)

  -- a run may start at the entry
  pub ready_start : Ready r (first_point r).state
  unfolding start
  ready_start = record { node = facts.entry_in; in_budget = omega arith; branches = omega arith; reads = omega arith }
