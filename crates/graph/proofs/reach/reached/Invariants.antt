-- `reach::reached` meets its contract. The loop's invariant: what is marked is reached, the entry among it. The measure is
-- how many nodes are not marked. Assumes nothing.
use mathlib.Core.Path.{◌≡◌}
use Prim.Native.Nat.{◌-◌}
use lib.ListN.{length}
use Rattle.graph.specs.Nodes.{node_at}
use Rattle.graph.specs.Marks.{count}
use Rattle.graph.proofs.Sweeps.{Sound}
use Rattle.graph.proofs.reach.reached.Given as goal

abbrev pub invariant-loop-header : goal.invariant-loop-header
invariant-loop-header l = (length l.marks ≡ 256) × Sound (node_at l.table) l.header.nodes l.header.entry l.marks

abbrev pub decreases-loop-header : goal.decreases-loop-header
decreases-loop-header l = 256 - count l.marks
