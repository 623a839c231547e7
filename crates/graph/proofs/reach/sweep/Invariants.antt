-- `reach::sweep` meets its contract. The loop's invariant: the nodes below n are swept. Assumes nothing.
use Prim.Native.Nat.{◌*◌, ◌≤◌}
use Rattle.graph.specs.Nodes.{node_at}
use Rattle.graph.specs.Marks.{Grown, swept}
use Rattle.graph.proofs.reach.sweep.Given as goal

abbrev pub invariant-loop-n : goal.invariant-loop-n
invariant-loop-n l = Grown l.initial.marks (swept (node_at l.table) l.initial.marks l.n) l.marks l.fresh × (l.fresh ≤ 2 * l.n)
