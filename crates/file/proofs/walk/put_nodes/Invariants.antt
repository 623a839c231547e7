-- `file::walk::put_nodes` meets its contract. The loop's invariant: the bytes of the nodes from here on are left to be put.
-- Assumes nothing.
use mathlib.Core.Path.{◌≡◌}
use Prim.Native.Nat.{◌%◌}
use lib.ListN.{length}
use Rattle.file.specs.Writing.{cells_of}
use Rattle.file.proofs.Writes.{Walking}
use Rattle.file.proofs.walk.put_nodes.Given as goal

abbrev pub invariant-loop-node : goal.invariant-loop-node
invariant-loop-node l =
    let left = l.node-iterator.rest.now in
    (l.node-iterator.size ≡ 6) × (length left % 6 ≡ 0) × Walking l.first l.initial.out (cells_of l.cells 0 0) l.at l.out (cells_of left 0 0)
