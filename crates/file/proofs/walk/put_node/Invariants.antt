-- `file::walk::put_node` meets its contract. The loop's invariant: the bytes of the words from here on are left to be put.
-- Assumes nothing.
use lib.ListN.{drop}
use Rattle.file.specs.Writing.{cells_of}
use Rattle.file.proofs.Writes.{Walking}
use Rattle.file.proofs.walk.put_node.Given as goal

abbrev pub invariant-loop-word : goal.invariant-loop-word
invariant-loop-word l = Walking l.first l.initial.out (cells_of l.node 0 0) l.at l.out (cells_of (drop l.word l.node) l.word l.kind)
