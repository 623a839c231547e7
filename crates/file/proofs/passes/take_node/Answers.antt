-- `file::passes::take_node` meets its contract. The loop's invariant: the words of the file are those taken so far, and then
-- those from here on. Assumes nothing.
use mathlib.Core.Path.{◌∙◌}
use native.Mathlib.Omega.{arith}
use lib.ListN.{length-set}
use Rattle.file.proofs.Filling.{node_first, node_more, node_last}
use Rattle.file.proofs.passes.take_node.Goals as goal

pub loop-word-init : goal.loop-word-init
loop-word-init c left = node_first _ left _ _ _ c.requires c.taken-kind.ensures

pub loop-word-preserved : goal.loop-word-preserved
loop-word-preserved c left =
    let six = c.loop-word.auto.node ∙ simp length-set c.requires in
    c.loop-word.invariant left
    ∙ node_more _ left _ _ _ _ _ _ c.loop-word.auto.word c.loop-word-test.true six c.role_at.ensures c.taken_cell-cell.ensures

pub returns : goal.returns
returns c left =
    c.loop-word.invariant left
    ∙ node_last _ left _ _ _ _ c.loop-word-test.false (omega arith) (c.loop-word.auto.node ∙ simp length-set c.requires)
