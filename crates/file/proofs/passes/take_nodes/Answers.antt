-- `file::passes::take_nodes` meets its contract. The loop's invariant: the words from the first on, put into the table that was
-- lent, are those of the nodes from here on put into the table as it is. Assumes nothing.
use mathlib.Core.Path.{sym, ◌∙◌}
use native.Mathlib.Omega.{arith}
use lib.ListN.{length, length-take, length-drop}
use Rattle.file.proofs.Filling.{nodes_more, nodes_none}
use Rattle.std.proofs.Common.{◌≤◌, ◌*◌, ◌≡◌}
use Rattle.file.proofs.passes.take_nodes.Goals as goal

pub loop-n-preserved : goal.loop-n-preserved
loop-n-preserved c =
    let room : 6 * c.args.nodes ≤ length c.loop-n.table = omega arith in
    let six : length c.take_node-at.new.node ≡ 6 = c.take_node-at.auto.node ∙ simp (length-take, length-drop) (omega arith) in
    c.loop-n.invariant ∙ nodes_more _ _ _ _ _ _ _ c.loop-n-test.true room six c.take_node-at.ensures

pub returns : goal.returns
returns c = sym (c.loop-n.invariant ∙ nodes_none _ _ _ _ _ c.loop-n-test.false)
