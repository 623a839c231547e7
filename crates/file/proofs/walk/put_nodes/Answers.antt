-- `file::walk::put_nodes` meets its contract. The loop's invariant: the bytes of the nodes from here on are left to be put.
-- Assumes nothing.
use mathlib.Core.Path.{refl, ap, ◌∙◌}
use native.Mathlib.Omega.{arith}
use lib.ListN.{length, length-append}
use Rattle.file.proofs.Writes.{cells_short, node_more, nodes_none, walk_first, walk_more, walk_end}
use Rattle.file.proofs.walk.put_nodes.Goals as goal

pub loop-node-init : goal.loop-node-init
loop-node-init c =
    rw (c.into_iter-node-iterator.ensures.into_iter_gives, c.chunks_exact-node-items.ensures.rest, c.chunks_exact-node-items.ensures.size)
    (refl, c.requires.2, walk_first _ _ _ _ refl)

pub put_node-at-requires : goal.put_node-at-requires
put_node-at-requires c = (
  omega (arith, c.requires.0, c.requires.1, cells_short c.args.cells.now 0 0, c.loop-node.invariant.2.size),
  c.in-Some.ensures.steps.1.1 ∙ c.loop-node.invariant.0,
)

pub loop-node-preserved : goal.loop-node-preserved
loop-node-preserved c =
    let steps = c.in-Some.ensures.steps in
    let six = steps.1.1 ∙ c.loop-node.invariant.0 in (
      steps.0 ∙ c.loop-node.invariant.0,
      omega (arith, c.loop-node.invariant.1, ap length steps.1.0, length-append c.in-Some.node.now c.next.new.self.rest.now, six),
      walk_more c.loop-node.invariant.2 _ _ _ _ (node_more _ _ _ steps.1.0 six) c.put_node-at.ensures.value c.put_node-at.ensures.out_after,
    )

pub returns : goal.returns
returns c =
    let none = nodes_none _ _ c.in-None.ensures.steps.1.0 c.loop-node.invariant.0 c.loop-node.invariant.1 in
    let end = walk_end c.loop-node.invariant.2 none in
    record { value = end.0; out_after = end.1 }
