-- `reach::sweep` meets its contract. The loop's invariant: the nodes below n are swept. Assumes nothing.
use native.Mathlib.Omega.{arith}
use borrow.Author.Rules.{rules}
use Rattle.graph.specs.Marks.{swept}
use Rattle.graph.proofs.Growing.{grown_none}
use Rattle.graph.proofs.Sweeps.{swept_more}
use Rattle.graph.proofs.reach.sweep.Goals as goal

pub loop-n-init : goal.loop-n-init
unfolding swept
loop-n-init c = (grown_none _, omega arith)

pub overflow_add-fresh : goal.overflow_add-fresh
overflow_add-fresh c = omega (arith, c.loop-n.invariant.1, c.look_at-fresh.ensures.few)

pub loop-n-preserved : goal.loop-n-preserved
loop-n-preserved c = (
  swept_more _ _ _ c.loop-n.invariant.0 c.look_at-fresh.ensures.grown,
  omega (arith, c.loop-n.invariant.1, c.look_at-fresh.ensures.few),
)

pub returns : goal.returns
returns c = search (rules, c.loop-n.invariant.0)
