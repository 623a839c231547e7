-- `reach::reached` meets its contract. The loop's invariant: what is marked is reached, the entry among it. The measure is
-- how many nodes are not marked. Assumes nothing.
use mathlib.Core.Path.{◌∙◌}
use native.Mathlib.Omega.{arith}
use Rattle.graph.proofs.Marking.{count_in}
use Rattle.graph.proofs.Sweeps.{first_length, first_sound, swept_length, swept_sound, swept-reached}
use Rattle.graph.proofs.reach.reached.Goals as goal

pub loop-header-init : goal.loop-header-init
loop-header-init c = (
  first_length _ 256 c.none-marks.ensures c.mark.ensures.grown,
  first_sound _ _ _ 256 c.requires c.none-marks.ensures c.mark.ensures.grown,
)

pub loop-header-smaller : goal.loop-header-smaller
loop-header-smaller c =
    omega (arith, count_in c.sweep.new.marks, swept_length _ _ _ c.sweep.ensures, c.loop-header.invariant.0, c.sweep.ensures.new)

pub loop-header-preserved : goal.loop-header-preserved
loop-header-preserved c = (
  swept_length _ _ _ c.sweep.ensures ∙ c.loop-header.invariant.0,
  swept_sound _ _ _ c.loop-header.invariant.1 c.sweep.ensures,
)

pub returns : goal.returns
returns c =
    swept-reached _ _ _ (omega (arith, c.loop-header.invariant.0)) c.loop-header-test.false c.loop-header.invariant.1 c.sweep.ensures
