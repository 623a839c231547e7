-- `Marks::mark` meets its contract. Assumes nothing.
use native.Mathlib.Omega.{arith}
use Rattle.graph.proofs.Growing.{mark_past, mark_old, mark_new}
use Rattle.graph.proofs.marks.Marks.mark.Goals as goal

pub returns-then-n-ge256-clause-grown : goal.returns-then-n-ge256-clause-grown
returns-then-n-ge256-clause-grown c = rw (← c.self.view_is) (mark_past _ _ (omega (arith, c.self.told)))

pub returns-then-marks-n-clause-grown : goal.returns-then-marks-n-clause-grown
returns-then-marks-n-clause-grown c = rw (← c.self.view_is) (mark_old _ _ c.if-marks-n.true)

pub returns-clause-grown : goal.returns-clause-grown
returns-clause-grown c = rw (← c.self.view_is) (mark_new _ _ (omega (arith, c.self.told)) c.if-marks-n.false)
