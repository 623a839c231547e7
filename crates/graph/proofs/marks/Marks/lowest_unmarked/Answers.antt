-- `Marks::lowest_unmarked` meets its contract. The loop's invariant: the search among all the nodes is the search from here on.
-- Assumes nothing.
use mathlib.Core.Path.{sym, ◌∙◌}
use Rattle.graph.proofs.Unmarked.{unmarked_pass, unmarked_stop, unmarked_end}
use Rattle.graph.proofs.marks.Marks.lowest_unmarked.Goals as goal

pub returns-then-not-has : goal.returns-then-not-has
returns-then-not-has c =
    rw c.at.ensures (sym (c.loop-n.invariant ∙ unmarked_stop _ _ _ c.loop-n-test.true (sym c.has.ensures ∙ c.if-not-has.true)))

pub loop-n-preserved : goal.loop-n-preserved
loop-n-preserved c = c.loop-n.invariant ∙ unmarked_pass _ _ _ c.loop-n-test.true (sym c.has.ensures ∙ c.if-not-has.false)

pub returns : goal.returns
returns c = sym (c.loop-n.invariant ∙ unmarked_end _ _ _ c.loop-n-test.false)
