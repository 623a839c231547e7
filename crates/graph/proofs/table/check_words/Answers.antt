-- `table::check_words` meets its contract. The loop's invariant: the check of all the words is the check from here on.
-- Assumes nothing.
use mathlib.Core.Path.{sym, ◌∙◌}
use native.Mathlib.Omega.{arith}
use Rattle.words.proofs.Reasons.{reason_some}
use Rattle.graph.specs.Checks.{words_from}
use Rattle.graph.proofs.Words.{words_pass, words_stop, words_end}
use Rattle.graph.proofs.table.check_words.Goals as goal

pub returns-in-Err : goal.returns-in-Err
returns-in-Err c =
    rw c.at.ensures
    (sym (c.loop-i.invariant ∙ words_stop _ _ _ _ _ _ _ c.loop-i-test.true (rw c.in-Err.is at c.fault_at.ensures) (reason_some c.in-Err.reason)))

pub loop-i-preserved : goal.loop-i-preserved
loop-i-preserved c =
    c.loop-i.invariant ∙ words_pass _ _ _ _ _ _ _ c.loop-i-test.true (rw c.in_default.is at c.fault_at.ensures) (omega arith)

pub returns : goal.returns
unfolding words_from
returns c = sym (c.loop-i.invariant ∙ words_end _ _ _ _ _ _ c.loop-i.auto.i-end c.loop-i-test.false)
