-- `file::passes::check_fields` meets its contract. The loop's invariant: the fields from the first on end, or are refused,
-- as those from here on. Assumes nothing.
use mathlib.Core.Path.{sym, ◌∙◌}
use Rattle.file.proofs.Thens.{left_as}
use Rattle.file.proofs.Checking.{field_more, field_none}
use Rattle.file.proofs.passes.check_fields.Goals as goal

pub returns-in_err-cell : goal.returns-in_err-cell
returns-in_err-cell c =
    let more = field_more _ _ _ _ _ _ c.loop-word.auto.word c.loop-word-test.true c.role_at.ensures in
    left_as _ _ c.from_residual.ensures.1 ∙ sym (c.loop-word.invariant ∙ more ∙ rw (← c.in_err-cell.ensures))

pub loop-word-preserved : goal.loop-word-preserved
loop-word-preserved c =
    let more = field_more _ _ _ _ _ _ c.loop-word.auto.word c.loop-word-test.true c.role_at.ensures in
    c.loop-word.invariant ∙ more ∙ rw (← c.in_ok-cell.ensures)

pub returns : goal.returns
returns c = sym (c.loop-word.invariant ∙ field_none _ _ _ _ _ c.loop-word-test.false)
