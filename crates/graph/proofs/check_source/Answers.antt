-- `check_source` meets its contract. Assumes nothing.
use mathlib.Core.Path.{◌∙◌}
use Rattle.std.proofs.lemmas.Result.{err_from_is_err_and}
use Rattle.graph.proofs.Sources.{source_refused, source_few, source_accepted}
use Rattle.graph.proofs.check_source.Goals as goal

pub returns-in_err-check : goal.returns-in_err-check
returns-in_err-check c =
    let p = err_from_is_err_and c.from_residual.result c.from_residual.ensures.1 in
    rw (p.1, p.2) (source_refused _ _ _ _ (rw c.source.ensures at c.check.ensures) c.in_err-check.was)

pub reached-requires : goal.reached-requires
reached-requires c = source_few _ _ _ _ (rw c.source.ensures at c.check.ensures) c.in_ok-check.was

pub returns : goal.returns
returns c =
    c.lowest_unmarked.ensures ∙ source_accepted _ _ _ _ (rw c.source.ensures at c.check.ensures) _ c.in_ok-check.was c.reached.ensures
