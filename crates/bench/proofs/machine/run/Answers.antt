-- `bench::run` meets its contract. Assumes nothing.
use Rattle.std.proofs.Common.{refl, sym, ap, ◌∙◌}
use Rattle.std.proofs.lemmas.Result.{err_from_is_err_and}
use Rattle.words.specs.Refusals.{answer_of}
use Rattle.bench.proofs.Checked.{run_refused, run_twelve, run-made}
use Rattle.bench.proofs.machine.run.Goals as goal

pub returns-in_err-check_runnable : goal.returns-in_err-check_runnable
returns-in_err-check_runnable c =
    let p = err_from_is_err_and c.from_residual.result c.from_residual.ensures.1 in
    let left = run_refused _ _ _ _ _ _ _ _ (sym c.check_runnable.ensures ∙ ap answer_of c.in_err-check_runnable.was) in
    rw (p.1, p.2) (record { value = left.0; events_after = left.1 })

pub returns-then-budget-gt-MOST_STEPS : goal.returns-then-budget-gt-MOST_STEPS
returns-then-budget-gt-MOST_STEPS c =
    let checked = sym c.check_runnable.ensures ∙ ap answer_of c.in_ok-check_runnable.was in
    let left = run_twelve _ _ _ _ _ _ checked c.if-budget-gt-MOST_STEPS.true in
    rw c.at.ensures (record { value = left.0; events_after = left.1 })

pub returns : goal.returns
returns c =
    let left = run-made _ _ _ c.one-outcome.result _ refl c.if-budget-gt-MOST_STEPS.false c.place_of.ensures c.one-outcome.ensures in
    record { value = left.0; events_after = left.1 }
