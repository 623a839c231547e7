-- `bench::campaign` meets its contract. Assumes nothing.
use Rattle.std.proofs.Common.{refl, sym, ap, ◌∙◌}
use Rattle.std.proofs.lemmas.Result.{err_from_is_err_and}
use Rattle.words.specs.Refusals.{answer_of}
use Rattle.bench.proofs.Campaigned.{campaign_refused, campaign_twelve, campaign_fourteen, campaign_scored}
use Rattle.bench.proofs.campaigns.campaign.Goals as goal

pub returns-in_err-check_runnable : goal.returns-in_err-check_runnable
returns-in_err-check_runnable c =
    let p = err_from_is_err_and c.from_residual.result c.from_residual.ensures.1 in
    let left = campaign_refused _ _ _ _ _ _ _ _ (sym c.check_runnable.ensures ∙ ap answer_of c.in_err-check_runnable.was) in
    rw (p.1, p.2) (record { result_value = left.0; first_after = left.1.0; second_after = left.1.1 })

pub returns-then-budget-gt-MOST_STEPS : goal.returns-then-budget-gt-MOST_STEPS
returns-then-budget-gt-MOST_STEPS c =
    let checked = sym c.check_runnable.ensures ∙ ap answer_of c.in_ok-check_runnable.was in
    let left = campaign_twelve _ _ _ _ _ _ checked c.if-budget-gt-MOST_STEPS.true in
    rw c.at.ensures (record { result_value = left.0; first_after = left.1.0; second_after = left.1.1 })

pub returns-then-first-second : goal.returns-then-first-second
returns-then-first-second c =
    let checked = sym c.check_runnable.ensures ∙ ap answer_of c.in_ok-check_runnable.was in
    let left = campaign_fourteen _ _ _ _ _ _ checked c.if-budget-gt-MOST_STEPS.false c.if-first-second.true in
    rw c.at-then-first-second.ensures (record { result_value = left.0; first_after = left.1.0; second_after = left.1.1 })

pub returns : goal.returns
returns c =
    let left = campaign_scored _ _ _ refl c.if-budget-gt-MOST_STEPS.false c.if-first-second.false c.scored.result _ _ c.scored.ensures in
    record { result_value = left.0; first_after = left.1.0; second_after = left.1.1 }
