-- `bench::runner::Runner::scored` meets its contract. Assumes nothing.
use Rattle.std.proofs.Common.{replicate, refl, sym, ap, ◌∙◌, length-take-le}
use Rattle.std.specs.Prelude.{Err}
use Rattle.words.specs.declared.refusals.Reason.TheVariants.{NotReturned}
use Rattle.bench.proofs.Campaigned.{trial_kept, scored_none, words_in, referred, scored_some}
use Rattle.bench.proofs.runner.Runner.scored.Goals as goal

pub returns-in_default : goal.returns-in_default
returns-in_default c =
    rw c.at.ensures
    (scored_none c.args.self.now _ _ _ c.one-outcome.ensures.is c.in_default.not-Returned (Err (record { reason = NotReturned; place = 0 })) refl)

pub refer-requires-clause-tried : goal.refer-requires-clause-tried
refer-requires-clause-tried c = trial_kept _ _ _ 8192 c.zeros-trial.ensures _ c.one-outcome.ensures

pub slice_bounds-reference-end : goal.slice_bounds-reference-end
slice_bounds-reference-end c =
    words_in c.args.self.now _ c.args.second.now _ c.one-outcome.ensures.is _ c.refer.ensures c.requires.first_room

pub slice_bounds-reference-end-2 : goal.slice_bounds-reference-end-2
slice_bounds-reference-end-2 c =
    sym (length-take-le _ _ (words_in c.args.self.now _ c.args.second.now _ c.one-outcome.ensures.is _ c.refer.ensures c.requires.first_room))

pub score-score-requires-clause-referred : goal.score-score-requires-clause-referred
score-score-requires-clause-referred c =
    let known = referred c.args.self.now _ c.args.second.now _ c.one-outcome.ensures.is _ c.refer.ensures c.requires.first_room in
    record { events = known.0; branches = known.1 }

pub returns : goal.returns
returns c =
    scored_some c.args.self.now _ c.args.second.now _ c.one-outcome.ensures.is _ c.refer.ensures c.requires.first_room _ c.in-Returned.is _
    c.score-score.ensures _ (c.fill.ensures.after (λ y e. e) ∙ ap (λ n. replicate n 0) c.score-score.auto.events)
