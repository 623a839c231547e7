-- From a checked table to a campaign: the trial run decides on refusal 13, and what the walk scores is what a campaign answers.
-- Assumes nothing.
use Rattle.std.proofs.Common.{◌≡◌, ℕ, ◌<◌, ◌≤◌, List, ◌++◌, length, take, drop, replicate, sym, refl, ap, ◌∙◌, arith, eq-eqb, ne_eqb, le-leb}
use borrow.Author.Tests.{lt-leb}
use lib.ListN.{length-replicate}
use Rattle.std.specs.Prelude.{Result, Ok}
use Rattle.words.specs.Answer.{Answer, given, refused, written}
use Rattle.words.specs.Buffer.{over, put}
use Rattle.words.specs.Refusals.{answer_of}
use Rattle.words.specs.declared.refusals.Refusal.{Refusal}
use Rattle.words.proofs.Puts.{put-over, length-put}
use Rattle.graph.specs.Checks.{runnable_check}
use Rattle.graph.specs.declared.Header.{Header}
use Rattle.bench.specs.Steps.{Machine, Setting, Progress}
use Rattle.bench.specs.Runs.{settled, most_steps}
use Rattle.bench.specs.Ready.{Ends, setting_of, run_in, ended_of}
use Rattle.bench.specs.Campaigns.{score_below, score_of, campaign_answer, campaign_first, campaign_second}
use Rattle.bench.proofs.Bounds.{within}
use Rattle.bench.proofs.Faults.{as_placed}
use Rattle.bench.specs.Classes.{Tried, Reported, score_in}
use Rattle.bench.proofs.Checked.{events_over}
use Rattle.bench.proofs.Asides.{take-put_all}
use Rattle.bench.specs.declared.Fault.TheVariants.{Undisturbed, Inverted}
use Rattle.bench.specs.declared.Outcome.{Outcome}
use Rattle.bench.specs.declared.Outcome.TheVariants.{Returned, Caught, Spent, Full}
use Rattle.bench.specs.declared.Score.{Score}
use Rattle.bench.specs.declared.runner.Runner.{Runner}
use Rattle.bench.specs.declared.runs.End.{End}

-- a run that ended in any other way than with a value
no_value : (s : Setting) (entry budget : ℕ) (m : Machine) (o : Outcome) → ((v : ℕ) → o ≡ Returned v → ⊥)
    → score_of s entry budget m o ≡ refused 13 0
no_value s entry budget m (Returned v) h = absurd (h v refl)
no_value s entry budget m Caught h = refl
no_value s entry budget m Spent h = refl
no_value s entry budget m Full h = refl

module _ (r : Runner) where
  abbrev run : Progress
  run = run_in r Undisturbed

  -- the trial run inverts no branch
  abbrev trial : Progress
  trial = run_in r (Inverted r.budget)

  undisturbed : trial ≡ run
  undisturbed = as_placed (setting_of r) Undisturbed r.header.entry r.budget

  trial_in : length trial.machine.events ≤ r.room
  trial_in = (within (setting_of r) (Inverted r.budget) r.header.entry r.budget).events

  -- what the trial run keeps of its events
  pub trial_kept : (blank held : List ℕ) (n : ℕ) → blank ≡ replicate n 0 → (made : End) → Ends r r.budget blank made held
      → Tried r held made.last.words
  trial_kept blank held n is made ends =
      record {
        size = n;
        holds = ends.holds ∙ ap (λ (l : List ℕ). put l 0 trial.machine.events) is;
        count = ap (λ (r : End). r.last.words) ends.is;
      }

  -- it is copied, if it is all
  module _ (held : List ℕ) (words : ℕ) (t : Tried r held words) (first : List ℕ) (size : length first ≡ r.room) where
    pub tried_fits : words ≤ length first
    tried_fits = let fits = trial_in in let count = t.count in omega arith

    pub tried_copied : words ≤ length held → take words held ++ drop words first ≡ put first 0 trial.machine.events
    unfolding over
    tried_copied all =
        let count = t.count in
        let fits = trial_in in
        let many : length held ≡ t.size = ap length t.holds ∙ length-put _ 0 _ ∙ length-replicate {A = ℕ} t.size 0 in
        let room = length-replicate {A = ℕ} t.size 0 in
        let kept : take words held ≡ trial.machine.events = ap (take words) t.holds ∙ take-put_all _ _ words (omega arith) count in
        rw (kept, count) (sym (put-over first trial.machine.events (omega arith)))

  module _ (first second : List ℕ) where
    reports : (answer : Answer Score) → score_in r ≡ answer → (result : Result Score Refusal) → answer_of result ≡ answer
        → Reported r first second result (written answer (λ _. over run.machine.events first) first)
        (written answer (λ _. replicate (length second) 0) second)
    reports answer e result is = record { value = is ∙ sym e; first_after = rw e; second_after = rw e }

    -- a trial run that does not return
    pub scored_none : (made : End) → made ≡ ended_of trial → ((v : ℕ) → made.outcome ≡ Returned v → ⊥)
        → (result : Result Score Refusal) → answer_of result ≡ refused 13 0 → Reported r first second result first second
    scored_none made tries other result is =
        let ends : made.outcome ≡ settled run.status = ap (λ (r : End). r.outcome) (tries ∙ ap ended_of undisturbed) in
        reports (refused 13 0) (no_value (setting_of r) r.header.entry r.budget run.machine (settled run.status) (λ v e. other v (ends ∙ e))) result is

    module _ (made : End) (tries : made ≡ ended_of trial) (last : List ℕ) (wrote : last ≡ put first 0 trial.machine.events)
        (size : length first ≡ r.room) where
      events : last ≡ put first 0 run.machine.events
      events = wrote ∙ ap (λ (p : Progress). put first 0 p.machine.events) undisturbed

      ended : made ≡ ended_of run
      ended = tries ∙ ap ended_of undisturbed

      pub words_in : made.last.words ≤ length last
      words_in =
          let count : made.last.words ≡ length run.machine.events = ap (λ (r : End). r.last.words) ended in
          let long = ap length events ∙ length-put first 0 run.machine.events in
          let fits = (within (setting_of r) Undisturbed r.header.entry r.budget).events in
          omega arith

      -- the reference lies in the first buffer, and its branches are to be counted
      pub referred : (take made.last.words last ≡ run.machine.events) × (made.last.state.branches ≡ run.machine.branches)
      referred =
          let count : made.last.words ≡ length run.machine.events = ap (λ (r : End). r.last.words) ended in
          let fits = (within (setting_of r) Undisturbed r.header.entry r.budget).events in (
            ap (take made.last.words) events ∙ take-put_all first run.machine.events made.last.words (omega arith) count,
            ap (λ (r : End). r.last.state.branches) ended,
          )

      -- a trial run that returned a value, and the score of its branches
      pub scored_some : (value : ℕ) → made.outcome ≡ Returned value → (score : Score)
          → score ≡ score_below (setting_of r) r.header.entry r.budget value (take made.last.words last) made.last.state.branches
          → (cleared : List ℕ) → cleared ≡ replicate (length second) 0 → Reported r first second (Ok score) last cleared
      scored_some value returned score scores cleared clears =
          let returns : settled run.status ≡ Returned value = sym (ap (λ (r : End). r.outcome) ended) ∙ returned in
          let found : score_below (setting_of r) r.header.entry r.budget value run.machine.events run.machine.branches ≡ score =
          sym (scores ∙ (rw (referred.0, referred.1))) in
          let all : last ≡ over run.machine.events first = events ∙ events_over (setting_of r) Undisturbed r.header.entry r.budget first (sym size) in
          rw (all, clears)
          (reports (given score) (ap (score_of (setting_of r) r.header.entry r.budget run.machine) returns ∙ ap given found) (Ok score) refl)

module _ (h : Header) (table inputs first second : List ℕ) (budget : ℕ) where
  abbrev answer : Answer Score
  answer = campaign_answer h.registers h.nodes h.entry table inputs (length first) (length second) budget

  abbrev pub Campaigns : Answer Score → List ℕ → List ℕ → Type 0
  Campaigns a last cleared =
      (a ≡ answer)
      × ((last ≡ campaign_first h.registers h.nodes h.entry table inputs first second budget)
      × (cleared ≡ campaign_second h.registers h.nodes h.entry table inputs first second budget))

  -- a refusal leaves both buffers
  refusal : (number place : ℕ) → answer ≡ refused number place → Campaigns (refused number place) first second
  unfolding campaign_first campaign_second
  refusal number place e = rw e (refl, (refl, refl))

  pub campaign_refused : (number place : ℕ) → runnable_check h.registers h.nodes h.entry table ≡ refused number place
      → Campaigns (refused number place) first second
  unfolding campaign_answer
  campaign_refused number place no-graph = refusal number place (rw no-graph)

  module _ (ok : runnable_check h.registers h.nodes h.entry table ≡ given tt) where
    pub campaign_twelve : most_steps < budget → Campaigns (refused 12 0) first second
    unfolding campaign_answer
    campaign_twelve many = refusal 12 0 (rw (ok, lt-leb budget most_steps many))

    pub campaign_fourteen : budget ≤ most_steps → (length first ≡ length second → ⊥) → Campaigns (refused 14 0) first second
    unfolding campaign_answer
    campaign_fourteen few differ = refusal 14 0 (rw (ok, le-leb budget most_steps few, ne_eqb (length first) (length second) differ))

-- the score of a checked graph is the campaign's
module _ (r : Runner) (first second : List ℕ) (size : r.room ≡ length first) (few : r.budget ≤ most_steps)
    (same : length first ≡ length second) where
  scores : answer r.header r.table.now r.inputs.now first second r.budget ≡ score_in r
  unfolding campaign_answer
  scores = rw (eq-eqb (length first) (length second) same, le-leb r.budget most_steps few, r.checked, ← size)

  pub campaign_scored : (result : Result Score Refusal) (last cleared : List ℕ) → Reported r first second result last cleared
      → Campaigns r.header r.table.now r.inputs.now first second r.budget (answer_of result) last cleared
  unfolding campaign_first campaign_second
  campaign_scored result last cleared reported =
      (reported.value ∙ sym scores, (rw (scores, ← size) reported.first_after, rw scores reported.second_after))
