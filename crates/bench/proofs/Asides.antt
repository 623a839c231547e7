-- The runs of a score: each inverts the branch at its place, the point before that branch is set aside, and the next run is taken up
-- from there. Its class is found by comparing only the words after those that it shares with the reference.
-- Assumes nothing.
use Rattle.std.proofs.Common.{◌≡◌, ℕ, ◌+◌, ◌-◌, ◌<◌, ◌≤◌, List, length, take, sym, ap, ◌∙◌, subst, arith, length-append, take_at}
use native.Mathlib.Decide.{dec_lt}
use lib.Seq.{take-append-le}
use Rattle.words.specs.Buffer.{put, over}
use Rattle.words.proofs.Puts.{put-over, length-put}
use Rattle.bench.specs.Steps.{Machine, going, Progress, at}
use Rattle.bench.specs.Effects.{machine_of}
use Rattle.bench.specs.Runs.{run_of, settled}
use Rattle.bench.specs.Ready.{Reached, Standing, Aside, Walked, setting_of, run_in}
use Rattle.bench.specs.Campaigns.{class_of, class_at}
use Rattle.bench.specs.Classes.{Referred}
use Rattle.bench.proofs.Bounds.{within}
use Rattle.bench.proofs.Growth.{Grown, grown_after}
use Rattle.bench.proofs.Faults.{unreached, not_reached, run_on_lem}
use Rattle.bench.proofs.Turns.{put-take}
use Rattle.bench.specs.declared.Fault.{Fault}
use Rattle.bench.specs.declared.Fault.TheVariants.{Undisturbed, Inverted}
use Rattle.bench.specs.declared.Outcome.{Outcome}
use Rattle.bench.specs.declared.runner.Runner.{Runner}
use Rattle.bench.specs.declared.runs.End.{End}
use Rattle.bench.specs.declared.runs.Point.{Point}
use Rattle.bench.specs.declared.scores.Reference.{Reference}

-- what was put at the front is found there
take_put : (l ws : List ℕ) (n : ℕ) → length ws ≤ length l → n ≤ length ws → take n (put l 0 ws) ≡ take n ws
unfolding over
take_put l ws n fits h = ap (take n) (put-over l ws fits) ∙ take-append-le n ws _ h

pub take-put_all : (l ws : List ℕ) (n : ℕ) → length ws ≤ length l → n ≡ length ws → take n (put l 0 ws) ≡ ws
unfolding over
take-put_all l ws n fits h = ap (take n) (put-over l ws fits) ∙ take_at ws _ n (sym h)

module _ (r : Runner) (place : ℕ) (point : Point) (x : Reached r (Inverted place) point) where
  -- up to its branch the run is the undisturbed one, and there it is set aside
  pub aside_set : place ≡ point.state.branches → Aside r place point
  aside_set here =
      let few : (run_of (setting_of r) (Inverted place) r.header.entry point.state.steps).machine.branches ≤ place = rw x.here (omega arith) in
      record {
        reached = record {
          ready = x.ready;
          events = x.events;
          here = sym (not_reached (setting_of r) place r.header.entry point.state.steps few) ∙ x.here;
          count = x.count;
        };
        branches = sym here;
      }

-- a step that is not this branch leaves what is set aside
pub aside_kept : (r : Runner) (place : ℕ) (aside : Point) (branches more : ℕ) → (place < branches → Aside r place aside) → more ≤ 1
    → (place ≡ branches → more ≡ 1 → ⊥) → place < branches + more → Aside r place aside
aside_kept r place aside branches more before few other h = by (dec_lt place branches)
  where
    by : Dec (place < branches) → Aside r place aside
    by (yes past) = before past
    by (no here) = absurd (other (omega arith) (omega arith))

-- a run's events begin with those that it had before
later : (r : Runner) (fault : Fault) (place : ℕ) (aside : Point) (a : Aside r place aside)
    → run_of (setting_of r) fault r.header.entry aside.state.steps ≡ at (machine_of aside.state a.reached.events) going
    → Grown (machine_of aside.state a.reached.events) (run_in r fault).machine
later r fault place aside a here =
    subst (λ (p : Progress). Grown (machine_of aside.state a.reached.events) p.machine)
    (sym (run_on_lem (setting_of r) fault r.header.entry _ aside.state.steps r.budget a.reached.ready.in_budget here))
    (grown_after (setting_of r) fault _ (r.budget - aside.state.steps))

-- what is known of a run that is to be counted: where its events lie and what they share with the reference's, its class, and where
-- the next is taken up
pub record Counted (r : Runner) (place : ℕ) (outcome : Outcome) (last : Point) (held : List ℕ) (aside : Point) (reference : Reference)
    : Type 0 where
  pub words : last.words ≤ length held
  pub fits : (aside.words ≤ length reference.events.now) × (aside.words ≤ length (take last.words held))
  pub shares : take aside.words (take last.words held) ≡ take aside.words reference.events.now
  pub class : class_of reference.value reference.events.now outcome (take last.words held)
      ≡ class_at (setting_of r) r.header.entry r.budget reference.value reference.events.now place
  pub again : Standing r (place + 1) held aside held
  pub branches : aside.state.branches ≡ place

-- a run that is to be counted has ended
module _ (r : Runner) (place : ℕ) (buffer : List ℕ) (outcome : Outcome) (last : Point) (held : List ℕ) (aside : Point)
    (f : Walked r place buffer outcome last held aside) (size : length buffer ≡ r.room) (reference : Reference) (positions : ℕ)
    (referred : Referred r reference positions) (below : place < positions) where
  abbrev run : Progress
  run = run_in r (Inverted place)

  abbrev undisturbed : Progress
  undisturbed = run_in r Undisturbed

  -- the run came to its branch, which the reference executes
  is_aside : Aside r place aside
  is_aside = by (dec_lt place last.state.branches)
    where
      by : Dec (place < last.state.branches) → Aside r place aside
      by (yes past) = f.before past
      by (no short) =
          let count : last.state.branches ≡ run.machine.branches = ap (λ (r : End). r.last.state.branches) f.ends.is in
          let same = ap (λ (p : Progress). p.machine.branches) (not_reached (setting_of r) place r.header.entry r.budget (omega arith)) in
          let all = referred.branches in
          absurd (omega arith)

  fits : length run.machine.events ≤ length buffer
  fits = let w = within (setting_of r) (Inverted place) r.header.entry r.budget in omega arith

  words : last.words ≡ length run.machine.events
  words = ap (λ (r : End). r.last.words) f.ends.is

  -- the next run, too, is the undisturbed one up to there
  unreached_here : (next : ℕ) → place ≤ next
      → run_of (setting_of r) (Inverted next) r.header.entry aside.state.steps ≡ at (machine_of aside.state is_aside.reached.events) going
  unreached_here next h =
      let a = is_aside in
      let few : (run_of (setting_of r) Undisturbed r.header.entry aside.state.steps).machine.branches ≤ next =
      rw a.reached.here (let b = a.branches in omega arith) in
      unreached (setting_of r) next r.header.entry aside.state.steps few ∙ a.reached.here

  own : Grown (machine_of aside.state is_aside.reached.events) run.machine
  own = later r (Inverted place) place aside is_aside (unreached_here place (omega arith))

  others : Grown (machine_of aside.state is_aside.reached.events) undisturbed.machine
  others = let a = is_aside in later r Undisturbed place aside a a.reached.here

  -- both begin with the events before the branch
  shares : (m : Machine) → Grown (machine_of aside.state is_aside.reached.events) m
      → (aside.words ≤ length m.events) × (take aside.words m.events ≡ is_aside.reached.events)
  shares m g =
      let a = is_aside.reached in
      let all = ap length g.events ∙ length-append a.events g.more in
      let count = a.count in
      (omega arith, ap (take aside.words) g.events ∙ take_at a.events g.more aside.words count)

  -- its events lie in the buffer
  words_in : last.words ≤ length held
  words_in = let n = words in let fit = fits in let long = ap length f.ends.holds ∙ length-put buffer 0 run.machine.events in omega arith

  events_are : take last.words held ≡ run.machine.events
  events_are = ap (take last.words) f.ends.holds ∙ take-put_all buffer run.machine.events last.words fits words

  -- and begin with those that it shares with the reference
  shared_in : (aside.words ≤ length reference.events.now) × (aside.words ≤ length (take last.words held))
  shared_in = rw (referred.events, events_are) ((shares undisturbed.machine others).0, (shares run.machine own).0)

  shared_same : take aside.words (take last.words held) ≡ take aside.words reference.events.now
  shared_same = rw (referred.events, events_are) ((shares run.machine own).1 ∙ sym (shares undisturbed.machine others).1)

  -- its class is that of the run from the start
  class_is : class_of reference.value reference.events.now outcome (take last.words held)
      ≡ class_at (setting_of r) r.header.entry r.budget reference.value reference.events.now place
  unfolding class_at
  class_is =
      let ending : outcome ≡ settled run.status = ap (λ (r : End). r.outcome) f.ends.is in
      rw (events_are, ending)

  -- the next run is taken up from what was set aside, over the buffer as it is
  taken_up : Standing r (place + 1) held aside held
  taken_up =
      let a = is_aside in
      let mine = shares run.machine own in
      let head : take aside.words held ≡ a.reached.events =
      ap (take aside.words) f.ends.holds ∙ take_put buffer run.machine.events aside.words fits mine.0 ∙ mine.1 in
      let long = ap length f.ends.holds ∙ length-put buffer 0 run.machine.events in
      record {
        reached = record {
          ready = a.reached.ready;
          events = a.reached.events;
          here = unreached_here (place + 1) (omega arith);
          count = a.reached.count;
        };
        holds = sym (ap (put held 0) (sym head) ∙ put-take held aside.words (let f = fits in omega (arith, mine.0)));
      }

  known : Counted r place outcome last held aside reference
  known =
      record { words = words_in; fits = shared_in; shares = shared_same; class = class_is; again = taken_up; branches = is_aside.branches }

pub counted : {r : Runner} {place positions : ℕ} {buffer held : List ℕ} {outcome : Outcome} {last aside : Point} {reference : Reference}
    → Walked r place buffer outcome last held aside → length buffer ≡ r.room → Referred r reference positions → place < positions
    → Counted r place outcome last held aside reference
counted f size referred below = known _ _ _ _ _ _ _ f size _ _ referred below
