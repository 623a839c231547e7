-- Document 01, "Running and scoring": the class of a disturbed run, by what the code finds out of its events.
-- Only contracts of private functions cite this file: no public promise rests on it. Assumes nothing.
use Rattle.std.specs.Prelude.{◌≡◌, ℕ, ◌+◌, ◌^◌, ◌<◌, ◌≤◌, List, length, replicate, Result}
use Rattle.words.specs.Answer.{Answer, written}
use Rattle.words.specs.Buffer.{over, put}
use Rattle.words.specs.Refusals.{answer_of}
use Rattle.words.specs.declared.refusals.Refusal.{Refusal}
use Rattle.bench.specs.Ready.{setting_of, run_in}
use Rattle.bench.specs.Campaigns.{score_below, score_answer, Class, caught, late, harmless, changed, unended}
use Rattle.bench.specs.declared.Fault.{Fault}
use Rattle.bench.specs.declared.Fault.TheVariants.{Undisturbed, Inverted}
use Rattle.bench.specs.declared.Score.{Score}
use Rattle.bench.specs.declared.runner.Runner.{Runner}
use Rattle.bench.specs.declared.scores.Reference.{Reference}
use Rattle.bench.specs.declared.scores.Class as declared
use Rattle.bench.specs.declared.scores.Class.TheVariants as variant

-- the class that each case of the code's stands for
abbrev pub class_for : declared.Class → Class
class_for variant.Caught = caught
class_for variant.Late = late
class_for variant.Harmless = harmless
class_for variant.Changed = changed
class_for variant.Unended = unended

-- the score of a checked graph
abbrev pub score_in : Runner → Answer Score
score_in r = score_answer (setting_of r) r.header.entry r.budget

-- what is answered of it and written
pub record Reported (r : Runner) (first second : List ℕ) (result : Result Score Refusal) (last cleared : List ℕ) : Type 0 where
  pub value : answer_of result ≡ score_in r
  pub first_after : last ≡ written (score_in r) (λ _. over (run_in r Undisturbed).machine.events first) first
  pub second_after : cleared ≡ written (score_in r) (λ _. replicate (length second) 0) second

-- the score of so many branches beside a reference
abbrev pub score_to : Runner → Reference → ℕ → Score
score_to r reference positions = score_below (setting_of r) r.header.entry r.budget reference.value reference.events.now positions

-- the undisturbed run's events, and how many branches it executed
pub record Referred (r : Runner) (reference : Reference) (positions : ℕ) : Type 0 where
  pub events : reference.events.now ≡ (run_in r Undisturbed).machine.events
  pub branches : positions ≡ (run_in r Undisturbed).machine.branches

-- the undisturbed run's events over a buffer of zeros, as many as it can hold, and their number
pub record Tried (r : Runner) (trial : List ℕ) (words : ℕ) : Type 0 where
  pub size : ℕ
  pub holds : trial ≡ put (replicate size 0) 0 (run_in r (Inverted r.budget)).machine.events
  pub count : words ≡ length (run_in r (Inverted r.budget)).machine.events

-- the place that a fault names; no run reaches the place after as many branches as its budget has steps
abbrev pub place_of : Fault → ℕ → ℕ
place_of Undisturbed budget = budget
place_of (Inverted place) budget = place

-- counts that one more fits
pub record Few (score : Score) : Type 0 where
  pub positions : score.positions + 1 < 2 ^ 64
  pub caught : score.caught ≤ score.positions
  pub late : score.late ≤ score.positions
  pub harmless : score.harmless ≤ score.positions
  pub changed : score.changed ≤ score.positions
  pub unended : score.unended ≤ score.positions
