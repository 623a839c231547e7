-- What is answered in between: a run, a campaign and the file of the graph in some bytes. Only contracts of private functions cite
-- this file: no public promise rests on it. Assumes nothing.
use Rattle.std.specs.Prelude.{◌≡◌, ℕ, List, Result, Ok, Err}
use Rattle.words.specs.Answer.{Answer, given, refused, and_then}
use Rattle.words.specs.Refusals.{number_of}
use Rattle.words.specs.declared.refusals.Refusal.{Refusal}
use Rattle.bench.specs.declared.Fault.{Fault}
use Rattle.bench.specs.declared.Score.{Score}
use Rattle.bench.specs.Steps.{Progress}
use Rattle.text.specs.Places.{Wrote}
use Rattle.desk.specs.declared.programs.Job.{Job}
use Rattle.desk.specs.Programs.{graph_in, run_on, score_on}

-- a run with this room for events, and a campaign
abbrev pub run_of_job : Job → Fault → ℕ → Answer Progress
run_of_job j fault room = and_then (graph_in j.settings.mode j.bytes.now) (run_on j.inputs.now j.settings.budget room fault)

abbrev pub score_of_job : Job → ℕ → Answer Score
score_of_job j room = and_then (graph_in j.settings.mode j.bytes.now) (score_on j.inputs.now j.settings.budget room)

-- a file that was written stands in the text; a refusal left the text as it stood
abbrev pub Filed : List ℕ → Answer (List ℕ) → List ℕ → Result ℕ Refusal → Type 0
Filed before (given file) after (Ok size) = Wrote before 0 file after size
Filed before (refused number place) after (Err r) = (number ≡ number_of r.reason) × (place ≡ r.place) × (after ≡ before)
Filed before (given file) after (Err r) = ⊥
Filed before (refused number place) after (Ok size) = ⊥
