-- From a checked table to a run: how the run ended is what is answered, and its events lie over the first words of the buffer.
-- Assumes nothing.
use Rattle.std.proofs.Common.{◌≡◌, ℕ, ◌/◌, ◌<◌, ◌≤◌, List, length, refl, ap, ◌∙◌, arith, le-leb}
use borrow.Author.Tests.{lt-leb}
use Rattle.words.specs.Answer.{Answer, given, refused, written}
use Rattle.words.specs.Buffer.{over, put}
use Rattle.words.proofs.Puts.{put-over}
use Rattle.graph.specs.Checks.{runnable_check}
use Rattle.graph.specs.declared.Header.{Header}
use Rattle.bench.specs.Steps.{Setting, Progress}
use Rattle.bench.specs.Runs.{run_of, answered, most_steps, run_answer, run_events}
use Rattle.bench.specs.Ready.{Ends, setting_of, run_in}
use Rattle.bench.specs.Classes.{place_of}
use Rattle.bench.proofs.Bounds.{within}
use Rattle.bench.proofs.Faults.{as_placed}
use Rattle.bench.specs.declared.Fault.{Fault}
use Rattle.bench.specs.declared.Fault.TheVariants.{Inverted}
use Rattle.bench.specs.declared.RunAnswer.{RunAnswer}
use Rattle.bench.specs.declared.runner.Runner.{Runner}
use Rattle.bench.specs.declared.runs.End.{End}

-- the events of a run lie over the first words of a buffer that has room for them
pub events_over : (s : Setting) (fault : Fault) (entry budget : ℕ) (buffer : List ℕ) → s.room ≡ length buffer
    → put buffer 0 (run_of s fault entry budget).machine.events ≡ over (run_of s fault entry budget).machine.events buffer
events_over s fault entry budget buffer h =
    let w = within s fault entry budget in
    put-over buffer (run_of s fault entry budget).machine.events (omega arith)

module _ (h : Header) (table inputs buffer : List ℕ) (budget : ℕ) (fault : Fault) where
  abbrev answer : Answer Progress
  answer = run_answer h.registers h.nodes h.entry table inputs (length buffer) budget fault

  abbrev Answers : Answer RunAnswer → List ℕ → Type 0
  Answers a last = (a ≡ answered answer) × (last ≡ run_events h.registers h.nodes h.entry table inputs buffer budget fault)

  answers : (a : Answer Progress) → answer ≡ a → Answers (answered a) (written a (λ p. over p.machine.events buffer) buffer)
  unfolding run_events
  answers a e = rw e (refl, refl)

  pub run_refused : (number place : ℕ) → runnable_check h.registers h.nodes h.entry table ≡ refused number place
      → Answers (refused number place) buffer
  unfolding run_answer
  run_refused number place no-graph = answers (refused number place) (rw no-graph)

  pub run_twelve : runnable_check h.registers h.nodes h.entry table ≡ given tt → most_steps < budget → Answers (refused 12 0) buffer
  unfolding run_answer
  run_twelve ok many = answers (refused 12 0) (rw (ok, lt-leb budget most_steps many))

-- how the run ended is the answer
pub run-made : (r : Runner) (buffer : List ℕ) (fault : Fault) (end : End) (last : List ℕ) → r.room ≡ length buffer
    → r.budget ≤ most_steps → {place : ℕ} → place ≡ place_of fault r.budget → Ends r place buffer end last
    → Answers r.header r.table.now r.inputs.now buffer r.budget fault
    (given (record { outcome = end.outcome; state = end.last.state; events = end.last.words / 2 })) last
unfolding run_answer
run-made r buffer fault end last size few {place} is ends =
    let run : run_in r (Inverted place) ≡ run_in r fault =
    ap (λ (k : ℕ). run_in r (Inverted k)) is ∙ as_placed (setting_of r) fault r.header.entry r.budget in
    rw (ends.is, ends.holds, run, events_over (setting_of r) fault r.header.entry r.budget buffer size)
    (answers r.header r.table.now r.inputs.now buffer r.budget fault (given (run_in r fault))
    (rw (← size, r.checked, le-leb r.budget most_steps few)))
