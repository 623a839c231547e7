-- What a run or a campaign answered, and what a run left in the buffer, is what the text says.
-- Assumes nothing.
use Rattle.std.proofs.Common.{◌≡◌, refl, ap, ◌∙◌, ℕ, ◌*◌, ◌/◌, ◌≤◌, List, length, take, drop, replicate, arith}
use Rattle.std.proofs.Math.Seq.{take_at, length-take-le}
use Rattle.std.proofs.lemmas.List.{length-replicate}
use Rattle.words.specs.Answer.{Answer, given, refused, and_then, written}
use Rattle.words.specs.Buffer.{over}
use Rattle.bench.specs.declared.Fault.{Fault}
use Rattle.bench.specs.declared.RunAnswer.{RunAnswer}
use Rattle.bench.specs.declared.Score.{Score}
use Rattle.bench.specs.Steps.{Progress}
use Rattle.bench.specs.Runs.{answered, settled, state_of}
use Rattle.bench.proofs.Pairs.{Paired}
use Rattle.desk.specs.declared.loading.Graph.{Graph}
use Rattle.desk.specs.declared.programs.Job.{Job}
use Rattle.desk.specs.declared.settings.Settings.{Settings}
use Rattle.desk.specs.Arguments.{most_room}
use Rattle.desk.specs.Jobs.{run_of_job, score_of_job}
use Rattle.desk.specs.Lines.{run_text, refusal_line, score_line}
use Rattle.desk.specs.Programs.{graph_in, run_on, score_on, text_of, progress_text, run_print, score_print}
use Rattle.desk.proofs.Sized.{Sized, sized}

events_are : (events buffer : List ℕ) → Paired events → take (2 * (length events / 2)) (over events buffer) ≡ events
unfolding over
events_are events buffer (n, e) = take_at events (drop (length events) buffer) (2 * (length events / 2)) (omega arith)

-- a run's answer, over a buffer
module _ (buffer : List ℕ) where
  abbrev Good : Answer Progress → Type 0
  Good a = (p : Progress) → a ≡ given p → Sized (length buffer) p

  -- the words of the events are in the buffer
  words_by : (a : Answer Progress) → Good a → (r : RunAnswer) → given r ≡ answered a → 2 * r.events ≤ length buffer
  words_by (given p) good r e =
      let same : r.events ≡ length p.machine.events / 2 = cc in
      omega (arith, (good p refl).fits)
  words_by (refused number place) good r e = cc

  -- a run that was made is told
  ran_by : (a : Answer Progress) → Good a → (r : RunAnswer) → given r ≡ answered a
      → run_text r.outcome r.state (take (2 * r.events) (written a (λ p. over p.machine.events buffer) buffer)) ≡ text_of a progress_text
  ran_by (given p) good r e =
      let same : r ≡ record { outcome = settled p.status; state = state_of p.machine; events = length p.machine.events / 2 } = cc in
      rw (same, events_are p.machine.events buffer (good p refl).paired)
  ran_by (refused number place) good r e = cc

  refused_by : (a : Answer Progress) (number place : ℕ) → refused number place ≡ answered a → refusal_line number place ≡ text_of a progress_text
  refused_by (given p) number place e = cc
  refused_by (refused m q) number place e = cc

-- a run with the room of its settings
module _ (j : Job) (fault : Fault) (buffer : List ℕ) (room : length buffer ≡ j.settings.room) where
  abbrev run : Answer Progress
  run = run_of_job j fault (length buffer)

  abbrev print : List ℕ
  print = run_print j.settings.mode j.settings.budget j.settings.room fault j.inputs.now j.bytes.now

  good : Good buffer run
  unfolding run_on
  good p e = by (graph_in j.settings.mode j.bytes.now) e
    where
      by : (a : Answer Graph) → and_then a (run_on j.inputs.now j.settings.budget (length buffer) fault) ≡ given p → Sized (length buffer) p
      by (given g) e =
          let h = g.header in
          sized h.registers h.nodes h.entry g.table j.inputs.now (length buffer) j.settings.budget fault p e
      by (refused number place) e = cc

  printed_as : text_of run progress_text ≡ print
  unfolding run_print
  printed_as = rw room

  pub words_fit : (r : RunAnswer) → given r ≡ answered run → 2 * r.events ≤ j.settings.room
  words_fit r e = rw room at (words_by buffer run good r e)

  pub ran_text : (r : RunAnswer) (last : List ℕ) → given r ≡ answered run → last ≡ written run (λ p. over p.machine.events buffer) buffer
      → run_text r.outcome r.state (take (2 * r.events) last) ≡ print
  ran_text r last e f = rw f (ran_by buffer run good r e) ∙ printed_as

  pub refused_text : (number place : ℕ) → refused number place ≡ answered run → refusal_line number place ≡ print
  refused_text number place e = refused_by buffer run number place e ∙ printed_as

-- a campaign with the room of its settings
module _ (j : Job) (room : ℕ) (e : room ≡ j.settings.room) where
  pub score_text : (a : Answer Score) → a ≡ score_of_job j room
      → text_of a score_line ≡ score_print j.settings.mode j.settings.budget j.settings.room j.inputs.now j.bytes.now
  unfolding score_print
  score_text a f = rw (f, e)

-- what was answered of a graph that was loaded
module _ (j : Job) (g : Graph) (e : given g ≡ graph_in j.settings.mode j.bytes.now) (room : ℕ) where
  pub run_loaded : (fault : Fault) → run_on j.inputs.now j.settings.budget room fault g ≡ run_of_job j fault room
  run_loaded fault = ap (λ (a : Answer Graph). and_then a (run_on j.inputs.now j.settings.budget room fault)) e

  pub score_loaded : score_on j.inputs.now j.settings.budget room g ≡ score_of_job j room
  score_loaded = ap (λ (a : Answer Graph). and_then a (score_on j.inputs.now j.settings.budget room)) e

-- a buffer of zeros, cut to the settings' room
pub room_lent : (s : Settings) {zeros : List ℕ} → zeros ≡ replicate most_room 0 → length (take s.room zeros) ≡ s.room
room_lent s {zeros} e =
    length-take-le s.room zeros (omega (arith, s.room_in, ap length e, length-replicate {A = ℕ} most_room 0))
