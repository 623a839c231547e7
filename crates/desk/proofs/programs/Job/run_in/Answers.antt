-- `desk::programs::Job::run_in` meets its contract.
-- Assumes nothing.
use Rattle.std.proofs.Common.{ap, ◌∙◌, length}
use Rattle.words.specs.Answer.{Answer, written}
use Rattle.words.specs.Buffer.{over}
use Rattle.bench.specs.Steps.{Progress}
use Rattle.bench.specs.Runs.{answered, run_events}
use Rattle.desk.specs.Programs.{run_on}
use Rattle.desk.proofs.Answers.{run_loaded}
use Rattle.desk.proofs.programs.Job.run_in.Goals as goal

pub returns-clause-value : goal.returns-clause-value
unfolding run_on
returns-clause-value c =
    c.run.ensures.value ∙ ap answered (run_loaded c.args.self.now c.load.new.self c.in_ok-load.ensures (length c.args.events.now) c.args.fault)

pub returns-clause-events_after : goal.returns-clause-events_after
unfolding run_on run_events
returns-clause-events_after c =
    c.run.ensures.events_after
    ∙ ap (λ (a : Answer Progress). written a (λ p. over p.machine.events c.args.events.now) c.args.events.now)
    (run_loaded c.args.self.now c.load.new.self c.in_ok-load.ensures (length c.args.events.now) c.args.fault)
