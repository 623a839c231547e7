-- `desk::programs::Job::score_in` meets its contract: both buffers have the same room.
-- Assumes nothing.
use Rattle.std.proofs.Common.{◌∙◌, length}
use Rattle.desk.specs.Programs.{score_on}
use Rattle.desk.proofs.Answers.{score_loaded}
use Rattle.desk.proofs.programs.Job.score_in.Goals as goal

pub returns : goal.returns
unfolding score_on
returns c = rw c.requires at c.campaign.ensures.result_value ∙ score_loaded c.args.self.now c.load.new.self c.in_ok-load.ensures (length c.args.first.now)
