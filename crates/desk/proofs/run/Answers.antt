-- `desk::run` meets its contract.
-- Assumes nothing.
use Rattle.std.proofs.Common.{refl, arith}
use Rattle.text.specs.Places.{appended}
use Rattle.desk.specs.Programs.{run_program}
use Rattle.desk.proofs.Shows.{output_shown, complaint_shown}
use Rattle.desk.proofs.run.Goals as goal

pub returns-in-Ok : goal.returns-in-Ok
unfolding run_program appended
returns-in-Ok c =
    rw c.in-Ok.ensures (output_shown _ _ _ _ c.run-in-Ok.new.out refl refl c.run-in-Ok.ensures (grind arith))

pub returns-in-Err : goal.returns-in-Err
unfolding run_program appended
returns-in-Err c = rw c.in-Err.ensures (complaint_shown _ _ _ _ c.complaint.new.out refl refl c.complaint.ensures (grind arith))
