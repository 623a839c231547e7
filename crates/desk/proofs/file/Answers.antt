-- `desk::file` meets its contract: the argument, then the file.
-- Assumes nothing.
use Rattle.std.proofs.Common.{refl, arith}
use Rattle.text.specs.Places.{appended}
use Rattle.desk.specs.Programs.{file_program}
use Rattle.desk.proofs.Shows.{filed_output, refused_print, complaint_shown}
use Rattle.desk.proofs.file.Goals as goal

pub returns-in-Ok-file : goal.returns-in-Ok-file
unfolding file_program
returns-in-Ok-file c = rw (← c.in-Ok.ensures) (filed_output _ _ _ _ c.in-Ok-file.ensures)

pub returns-in-Err-file : goal.returns-in-Err-file
unfolding file_program appended
returns-in-Err-file c =
    let p = refused_print _ _ _ _ c.in-Err-file.ensures in
    rw (← c.in-Ok.ensures, p.1) (complaint_shown _ _ _ _ c.refusal.new.out p.0 refl c.refusal.ensures (grind arith))

pub returns-in-Err : goal.returns-in-Err
unfolding file_program appended
returns-in-Err c = rw (← c.in-Err.ensures) (complaint_shown _ _ _ _ c.complaint.new.out refl refl c.complaint.ensures (grind arith))
