-- `desk::programs::file` meets its contract.
-- Assumes nothing.
use Rattle.desk.proofs.Shows.{filed}
use Rattle.desk.proofs.programs.file.Goals as goal

pub returns : goal.returns
returns c =
    rw (← c.in_ok-load.ensures)
    (filed c.load.new.self c.args.text.now c.write.new.out c.write.result c.write.ensures.result_value c.write.ensures.out_after)
