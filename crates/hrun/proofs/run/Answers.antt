-- A text of this size holds every answer.
use Rattle.std.proofs.Common.{refl}
use Rattle.desk.proofs.Printing.{shown_inside}
use Rattle.desk.proofs.Fits.{run_whole}
use Rattle.hrun.proofs.run.Goals as goal

pub returns : goal.returns
returns c = (shown_inside c.run.ensures refl, run_whole _ _ _ _ _ c.requires c.run.ensures)
