-- A text of this size holds every answer.
use Rattle.std.proofs.Common.{refl}
use Rattle.desk.proofs.Printing.{shown_inside}
use Rattle.desk.proofs.Fits.{file_whole}
use Rattle.hfile.proofs.file.Goals as goal

pub returns : goal.returns
returns c = (shown_inside c.file.ensures refl, file_whole _ _ _ _ _ c.requires c.file.ensures)
