-- A text of this size holds every answer.
use Rattle.std.proofs.Common.{refl}
use Rattle.desk.proofs.Printing.{shown_inside}
use Rattle.desk.proofs.Fits.{score_whole}
use Rattle.hscore.proofs.score.Goals as goal

pub returns : goal.returns
returns c = (shown_inside c.score.ensures refl, score_whole _ _ _ _ _ c.requires c.score.ensures)
