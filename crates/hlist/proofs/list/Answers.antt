-- A text of this size holds every answer.
use Rattle.desk.proofs.Printing.{wrote_inside}
use Rattle.desk.proofs.Fits.{list_whole}
use Rattle.hlist.proofs.list.Goals as goal

pub returns : goal.returns
returns c = (wrote_inside _ _ _ _ _ c.list.ensures, list_whole _ _ _ _ c.requires c.list.ensures)
