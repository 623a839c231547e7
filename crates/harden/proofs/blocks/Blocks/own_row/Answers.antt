-- `Blocks::own_row` meets its contract: the row redirected is the node's own row. Assumes nothing.
use mathlib.Core.Path.{ap, ◌∙◌}
use Rattle.graph.specs.Nodes.{words_of}
use Rattle.harden.specs.Hardened.{crossing, group_at}
use Rattle.harden.proofs.Turns.{own-aimed}
use Rattle.harden.proofs.Writes.{row_written}
use Rattle.harden.proofs.blocks.Blocks.own_row.Goals as goal

pub returns : goal.returns
returns c =
    row_written _ _ _ c.put_row.ensures
    (c.redirected-words.ensures ∙ ap words_of (rw (c.first_to.ensures, c.start.ensures.at) (own-aimed (group_at _ _) (crossing _ _) _)))
