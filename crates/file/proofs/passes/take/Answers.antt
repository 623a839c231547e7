-- `file::passes::take` meets its contract: the second pass takes what the first one checked. Assumes nothing.
use mathlib.Core.Path.{◌∙◌}
use Rattle.file.proofs.Taking.{take_room, take-answer, take-table}
use Rattle.file.proofs.passes.take.Goals as goal

pub take_nodes-requires : goal.take_nodes-requires
take_nodes-requires c = take_room _ c.args.table.now c.requires _ _ _ c.taken-registers.ensures c.taken-nodes.ensures c.taken-entry.ensures

pub returns : goal.returns
returns c =
    let table = take-table _ c.args.table.now c.requires _ _ _ c.taken-registers.ensures c.taken-nodes.ensures c.taken-entry.ensures in
    record {
      result_value = take-answer _ c.args.table.now c.requires _ _ _ c.taken-registers.ensures c.taken-nodes.ensures c.taken-entry.ensures;
      table_after = c.take_nodes.ensures ∙ table;
    }
