-- `Blocks::write` meets its contract: source nodes, node N and the catch, groups. Assumes nothing.
use Rattle.harden.specs.Passes.{source_in}
use Rattle.harden.proofs.Turns.{all_written}
use Rattle.harden.proofs.blocks.Blocks.write.Goals as goal

pub returns : goal.returns
returns c = all_written (source_in c.args.self.now.source) _ c.source_rows.ensures c.begin.ensures c.all_groups.ensures
