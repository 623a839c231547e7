-- `file::read` meets its contract: the first pass decides, the second takes what is accepted. Assumes nothing.
use mathlib.Core.Path.{◌∙◌}
use Rattle.file.proofs.Thens.{left_as}
use Rattle.file.proofs.Taking.{refused_answer, refused_table}
use Rattle.file.proofs.read.Goals as goal

pub returns-in_err-check : goal.returns-in_err-check
returns-in_err-check c = record {
  result_value = left_as _ _ c.from_residual.ensures.1 ∙ refused_answer _ c.args.table.now _ _ c.in_err-check.ensures;
  table_after = refused_table _ c.args.table.now _ _ c.in_err-check.ensures;
}
