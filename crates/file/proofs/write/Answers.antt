-- `file::write` meets its contract: the graph's checks come first, then room, then the bytes. Assumes nothing.
use mathlib.Core.Path.{sym, ◌∙◌}
use Rattle.file.proofs.Thens.{left_as}
use Rattle.file.proofs.Writes.{write_refused}
use Rattle.file.proofs.write.Goals as goal

pub returns-in_err-check_runnable : goal.returns-in_err-check_runnable
returns-in_err-check_runnable c =
    let left = write_refused _ _ _ _ _ _ _ (sym c.in_err-check_runnable.ensures) in
    record { result_value = left_as _ _ c.from_residual.ensures.1 ∙ left.0; out_after = left.1 }
