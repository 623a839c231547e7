-- `kinds::role_at` meets its contract: what is no kind has no fields. Assumes nothing.
use mathlib.Core.Path.{◌∙◌}
use native.Mathlib.Omega.{arith}
use Rattle.graph.proofs.Rows.{role_unknown}
use Rattle.graph.proofs.kinds.role_at.Goals as goal

pub returns-in-9-to-4294967295 : goal.returns-in-9-to-4294967295
returns-in-9-to-4294967295 c = c.field-in-9-to-4294967295.ensures ∙ role_unknown _ _ (omega arith)
