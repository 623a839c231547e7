-- `kinds::targets` meets its contract: the kind says which words are targets. Assumes nothing.
use mathlib.Core.Path.{sym}
use native.Mathlib.Omega.{arith}
use Rattle.graph.proofs.Rows.{targets_unknown, targets_past}
use Rattle.graph.proofs.kinds.targets.Goals as goal

pub returns-then-table-node : goal.returns-then-table-node
returns-then-table-node c = sym (targets_past _ _ c.if-table-node.true)

pub returns-in-9-to-4294967295 : goal.returns-in-9-to-4294967295
returns-in-9-to-4294967295 c = sym (targets_unknown _ _ c.word.ensures (omega arith))
