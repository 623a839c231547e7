-- `Blocks::source_rows` meets its contract. The invariant: the rows of the nodes passed are written. Assumes nothing.
use mathlib.Core.Path.{◌≡◌}
use Rattle.harden.specs.Hardened.{source_rows}
use Rattle.harden.specs.Passes.{source_in, put_rows}
use Rattle.harden.proofs.blocks.Blocks.source_rows.Given as goal

abbrev pub invariant-loop-n : goal.invariant-loop-n
invariant-loop-n l = l.out ≡ put_rows l.initial.out 0 (source_rows (source_in l.self.source) l.n)
