-- `Blocks::all_groups` meets its contract. The invariant: the groups of the nodes passed are written. Assumes nothing.
use Prim.Native.Nat.{◌+◌}
use mathlib.Core.Path.{◌≡◌}
use Rattle.harden.specs.Hardened.{group_rows}
use Rattle.harden.specs.Passes.{source_in, put_rows}
use Rattle.harden.proofs.blocks.Blocks.all_groups.Given as goal

abbrev pub invariant-loop-n : goal.invariant-loop-n
invariant-loop-n l = l.out ≡ put_rows l.initial.out (l.self.source.header.nodes + 2) (group_rows (source_in l.self.source) l.n)
