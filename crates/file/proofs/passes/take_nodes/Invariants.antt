-- `file::passes::take_nodes` meets its contract. The loop's invariant: the words from the first on, put into the table that was
-- lent, are those of the nodes from here on put into the table as it is. Assumes nothing.
use mathlib.Core.Path.{◌≡◌}
use Prim.Native.Nat.{◌*◌, ◌-◌}
use Rattle.words.specs.Buffer.{put}
use Rattle.file.specs.Passes.{taken_from}
use Rattle.file.proofs.passes.take_nodes.Given as goal

abbrev pub invariant-loop-n : goal.invariant-loop-n
invariant-loop-n l =
    put l.initial.table 0 (taken_from l.bytes (6 * l.nodes) 0 0 l.first)
    ≡ put l.table (6 * l.n) (taken_from l.bytes (6 * (l.nodes - l.n)) 0 0 l.at)
