-- `file::passes::check_nodes` meets its contract. The loop's invariant: the nodes from the first on end, or are refused,
-- as those from here on. Assumes nothing.
use mathlib.Core.Path.{◌≡◌}
use Prim.Native.Nat.{◌*◌, ◌-◌}
use Rattle.file.specs.Reading.{cells_from}
use Rattle.file.specs.Passes.{end_of}
use Rattle.file.proofs.passes.check_nodes.Given as goal

abbrev pub invariant-loop : goal.invariant-loop
invariant-loop l =
    end_of (cells_from l.bytes l.limits (6 * l.limits.nodes) 0 0 l.first)
    ≡ end_of (cells_from l.bytes l.limits (6 * (l.limits.nodes - l.counter)) 0 0 l.at)
