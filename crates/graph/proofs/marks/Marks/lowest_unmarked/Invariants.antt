-- `Marks::lowest_unmarked` meets its contract. The loop's invariant: the search among all the nodes is the search from here on.
-- Assumes nothing.
use mathlib.Core.Path.{◌≡◌}
use Prim.Native.Nat.{◌-◌}
use Rattle.graph.specs.Checks.{unmarked_from}
use Rattle.graph.proofs.marks.Marks.lowest_unmarked.Given as goal

abbrev pub invariant-loop-n : goal.invariant-loop-n
invariant-loop-n l = unmarked_from l.self l.nodes 0 ≡ unmarked_from l.self (l.nodes - l.n) l.n
