-- `table::check_words` meets its contract. The loop's invariant: the check of all the words is the check from here on.
-- Assumes nothing.
use mathlib.Core.Path.{◌≡◌}
use Prim.Native.Nat.{◌-◌}
use Rattle.graph.specs.Checks.{words_from}
use Rattle.graph.proofs.table.check_words.Given as goal

abbrev pub invariant-loop-i : goal.invariant-loop-i
invariant-loop-i l =
    let m = l.limits in
    words_from m.kinds m.registers m.nodes l.table l.count 0 ≡ words_from m.kinds m.registers m.nodes l.table (l.count - l.i) l.i
