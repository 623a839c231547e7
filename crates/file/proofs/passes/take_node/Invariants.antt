-- `file::passes::take_node` meets its contract. The loop's invariant: the words of the file are those taken so far, and then
-- those from here on. Assumes nothing.
use mathlib.Core.Path.{◌≡◌}
use mathlib.Core.List.{◌++◌}
use Prim.Native.Nat.{ℕ, ◌+◌, ◌-◌}
use lib.ListN.{take}
use Rattle.file.specs.Passes.{taken_from}
use Rattle.file.proofs.passes.take_node.Given as goal

abbrev pub invariant-loop-word : goal.invariant-loop-word
invariant-loop-word l =
    (left : ℕ) →
    taken_from l.bytes (6 + left) 0 0 l.first
    ≡ take l.word l.node ++ taken_from l.bytes (6 - l.word + left) l.word l.kind.value l.at
