-- `signing::leading` meets its contract. The invariant: the rank counts the leaders passed, and the list is filled so far.
-- Assumes nothing.
use mathlib.Core.Path.{◌≡◌}
use Rattle.harden.specs.Blocks.{one_plus_rank}
use Rattle.harden.specs.Passes.{zeros, filled, as_leader, leaders_below}
use Rattle.harden.proofs.signing.leading.Given as goal

abbrev pub invariant-loop-n : goal.invariant-loop-n
invariant-loop-n l =
    (l.rank ≡ leaders_below l.grades l.n) × (l.signatures ≡ filled (as_leader one_plus_rank l.grades) zeros l.n)
