-- `signing::signatures` meets its contract. The invariant: the list is filled so far. Assumes nothing.
use mathlib.Core.Path.{◌≡◌}
use Rattle.harden.specs.Passes.{zeros, filled, as_block}
use Rattle.harden.proofs.signing.signatures.Given as goal

abbrev pub invariant-loop-n : goal.invariant-loop-n
invariant-loop-n l = l.signatures ≡ filled (as_block l.grades l.preceders l.leading l.nodes) zeros l.n
