-- `signing::head` meets its contract. The invariant: the head from the start is the head from here with the steps left.
-- Assumes nothing.
use Prim.Native.Nat.{◌-◌}
use mathlib.Core.Path.{◌≡◌}
use Rattle.harden.specs.Passes.{head_by}
use Rattle.harden.proofs.signing.head.Given as goal

abbrev pub invariant-loop : goal.invariant-loop
invariant-loop l = head_by l.grades l.preceders l.steps l.n ≡ head_by l.grades l.preceders (l.steps - l.counter) l.at
