-- `signing::preceders` meets its contract. The invariant: the predecessors are those after the nodes passed. Assumes nothing.
use mathlib.Core.Path.{◌≡◌}
use Rattle.graph.specs.Nodes.{node_at}
use Rattle.harden.specs.Passes.{zeros, preceders_below}
use Rattle.harden.proofs.signing.preceders.Given as goal

abbrev pub invariant-loop-m : goal.invariant-loop-m
invariant-loop-m l = l.preceders ≡ preceders_below (node_at l.source.table.now) zeros l.m
