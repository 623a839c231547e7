-- `grading::grades` meets its contract. The invariant: the grades are those after the edges of the nodes passed. Assumes nothing.
use mathlib.Core.Path.{◌≡◌}
use lib.ListN.{set}
use Rattle.graph.specs.Nodes.{node_at}
use Rattle.harden.specs.declared.grading.Grade.TheVariants.{Leader}
use Rattle.harden.specs.Passes.{ungraded, grades_below}
use Rattle.harden.proofs.grading.grades.Given as goal

abbrev pub invariant-loop-m : goal.invariant-loop-m
invariant-loop-m l = l.grades ≡ grades_below (node_at l.source.table.now) (set ungraded l.source.header.entry Leader) l.m
