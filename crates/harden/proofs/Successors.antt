-- Where the edges of a node of a graph lead, there are nodes of the graph.
-- Assumes nothing.
use Prim.Native.Nat.{ℕ}
use mathlib.Core.Path.{◌≡◌}
use Rattle.graph.specs.Nodes.{Node, go, branch, ret, stop, targets}
use Rattle.graph.specs.Accepted.{NodeIn}
use Rattle.graph.specs.Successors.{targets_of}
use Rattle.graph.specs.declared.Successors.{Successors}
use Rattle.graph.specs.declared.Successors.TheVariants.{None, One, Two}
use Rattle.harden.specs.Passes.{Inside}

pub targets_inside : (registers nodes : ℕ) (node : Node) (edges : Successors) → NodeIn registers nodes node
    → targets_of edges ≡ targets node → Inside nodes edges
targets_inside registers nodes node None inside e = tt
targets_inside registers nodes (go action next) (One n) inside e = let same : n ≡ next = cc in rw same inside.1
targets_inside registers nodes (branch c a b t f) (Two then else) inside e =
    let first : then ≡ t = cc in let second : else ≡ f = cc in (rw first inside.3, rw second inside.4)
targets_inside registers nodes (branch c a b t f) (One n) inside e = absurd (cc)
targets_inside registers nodes (ret a) (One n) inside e = absurd (cc)
targets_inside registers nodes stop (One n) inside e = absurd (cc)
targets_inside registers nodes (go action next) (Two then else) inside e = absurd (cc)
targets_inside registers nodes (ret a) (Two then else) inside e = absurd (cc)
targets_inside registers nodes stop (Two then else) inside e = absurd (cc)
