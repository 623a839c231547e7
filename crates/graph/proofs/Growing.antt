-- How marks grow: a mark that is set, two in a row, and a node that is looked at.
-- Assumes nothing.
use mathlib.Core.Path.{◌≡◌, refl, sym, ap, ◌∙◌}
use mathlib.Core.Bool.{Bool, true, false}
use mathlib.Core.List.{List}
use Prim.Native.Nat.{ℕ, ◌+◌, ◌≤◌, ◌<◌}
use native.Mathlib.Omega.{arith}
use lib.ListN.{length, set}
use lib.Seq.{set_out, set-get_or}
use Rattle.graph.specs.Nodes.{Node, targets}
use Rattle.graph.specs.Paths.{Marks, marked, mark_all}
use Rattle.graph.specs.Marks.{Grown, looked_at}
use Rattle.graph.proofs.Marking.{count_new}

-- a mark past the end, one that stood, and a new one
module _ (marks : Marks) (n : ℕ) where
  pub mark_past : length marks ≤ n → Grown marks (set marks n true) marks 0
  mark_past past = record { there = sym (set_out marks n true past); new = omega arith }

  pub mark_old : marked marks n ≡ true → Grown marks (set marks n true) marks 0
  mark_old old =
      record { there = sym (ap (λ (mark : Bool). set marks n mark) (sym old) ∙ set-get_or marks n false); new = omega arith }

  pub mark_new : n < length marks → marked marks n ≡ false → Grown marks (set marks n true) (set marks n true) 1
  mark_new inside bare = record { there = refl; new = count_new marks n inside bare }

-- marks that grow in two steps
pub grown_then : (next : Marks → Marks) {before wanted middle after : Marks} {first second : ℕ}
    → Grown before wanted middle first → Grown middle (next middle) after second → Grown before (next wanted) after (first + second)
grown_then next g h = record { there = h.there ∙ ap next g.there; new = omega arith }

pub grown_none : (marks : Marks) → Grown marks marks marks 0
grown_none marks = record { there = refl; new = omega arith }

-- looking at a node that is not marked, and at one that is
module _ (graph : ℕ → Node) (n : ℕ) (marks : Marks) where
  pub look_bare : marked marks n ≡ false → Grown marks (looked_at graph n marks) marks 0
  unfolding looked_at
  look_bare bare = record { there = rw bare; new = omega arith }

  pub look_marked : (ns : List ℕ) {after : Marks} {fresh : ℕ} → marked marks n ≡ true → ns ≡ targets (graph n)
      → Grown marks (mark_all ns marks) after fresh → Grown marks (looked_at graph n marks) after fresh
  unfolding looked_at
  look_marked ns old edges g =
      record { there = g.there ∙ rw (old, ← edges); new = g.new }
