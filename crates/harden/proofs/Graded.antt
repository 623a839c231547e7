-- The pass over the edges finds the leaders: a node has a leader's grade just where it is a leader.
-- Assumes nothing.
use Prim.Native.Nat.{ℕ, zero, suc, ◌+◌, ◌<◌}
use native.Mathlib.Nat.{add-zero}
use native.Mathlib.Numerals.{add-one}
use native.Mathlib.Omega.{arith}
use mathlib.Core.Path.{◌≡◌, refl, sym, ap, ◌∙◌}
use mathlib.Core.Bool.{Bool, true, false, cond, ◌||◌, or_assoc}
use mathlib.Core.List.{List}
use lib.ListN.{length, get_or, set, length-set}
use lib.Seq.{get_or-set_same, get_or-set_other}
use lib.Dec.{eqb, leb}
use borrow.Author.Tests.{eqb-true, eqb-false, le-leb}
use Rattle.graph.specs.Nodes.{Node, go, branch, ret, stop, targets}
use Rattle.harden.specs.Blocks.{among, aims_at, edges_into, branch_to, leader}
use Rattle.harden.specs.declared.grading.Grade.{Grade}
use Rattle.harden.specs.declared.grading.Grade.TheVariants.{NoEdge, OneEdge, Leader}
use Rattle.harden.specs.Passes.{ungraded, of_leader, leads, raised, graded, grades_below}
use Rattle.harden.proofs.Passes.{ungraded-length, ungraded-at}

-- the grade of a node that is known to lead, or has so many edges into it
abbrev grade_of : Bool → ℕ → Grade
grade_of true edges = Leader
grade_of false zero = NoEdge
grade_of false (suc zero) = OneEdge
grade_of false (suc (suc edges)) = Leader

one_more : (led : Bool) (edges : ℕ) → raised (grade_of led edges) ≡ grade_of (led || false) (edges + (1 + 0))
one_more true edges = refl
one_more false zero = refl
one_more false (suc zero) = refl
one_more false (suc (suc edges)) = rw add-one refl

none_more : (led : Bool) (edges : ℕ) → grade_of led edges ≡ grade_of (led || false) (edges + 0)
none_more true edges = refl
none_more false edges = rw add-zero refl

-- what stands at n after a store at k
pub stored_at : {A : Type 0} (l : List A) (k n : ℕ) (v d : A) → n < length l → get_or (set l k v) n d ≡ cond (eqb k n) v (get_or l n d)
stored_at l k n v d h = by (eqb k n) refl
  where
    by : (test : Bool) → eqb k n ≡ test → get_or (set l k v) n d ≡ cond test v (get_or l n d)
    by true e = rw (eqb-true k n e) (get_or-set_same l n v d h)
    by false e = get_or-set_other l k n v d (λ same. eqb-false k n e (sym same))

module _ (l : List Grade) (n : ℕ) (led : Bool) (edges : ℕ) (h : n < length l) (known : get_or l n NoEdge ≡ grade_of led edges) where
  node_graded : (node : Node) → get_or (graded node l) n NoEdge ≡ grade_of (led || aims_at node n) (edges + among (targets node) n)
  node_graded (go action next) = stored_at l next n (raised (get_or l next NoEdge)) NoEdge h ∙ by (eqb next n) refl
    where
      by : (test : Bool) → eqb next n ≡ test →
          cond test (raised (get_or l next NoEdge)) (get_or l n NoEdge) ≡ grade_of (led || false) (edges + (cond test 1 0 + 0))
      by true e = ap (λ (k : ℕ). raised (get_or l k NoEdge)) (eqb-true next n e) ∙ ap raised known ∙ one_more led edges
      by false e = known ∙ none_more led edges
  node_graded (branch c a b t f) =
      stored_at (set l t Leader) f n Leader NoEdge (rw length-set h)
      ∙ rw (stored_at l t n Leader NoEdge h, known) (by led (eqb t n) (eqb f n))
    where
      by : (led to of : Bool) →
          cond of Leader (cond to Leader (grade_of led edges)) ≡ grade_of (led || (to || of)) (edges + (cond to 1 0 + (cond of 1 0 + 0)))
      by true true true = refl
      by true true false = refl
      by true false true = refl
      by false true true = refl
      by false true false = refl
      by false false true = refl
      by led false false = none_more led edges
  node_graded (ret a) = known ∙ none_more led edges
  node_graded stop = known ∙ none_more led edges

graded-length : (node : Node) (l : List Grade) → length (graded node l) ≡ length l
graded-length (go action next) l = length-set l next (raised (get_or l next NoEdge))
graded-length (branch c a b t f) l = length-set (set l t Leader) f Leader ∙ length-set l t Leader
graded-length (ret a) l = refl
graded-length stop l = refl

-- the entry leads, or a branch aims there, or two edges enter
grade_leads : (first aimed : Bool) (edges : ℕ) → of_leader (grade_of (first || aimed) edges) ≡ (first || (aimed || leb 2 edges))
grade_leads true aimed edges = refl
grade_leads false true edges = refl
grade_leads false false zero = refl
grade_leads false false (suc zero) = refl
grade_leads false false (suc (suc edges)) = sym (le-leb 2 (suc (suc edges)) (omega arith))

module _ (graph : ℕ → Node) (entry : ℕ) where
  grades_length : (m : ℕ) → length (grades_below graph (set ungraded entry Leader) m) ≡ 256
  grades_length zero = length-set ungraded entry Leader ∙ ungraded-length
  grades_length (suc m) = graded-length (graph m) (grades_below graph (set ungraded entry Leader) m) ∙ grades_length m

  -- before any edge the entry alone leads
  start-graded : (n : ℕ) → n < 256 → (first : Bool) → eqb n entry ≡ first → get_or (set ungraded entry Leader) n NoEdge ≡ grade_of (first || false) 0
  start-graded n h true e =
      let same : n ≡ entry = eqb-true n entry e in
      rw same (get_or-set_same ungraded entry Leader NoEdge (omega (arith, ungraded-length)))
  start-graded n h false e = get_or-set_other ungraded entry n Leader NoEdge (eqb-false n entry e) ∙ ungraded-at n h

  grades_known : (m n : ℕ) → n < 256 →
      get_or (grades_below graph (set ungraded entry Leader) m) n NoEdge ≡ grade_of (eqb n entry || branch_to graph m n) (edges_into graph m n)
  unfolding branch_to edges_into
  grades_known zero n h = start-graded n h (eqb n entry) refl
  grades_known (suc m) n h =
      node_graded (grades_below graph (set ungraded entry Leader) m) n (eqb n entry || branch_to graph m n) (edges_into graph m n)
      (rw grades_length h) (grades_known m n h) (graph m)
      ∙ ap (λ (b : Bool). grade_of b (edges_into graph m n + among (targets (graph m)) n)) (or_assoc (eqb n entry) (branch_to graph m n) (aims_at (graph m) n))

  pub graded_leaders : (nodes n : ℕ) → n < 256 → leads (grades_below graph (set ungraded entry Leader) nodes) n ≡ leader graph nodes entry n
  unfolding leader
  graded_leaders nodes n h =
      ap of_leader (grades_known nodes n h) ∙ grade_leads (eqb n entry) (branch_to graph nodes n) (edges_into graph nodes n)
