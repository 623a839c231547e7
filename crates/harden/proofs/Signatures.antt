-- The passes find the signature of each node's block: predecessors, heads and ranks read from lists are the definitions'.
-- Assumes nothing.
use Prim.Native.Nat.{ℕ, zero, suc, ◌+◌, ◌≤◌, ◌<◌}
use native.Mathlib.Nat.{eq-or-lt_of_le, le_of_suc-le-suc, not-suc-le-zero}
use native.Mathlib.Omega.{arith}
use mathlib.Core.Path.{◌≡◌, refl, ap, ◌∙◌}
use mathlib.Core.Logic.{⊎_elim}
use mathlib.Core.Bool.{Bool, true, false, cond}
use mathlib.Core.List.{List}
use lib.ListN.{length, get_or, set, length-set}
use lib.Seq.{get_or-set_same, get_or-set_other}
use lib.Dec.{eqb, ltb}
use Rattle.graph.specs.Nodes.{Node, go, branch, ret, stop, targets}
use Rattle.harden.specs.Blocks.{among, leader, predecessor, head_in, block_head, rank, Plan, signature}
use Rattle.harden.specs.declared.grading.Grade.{Grade}
use Rattle.harden.specs.Passes.{zeros, leads, preceded, preceders_below, head_by, leaders_below, filled, as_leader, as_block, block_signatures}
use Rattle.harden.proofs.Passes.{zeros-length, zeros-at}
use Rattle.harden.proofs.Graded.{stored_at}

-- what a filled list holds
filled-length : (f : ℕ → ℕ) (l : List ℕ) (n : ℕ) → length (filled f l n) ≡ length l
filled-length f l zero = refl
filled-length f l (suc n) = length-set (filled f l n) n (f n) ∙ filled-length f l n

filled_at : (f : ℕ → ℕ) (l : List ℕ) (n k : ℕ) → n ≤ length l → k < n → get_or (filled f l n) k 0 ≡ f k
filled_at f l zero k h below = absurd (not-suc-le-zero below)
filled_at f l (suc n) k h below =
    ⊎_elim
    (λ e. rw e (get_or-set_same (filled f l n) n (f n) 0 (omega (arith, filled-length f l n))))
    (λ less. get_or-set_other (filled f l n) n k (f n) 0 (λ e. omega arith) ∙ filled_at f l n k (omega arith) less)
    (eq-or-lt_of_le (le_of_suc-le-suc below))

-- predecessors
module _ (l : List ℕ) (m n : ℕ) (h : n < length l) where
  node_preceded : (node : Node) → get_or (preceded m node l) n 0 ≡ cond (ltb 0 (among (targets node) n)) m (get_or l n 0)
  node_preceded (go action next) = stored_at l next n m 0 h ∙ by (eqb next n)
    where
      by : (test : Bool) → cond test m (get_or l n 0) ≡ cond (ltb 0 (cond test 1 0 + 0)) m (get_or l n 0)
      by true = refl
      by false = refl
  node_preceded (branch c a b t f) =
      stored_at (set l t m) f n m 0 (rw length-set h) ∙ rw (stored_at l t n m 0 h) (by (eqb t n) (eqb f n))
    where
      by : (to of : Bool) → cond of m (cond to m (get_or l n 0)) ≡ cond (ltb 0 (cond to 1 0 + (cond of 1 0 + 0))) m (get_or l n 0)
      by true true = refl
      by true false = refl
      by false true = refl
      by false false = refl
  node_preceded (ret a) = refl
  node_preceded stop = refl

preceded-length : (m : ℕ) (node : Node) (l : List ℕ) → length (preceded m node l) ≡ length l
preceded-length m (go action next) l = length-set l next m
preceded-length m (branch c a b t f) l = length-set (set l t m) f m ∙ length-set l t m
preceded-length m (ret a) l = refl
preceded-length m stop l = refl

module _ (graph : ℕ → Node) where
  preceders_length : (m : ℕ) → length (preceders_below graph zeros m) ≡ 256
  preceders_length zero = zeros-length
  preceders_length (suc m) = preceded-length m (graph m) (preceders_below graph zeros m) ∙ preceders_length m

  preceders_at : (m n : ℕ) → n < 256 → get_or (preceders_below graph zeros m) n 0 ≡ predecessor graph m n
  unfolding predecessor
  preceders_at zero n h = zeros-at n h
  preceders_at (suc m) n h =
      node_preceded (preceders_below graph zeros m) m n (rw preceders_length h) (graph m)
      ∙ ap (λ (p : ℕ). cond (ltb 0 (among (targets (graph m)) n)) m p) (preceders_at m n h)

  pub predecessor_in : (nodes m n : ℕ) → 0 < nodes → m ≤ nodes → predecessor graph m n < nodes
  unfolding predecessor
  predecessor_in nodes zero n some h = some
  predecessor_in nodes (suc m) n some h = by (ltb 0 (among (targets (graph m)) n)) (predecessor_in nodes m n some (omega arith))
    where
      by : (test : Bool) → predecessor graph m n < nodes → cond test m (predecessor graph m n) < nodes
      by true earlier = h
      by false earlier = earlier

module _ (graph : ℕ → Node) (nodes entry : ℕ) (some : 0 < nodes) where
  pub head_in_lem : (steps n : ℕ) → n < nodes → head_in graph nodes entry steps n < nodes
  unfolding head_in
  head_in_lem zero n h = h
  head_in_lem (suc steps) n h =
      by (leader graph nodes entry n) (head_in_lem steps (predecessor graph nodes n) (predecessor_in graph nodes nodes n some (omega arith)))
    where
      by : (test : Bool) → head_in graph nodes entry steps (predecessor graph nodes n) < nodes →
          cond test n (head_in graph nodes entry steps (predecessor graph nodes n)) < nodes
      by true further = h
      by false further = further

module _ (graph : ℕ → Node) (nodes entry : ℕ) (grades : List Grade) (few : nodes ≤ 256) (some : 0 < nodes)
    (right : (n : ℕ) → n < nodes → leads grades n ≡ leader graph nodes entry n) where
  heads : (steps n : ℕ) → n < nodes → head_by grades (preceders_below graph zeros nodes) steps n ≡ head_in graph nodes entry steps n
  unfolding head_in
  heads zero n h = refl
  heads (suc steps) n h =
      rw (right n h, preceders_at graph nodes n (omega arith), heads steps (predecessor graph nodes n) (predecessor_in graph nodes nodes n some (omega arith)))

  ranks : (n : ℕ) → n ≤ nodes → leaders_below grades n ≡ rank graph nodes entry n
  unfolding rank
  ranks zero h = refl
  ranks (suc n) h = rw (ranks n (omega arith), right n h)

  -- the signatures that the passes find
  pub signatures_found : (plan : Plan) (n : ℕ) → n < nodes →
      get_or (block_signatures plan graph grades nodes) n 0 ≡ signature plan graph nodes entry n
  unfolding block_signatures signature block_head
  signatures_found plan n h =
      let head = head_in graph nodes entry nodes n in
      let low : head < nodes = head_in_lem graph nodes entry some nodes n h in
      filled_at (as_block grades (preceders_below graph zeros nodes) (filled (as_leader plan grades) zeros nodes) nodes) zeros nodes n (rw zeros-length few) h
      ∙ ap (λ (k : ℕ). get_or (filled (as_leader plan grades) zeros nodes) k 0) (heads nodes n h)
      ∙ filled_at (as_leader plan grades) zeros nodes head (rw zeros-length few) low
      ∙ ap plan (ranks head (omega arith))
