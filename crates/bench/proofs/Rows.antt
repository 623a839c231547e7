-- The row of a node as the code cuts it out of the table.
-- Assumes nothing.
use Rattle.std.proofs.Common.{◌≡◌, ℕ, suc, ◌+◌, ◌-◌, ◌*◌, ◌<◌, ◌≤◌, ◌⊎◌, List, get_or, take, drop, subst, inl, inr, add-zero, arith, get_or-drop, get_or-take}
use Rattle.graph.specs.Nodes.{Node, stop, node_of, node_at}
use Rattle.graph.specs.Accepted.{NodeIn}
use Rattle.bench.proofs.Runners.{few_nodes, rows_in, node_in}
use Rattle.bench.specs.declared.runner.Runner.{Runner}

-- the row of a node is its six words
module _ (table : List ℕ) (n : ℕ) where
  abbrev pub row : ℕ → ℕ
  row k = get_or (take (6 * n + 6 - 6 * n) (drop (6 * n) table)) k 0

  word : (k : ℕ) → k < 6 → row k ≡ get_or table (6 * n + k) 0
  word k h = let below : k < 6 * n + 6 - 6 * n = omega arith in rw (get_or-take, get_or-drop)

  pub node_row : node_at table n ≡ node_of (row 0) (row 1) (row 2) (row 3) (row 4) (row 5)
  unfolding node_at
  node_row =
      rw (
        word 0 (omega arith),
        word 1 (omega arith),
        word 2 (omega arith),
        word 3 (omega arith),
        word 4 (omega arith),
        word 5 (omega arith),
        add-zero,
      )

pub named : (r : Runner) (n : ℕ) → n < r.header.nodes
    → let t = r.table.now in NodeIn 64 r.header.nodes (node_of (row t n 0) (row t n 1) (row t n 2) (row t n 3) (row t n 4) (row t n 5))
named r n h = subst (λ (m : Node). NodeIn 64 r.header.nodes m) (node_row r.table.now n) (node_in r n h)

-- kind 0 and those above 8 are none
pub unknown : (kind v w x y z : ℕ) → (kind ≡ 0) ⊎ (9 ≤ kind) → node_of kind v w x y z ≡ stop
unfolding node_of
unknown kind v w x y z (inl e) = rw e
unknown kind v w x y z (inr h) =
    let e : kind ≡ suc (suc (suc (suc (suc (suc (suc (suc (suc (kind - 9))))))))) = omega arith in
    rw e

pub ruleset rows = (node_row, named, few_nodes, rows_in)
