-- What is computed as reached is what a path of edges reaches, and then some path has no more edges than there are nodes.
-- Assumes nothing.
use mathlib.Core.Path.{◌≡◌}
use mathlib.Core.Bool.{true}
use mathlib.Core.List.Memᴰ
use mathlib.Core.List.{List, [], ◌∷◌, Memᴰ}
use mathlib.Core.Logic.{◌↔◌, ⊎_elim}
use Prim.Native.Nat.{ℕ, zero, suc, ◌≤◌, ◌<◌}
use native.Mathlib.Omega.{arith}
use Rattle.words.specs.Answer.{given}
use Rattle.graph.specs.Limits.{source}
use Rattle.graph.specs.Nodes.{Node, go, branch, ret, stop, node_at, targets}
use Rattle.graph.specs.Paths.{Path, empty, along, PathIn, start, onward, marked, reached_in, reached}
use Rattle.graph.specs.Accepted.{NodeIn}
use Rattle.graph.specs.Checks.{table_check}
use Rattle.graph.proofs.Passed.{table-passed}
use Rattle.graph.proofs.InOrder.{table_node_in}
use Rattle.graph.proofs.Rounds.{in_none, in_only, reached_closed, reached_entry}

pub path_of : {graph : ℕ → Node} {entry edges n : ℕ} → PathIn graph entry edges n → Path graph entry n
path_of start = empty
path_of (onward path among) = along (path_of path) among

-- the targets of a node in order are inside
pub targets_inside : (registers nodes : ℕ) (node : Node) → NodeIn registers nodes node → (t : ℕ) → Memᴰ t (targets node) → t < nodes
targets_inside registers nodes (go action next) inside t among = rw (Memᴰ.eq_of_singleton among) inside.1
targets_inside registers nodes (branch c a b then else) inside t among =
    ⊎_elim
    (λ (same : t ≡ then). rw same inside.3)
    (λ (later : Memᴰ t (else ∷ [])). rw (Memᴰ.eq_of_singleton later) inside.4)
    (Memᴰ.cases_cons among)
targets_inside registers nodes (ret a) inside t among = absurd (Memᴰ.not-nil among)
targets_inside registers nodes stop inside t among = absurd (Memᴰ.not-nil among)

module _ (graph : ℕ → Node) (nodes entry : ℕ) where
  -- marked within so many edges: a path of no more edges
  pub in_path : (edges n : ℕ) → marked (reached_in graph nodes entry edges) n ≡ true
      → (fewer : ℕ) × (fewer ≤ edges) × PathIn graph entry fewer n
  in_path zero n e = (0, omega arith, rw (in_none graph nodes entry n e) start)
  in_path (suc edges) n e =
      in_only graph nodes entry edges (λ (k : ℕ). (fewer : ℕ) × (fewer ≤ suc edges) × PathIn graph entry fewer k)
      (λ k old. let before = in_path edges k old in (before.0, omega arith, before.2))
      (λ m t h old among. let before = in_path edges m old in (suc before.0, omega arith, onward before.2 among))
      n e

  -- a path ends on a marked node
  path_marked : entry < nodes → ((m t : ℕ) → m < nodes → Memᴰ t (targets (graph m)) → t < nodes)
      → {n : ℕ} → Path graph entry n → (n < nodes) × (marked (reached graph nodes entry) n ≡ true)
  path_marked inside within empty = (inside, reached_entry graph nodes entry inside)
  path_marked inside within (along {m = m} {n = n} path among) =
      let before = path_marked inside within path in
      let low = within m n before.0 among in
      (low, reached_closed graph nodes entry m n before.0 before.1 among low)

  pub marked_short : (n : ℕ) → marked (reached graph nodes entry) n ≡ true → (edges : ℕ) × (edges ≤ nodes) × PathIn graph entry edges n
  unfolding reached
  marked_short n e = in_path nodes n e

-- of a table that is accepted but for unreachable nodes
module _ (registers nodes entry : ℕ) (table : List ℕ) (accepted : table_check source registers nodes entry table ≡ given tt) where
  pub path_to_marked : {n : ℕ} → Path (node_at table) entry n → (n < nodes) × (marked (reached (node_at table) nodes entry) n ≡ true)
  path_to_marked path =
      let p = table-passed source registers nodes entry table accepted in
      path_marked (node_at table) nodes entry p.entry_in
      (λ m t h. targets_inside registers nodes (node_at table m) (table_node_in source registers nodes entry table p (omega arith) m h) t) path

  -- a node is marked exactly when a path of edges reaches it
  pub reached_path : (n : ℕ) → (marked (reached (node_at table) nodes entry) n ≡ true) ↔ Path (node_at table) entry n
  reached_path n = (λ e. path_of (marked_short (node_at table) nodes entry n e).2, λ path. (path_to_marked path).1)
