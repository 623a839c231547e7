-- A node is refused as unreachable exactly when no path of edges from the entry reaches it, and it is the lowest such node.
-- Assumes nothing.
use mathlib.Core.Path.{◌≡◌, refl}
use mathlib.Core.Bool.{Bool, true, false}
use mathlib.Core.Logic.{◌↔◌, ⊎_elim}
use mathlib.Core.List.{List, [], ◌∷◌}
use Prim.Native.Nat.{ℕ, ◌<◌}
use native.Mathlib.Omega.{arith}
use Rattle.words.specs.Answer.{given, refused}
use Rattle.graph.specs.Limits.{source}
use Rattle.graph.specs.Kinds.{layouts, role_at}
use Rattle.graph.specs.Nodes.{node_of, node_at}
use Rattle.graph.specs.Paths.{Path, marked, followed, reached_in, reached}
use Rattle.graph.specs.Checks.{fault_at, words_from, table_check, unmarked_from, reach_check, source_check}
use Rattle.graph.proofs.Refusals.{and_refused, table_refusal}
use Rattle.graph.proofs.Unmarked.{unmarked_lowest, lowest_unmarked}
use Rattle.graph.proofs.Reached.{reached_path}

module _ (registers nodes entry : ℕ) (table : List ℕ) (n : ℕ) where
  -- the table is otherwise accepted, and n is the lowest node without a path
  abbrev pub LowestDead : Type 0
  LowestDead =
      (table_check source registers nodes entry table ≡ given tt)
      × (n < nodes)
      × (Path (node_at table) entry n → ⊥)
      × ((m : ℕ) → m < n → Path (node_at table) entry m)

  refused_dead : source_check registers nodes entry table ≡ refused 9 n → LowestDead
  unfolding source_check reach_check
  refused_dead e =
      ⊎_elim
      (λ (first : table_check source registers nodes entry table ≡ refused 9 n). absurd (let r = table_refusal source registers nodes entry table first in omega arith))
      (λ (then : (a : Unit) × (table_check source registers nodes entry table ≡ given a) × (reach_check nodes entry table ≡ refused 9 n)).
      let low = unmarked_lowest (reached (node_at table) nodes entry) nodes 0 9 n then.2 in
      let paths = reached_path registers nodes entry table then.1 in (
        then.1,
        omega arith,
        (λ path. let z : ◌≡◌ {A = ℕ} 0 1 = cc (low.bare, (paths n).1 path) in omega arith),
        λ m before. (paths m).0 (low.before m (omega arith) before),
      ))
      (and_refused (table_check source registers nodes entry table) _ e)

  dead_refused : LowestDead → source_check registers nodes entry table ≡ refused 9 n
  unfolding source_check reach_check
  dead_refused (accepted, inside, dead, before) =
      rw accepted
      (lowest_unmarked (reached (node_at table) nodes entry) nodes 0 n (omega arith) (omega arith)
      (bare (marked (reached (node_at table) nodes entry) n) (λ e. dead ((paths n).0 e)))
      (λ m low high. (paths m).1 (before m high)))
    where
      paths : (m : ℕ) → (marked (reached (node_at table) nodes entry) m ≡ true) ↔ Path (node_at table) entry m
      paths = reached_path registers nodes entry table accepted

      bare : (b : Bool) → (b ≡ true → ⊥) → b ≡ false
      bare true never = absurd (never refl)
      bare false never = refl

  pub unreachable : (source_check registers nodes entry table ≡ refused 9 n) ↔ LowestDead
  unreachable = (refused_dead, dead_refused)

-- node 0 returns; nodes 1 and 2 jump only to each other, so an edge enters each and both are dead
pub two_dead : source_check 1 3 0 (7 ∷ 0 ∷ 0 ∷ 0 ∷ 0 ∷ 0 ∷ 5 ∷ 0 ∷ 2 ∷ 0 ∷ 0 ∷ 0 ∷ 5 ∷ 0 ∷ 1 ∷ 0 ∷ 0 ∷ 0 ∷ []) ≡ refused 9 1
unfolding layouts role_at node_of node_at followed reached_in reached fault_at words_from table_check unmarked_from reach_check source_check
two_dead = refl
