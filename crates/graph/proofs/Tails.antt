-- The checks look at the first 6N words of a table, and the graph in it is made of them: what stands behind changes nothing.
-- Assumes nothing.
use mathlib.Core.Path.{◌≡◌, refl, sym, ap, ◌∙◌}
use mathlib.Core.List.{List}
use Prim.Native.Nat.{ℕ, zero, suc, ◌+◌, ◌*◌, ◌/◌, ◌≤◌, ◌<◌}
use native.Mathlib.Decide.{dec_le}
use native.Mathlib.Omega.{arith}
use borrow.Author.Tests.{le-leb, lt-leb}
use lib.Dec.{leb}
use lib.ListN.{length, get_or, take, length-take}
use lib.Seq.{get_or-take}
use Rattle.graph.specs.declared.Limits.{Limits}
use Rattle.graph.specs.Limits.{runnable, source}
use Rattle.graph.specs.Nodes.{Node, node_at}
use Rattle.graph.specs.Paths.{Marks, followed, reached_in, reached}
use Rattle.graph.specs.Checks.{fault_at, words_from, table_check, reach_check, runnable_check, source_check}

-- two graphs that agree below so many nodes reach the same of them
module _ (graph graph' : ℕ → Node) (nodes : ℕ) (alike : (n : ℕ) → n < nodes → graph n ≡ graph' n) where
  followed_same : (marks : Marks) (n : ℕ) → n ≤ nodes → followed graph marks n ≡ followed graph' marks n
  unfolding followed
  followed_same marks zero h = refl
  followed_same marks (suc n) h = rw (followed_same marks n (omega arith), alike n h)

  reached_in_same : (entry edges : ℕ) → reached_in graph nodes entry edges ≡ reached_in graph' nodes entry edges
  unfolding reached_in
  reached_in_same entry zero = refl
  reached_in_same entry (suc edges) = rw (reached_in_same entry edges) (followed_same _ nodes (omega arith))

  reached-same : (entry : ℕ) → reached graph nodes entry ≡ reached graph' nodes entry
  unfolding reached
  reached-same entry = reached_in_same entry nodes

module _ (nodes : ℕ) (table table' : List ℕ) (same : take (6 * nodes) table ≡ take (6 * nodes) table') where
  word_same : (i : ℕ) → i < 6 * nodes → get_or table i 0 ≡ get_or table' i 0
  word_same i h =
      sym (get_or-take (6 * nodes) table i 0 h) ∙ ap (λ (l : List ℕ). get_or l i 0) same ∙ get_or-take (6 * nodes) table' i 0 h

  -- both have room for the nodes, or neither
  room_same : leb (6 * nodes) (length table) ≡ leb (6 * nodes) (length table')
  room_same = by (dec_le (6 * nodes) (length table))
    where
      by : Dec (6 * nodes ≤ length table) → leb (6 * nodes) (length table) ≡ leb (6 * nodes) (length table')
      by (yes h) =
          let more : 6 * nodes ≤ length table' = omega (arith, length-take (6 * nodes) table, length-take (6 * nodes) table', ap length same) in
          rw (le-leb (6 * nodes) (length table) h, le-leb (6 * nodes) (length table') more)
      by (no h) =
          let short : length table < 6 * nodes = omega arith in
          let shorter : length table' < 6 * nodes = omega (arith, length-take (6 * nodes) table, length-take (6 * nodes) table', ap length same) in
          rw (lt-leb (6 * nodes) (length table) short, lt-leb (6 * nodes) (length table') shorter)

  -- the nodes of both tables are the same
  pub node_same : (n : ℕ) → n < nodes → node_at table n ≡ node_at table' n
  unfolding node_at
  node_same n h =
      rw (
        word_same (6 * n) (omega arith),
        word_same (6 * n + 1) (omega arith),
        word_same (6 * n + 2) (omega arith),
        word_same (6 * n + 3) (omega arith),
        word_same (6 * n + 4) (omega arith),
        word_same (6 * n + 5) (omega arith),
      )

  fault-same : (kinds registers i : ℕ) → i < 6 * nodes → fault_at kinds registers nodes table i ≡ fault_at kinds registers nodes table' i
  unfolding fault_at
  fault-same kinds registers i h = rw (word_same (i / 6 * 6) (omega arith), word_same i h)

  words_same : (kinds registers left i : ℕ) → i + left ≤ 6 * nodes
      → words_from kinds registers nodes table left i ≡ words_from kinds registers nodes table' left i
  unfolding words_from
  words_same kinds registers zero i h = refl
  words_same kinds registers (suc left) i h =
      rw (fault-same kinds registers i (omega arith), words_same kinds registers left (i + 1) (omega arith))

  table_same : (limits : Limits) (registers entry : ℕ) → table_check limits registers nodes entry table ≡ table_check limits registers nodes entry table'
  unfolding table_check
  table_same limits registers entry = rw (room_same, words_same limits.kinds registers (6 * nodes) 0 (omega arith))

  -- `check_runnable` does not look behind the first 6N words
  pub runnable-same : (registers entry : ℕ) → runnable_check registers nodes entry table ≡ runnable_check registers nodes entry table'
  unfolding runnable_check
  runnable-same registers entry = table_same runnable registers entry

  reach-same : (entry : ℕ) → reach_check nodes entry table ≡ reach_check nodes entry table'
  unfolding reach_check
  reach-same entry = rw (reached-same (node_at table) (node_at table') nodes node_same entry)

  -- nor does `check_source`
  pub source-same : (registers entry : ℕ) → source_check registers nodes entry table ≡ source_check registers nodes entry table'
  unfolding source_check
  source-same registers entry = rw (table_same source registers entry, reach-same entry)
