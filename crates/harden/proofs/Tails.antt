-- Hardening does not look at a table's words behind the first 6N: blocks, signatures and rows are made of the nodes below N.
-- Assumes nothing.
use mathlib.Core.Path.{◌≡◌, refl, fun_ext}
use mathlib.Core.List.{List}
use Prim.Native.Nat.{ℕ, zero, suc, ◌*◌, ◌≤◌, ◌<◌}
use native.Mathlib.Omega.{arith}
use lib.ListN.{length, take}
use Rattle.graph.specs.Nodes.{Node, node_at}
use Rattle.graph.proofs.Tails.{node_same, source-same}
use Rattle.harden.specs.Blocks.{Plan, edges_into, branch_to, leader, predecessor, head_in, block_head, rank, signature, one_plus_rank}
use Rattle.harden.specs.Hardened.{Source, is_leader, sign, crossing, extra_below, group_at, source_rows, group_rows, first_row, hardened_rows, hardened_count, hardened_table, source_of, harden_answer, harden_output}

-- two graphs that agree below N have the same blocks and signatures
module _ (graph graph' : ℕ → Node) (nodes entry : ℕ) (alike : (n : ℕ) → n < nodes → graph n ≡ graph' n) where
  edges-same : (m n : ℕ) → m ≤ nodes → edges_into graph m n ≡ edges_into graph' m n
  unfolding edges_into
  edges-same zero n h = refl
  edges-same (suc m) n h = rw (edges-same m n (omega arith), alike m h)

  branch_same : (m n : ℕ) → m ≤ nodes → branch_to graph m n ≡ branch_to graph' m n
  unfolding branch_to
  branch_same zero n h = refl
  branch_same (suc m) n h = rw (branch_same m n (omega arith), alike m h)

  leader-same : (n : ℕ) → leader graph nodes entry n ≡ leader graph' nodes entry n
  unfolding leader
  leader-same n = rw (edges-same nodes n (omega arith), branch_same nodes n (omega arith))

  predecessor-same : (m n : ℕ) → m ≤ nodes → predecessor graph m n ≡ predecessor graph' m n
  unfolding predecessor
  predecessor-same zero n h = refl
  predecessor-same (suc m) n h = rw (predecessor-same m n (omega arith), alike m h)

  head_same : (steps n : ℕ) → head_in graph nodes entry steps n ≡ head_in graph' nodes entry steps n
  unfolding head_in
  head_same zero n = refl
  head_same (suc steps) n = rw (leader-same n, predecessor-same nodes n (omega arith), head_same steps (predecessor graph' nodes n))

  rank_same : (n : ℕ) → rank graph nodes entry n ≡ rank graph' nodes entry n
  unfolding rank
  rank_same zero = refl
  rank_same (suc n) = rw (rank_same n, leader-same n)

  signature-same : (plan : Plan) (n : ℕ) → signature plan graph nodes entry n ≡ signature plan graph' nodes entry n
  unfolding signature block_head
  signature-same plan n = rw (head_same nodes n, rank_same (head_in graph' nodes entry nodes n))

  -- and the same hardened graph
  module _ (plan : Plan) (registers : ℕ) where
    abbrev s : Source
    s = record { plan = plan; registers = registers; nodes = nodes; entry = entry; graph = graph }

    abbrev s' : Source
    s' = record { plan = plan; registers = registers; nodes = nodes; entry = entry; graph = graph' }

    leads-same : is_leader s ≡ is_leader s'
    unfolding is_leader
    leads-same = fun_ext leader-same

    sign_same : sign s ≡ sign s'
    unfolding sign
    sign_same = fun_ext (signature-same plan)

    crossing-same : (n : ℕ) → n < nodes → crossing s n ≡ crossing s' n
    unfolding crossing
    crossing-same n h = rw (leads-same, alike n h)

    extra-same : (n : ℕ) → n ≤ nodes → extra_below s n ≡ extra_below s' n
    unfolding extra_below
    extra-same zero h = refl
    extra-same (suc n) h = rw (extra-same n (omega arith), crossing-same n h, alike n h)

    group-same : (n : ℕ) → n ≤ nodes → group_at s n ≡ group_at s' n
    unfolding group_at
    group-same n h = rw (extra-same n h)

    source_rows_same : (n : ℕ) → n ≤ nodes → source_rows s n ≡ source_rows s' n
    unfolding source_rows
    source_rows_same zero h = refl
    source_rows_same (suc n) h = rw (source_rows_same n (omega arith), group-same n (omega arith), crossing-same n h, alike n h)

    group_rows_same : (n : ℕ) → n ≤ nodes → group_rows s n ≡ group_rows s' n
    unfolding group_rows
    group_rows_same zero h = refl
    group_rows_same (suc n) h = rw (group_rows_same n (omega arith), group-same n (omega arith), crossing-same n h, sign_same, alike n h)

    count_same : hardened_count s ≡ hardened_count s'
    unfolding hardened_count
    count_same = group-same nodes (omega arith)

    table_same : hardened_table s ≡ hardened_table s'
    unfolding hardened_table hardened_rows first_row
    table_same = rw (source_rows_same nodes (omega arith), group_rows_same nodes (omega arith), sign_same)

-- two tables with the same first 6N words
module _ (registers nodes entry : ℕ) (table table' : List ℕ) (same : take (6 * nodes) table ≡ take (6 * nodes) table') where
  -- get the same answer of `harden`
  pub harden_same : (room : ℕ) → harden_answer registers nodes entry table room ≡ harden_answer registers nodes entry table' room
  unfolding harden_answer source_of
  harden_same room =
      rw (
        source-same nodes table table' same registers entry,
        count_same (node_at table) (node_at table') nodes entry (node_same nodes table table' same) one_plus_rank registers,
      )

  -- and leave the same output
  pub output_same : (out : List ℕ) → harden_output registers nodes entry table out ≡ harden_output registers nodes entry table' out
  unfolding harden_output source_of
  output_same out =
      rw (harden_same (length out), table_same (node_at table) (node_at table') nodes entry (node_same nodes table table' same) one_plus_rank registers)
