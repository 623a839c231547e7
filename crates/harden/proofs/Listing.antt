-- Document 01, "One listing, whole": the hardened graph of its bytes, computed from the definitions in one statement.
-- Assumes nothing.
use Prim.Native.Nat.{ℕ}
use mathlib.Core.Path.{◌≡◌, refl}
use mathlib.Core.List.{List, [], ◌∷◌}
use Rattle.words.specs.Answer.{given}
use Rattle.words.specs.Buffer.{over}
use Rattle.graph.specs.Kinds.{layouts, role_at}
use Rattle.graph.specs.Nodes.{node_of, node_at}
use Rattle.graph.specs.Paths.{followed, reached_in, reached}
use Rattle.graph.specs.Checks.{fault_at, words_from, table_check, unmarked_from, reach_check, source_check}
use Rattle.harden.specs.Blocks.{edges_into, branch_to, leader, predecessor, head_in, block_head, rank, signature}
use Rattle.harden.specs.Hardened.{is_leader, sign, crossing, extra_below, group_at, source_rows, group_rows, first_row, hardened_rows, hardened_count, hardened_table, source_of, harden_answer, harden_output}
use lib.ListN.{replicate}

-- the source of the listing, as its file is read
pub source : List ℕ
source =
    5 ∷ 0 ∷ 1 ∷ 0 ∷ 0 ∷ 0
    ∷ 4 ∷ 0 ∷ 0 ∷ 7 ∷ 2 ∷ 3
    ∷ 6 ∷ 1 ∷ 0 ∷ 4 ∷ 0 ∷ 0
    ∷ 1 ∷ 1 ∷ 9 ∷ 4 ∷ 0 ∷ 0
    ∷ 7 ∷ 1 ∷ 0 ∷ 0 ∷ 0 ∷ 0
    ∷ []

-- the listing's rows
pub listed : List ℕ
listed =
    5 ∷ 0 ∷ 1 ∷ 0 ∷ 0 ∷ 0
    ∷ 4 ∷ 0 ∷ 0 ∷ 7 ∷ 7 ∷ 8
    ∷ 6 ∷ 1 ∷ 0 ∷ 14 ∷ 0 ∷ 0
    ∷ 1 ∷ 1 ∷ 9 ∷ 17 ∷ 0 ∷ 0
    ∷ 7 ∷ 1 ∷ 0 ∷ 0 ∷ 0 ∷ 0
    ∷ 1 ∷ 2 ∷ 1 ∷ 0 ∷ 0 ∷ 0
    ∷ 8 ∷ 0 ∷ 0 ∷ 0 ∷ 0 ∷ 0
    ∷ 1 ∷ 3 ∷ 3 ∷ 9 ∷ 0 ∷ 0
    ∷ 1 ∷ 3 ∷ 2 ∷ 9 ∷ 0 ∷ 0
    ∷ 4 ∷ 0 ∷ 0 ∷ 7 ∷ 10 ∷ 12
    ∷ 2 ∷ 4 ∷ 2 ∷ 2 ∷ 3 ∷ 11
    ∷ 4 ∷ 1 ∷ 2 ∷ 2 ∷ 6 ∷ 2
    ∷ 2 ∷ 4 ∷ 2 ∷ 2 ∷ 3 ∷ 13
    ∷ 4 ∷ 1 ∷ 2 ∷ 3 ∷ 6 ∷ 3
    ∷ 1 ∷ 3 ∷ 6 ∷ 15 ∷ 0 ∷ 0
    ∷ 2 ∷ 4 ∷ 2 ∷ 2 ∷ 3 ∷ 16
    ∷ 4 ∷ 1 ∷ 2 ∷ 4 ∷ 6 ∷ 4
    ∷ 1 ∷ 3 ∷ 7 ∷ 18 ∷ 0 ∷ 0
    ∷ 2 ∷ 4 ∷ 2 ∷ 2 ∷ 3 ∷ 19
    ∷ 4 ∷ 1 ∷ 2 ∷ 4 ∷ 6 ∷ 4
    ∷ []

-- R, N and entry of the first line, then the rows, and a last word of the output that stays
pub listing : (harden_answer 2 5 0 source 121 ≡ given (record { registers = 4; nodes = 20; entry = 5 }))
    × (harden_output 2 5 0 source (replicate 121 9) ≡ over listed (replicate 121 9))
unfolding source listed over node_of node_at layouts role_at followed reached_in reached fault_at words_from table_check unmarked_from reach_check source_check edges_into branch_to leader predecessor head_in block_head rank signature is_leader sign crossing extra_below group_at source_rows group_rows first_row hardened_rows hardened_count hardened_table source_of harden_answer harden_output
listing = (refl, refl)
