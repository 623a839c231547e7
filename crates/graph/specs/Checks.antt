-- Document 01, "Refusal numbers and the order of checks": what a table entry point answers of a graph.
-- Assumes nothing.
use Rattle.std.specs.Prelude.{ℕ, zero, suc, ◌+◌, ◌*◌, ◌/◌, ◌%◌, cond, List, length, get_or, eqb, ltb, leb}
use Rattle.words.specs.Answer.{Answer, given, refused, demand, and_then}
use Rattle.graph.specs.declared.Limits.{Limits}
use Rattle.graph.specs.Limits.{runnable, source}
use Rattle.graph.specs.Kinds.{role_at, fault, in_range}
use Rattle.graph.specs.Nodes.{node_at}
use Rattle.graph.specs.Paths.{Marks, marked, reached}

-- the refusal's number for the word at an index of a table, 0 where it is in order
unfoldable pub fault_at : ℕ → ℕ → ℕ → List ℕ → ℕ → ℕ
fault_at kinds registers nodes table i =
    fault kinds registers nodes (role_at (get_or table (i / 6 * 6) 0) (i % 6)) (get_or table i 0)

-- the words from an index upward, `left` of them
unfoldable pub words_from : ℕ → ℕ → ℕ → List ℕ → ℕ → ℕ → Answer Unit
words_from kinds registers nodes table zero i = given tt
words_from kinds registers nodes table (suc left) i =
    let number = fault_at kinds registers nodes table i in
    let rest = words_from kinds registers nodes table left (i + 1) in
    cond (eqb number 0) rest (refused number i)

-- R and N, room, entry, then nodes upward and words upward within a node
unfoldable pub table_check : Limits → ℕ → ℕ → ℕ → List ℕ → Answer Unit
table_check limits registers nodes entry table =
    demand (in_range 1 limits.registers registers) 3 0
    (demand (in_range 1 limits.nodes nodes) 3 0
    (demand (leb (6 * nodes) (length table)) 4 (6 * nodes)
    (demand (ltb entry nodes) 7 0
    (words_from limits.kinds registers nodes table (6 * nodes) 0))))

-- the lowest node without a mark, of `left` nodes from n upward
unfoldable pub unmarked_from : Marks → ℕ → ℕ → Answer Unit
unmarked_from marks zero n = given tt
unmarked_from marks (suc left) n = let rest = unmarked_from marks left (n + 1) in cond (marked marks n) rest (refused 9 n)

-- every node reachable, or the lowest that is not
unfoldable pub reach_check : ℕ → ℕ → List ℕ → Answer Unit
reach_check nodes entry table = unmarked_from (reached (node_at table) nodes entry) nodes 0

unfoldable pub runnable_check : ℕ → ℕ → ℕ → List ℕ → Answer Unit
runnable_check registers nodes entry table = table_check runnable registers nodes entry table

unfoldable pub source_check : ℕ → ℕ → ℕ → List ℕ → Answer Unit
source_check registers nodes entry table =
    and_then (table_check source registers nodes entry table) (λ _. reach_check nodes entry table)
