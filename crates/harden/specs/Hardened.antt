-- Document 01, "The hardened graph": the nodes of the hardened graph, row by row, and what hardening answers and writes.
-- Assumes nothing.
use Rattle.std.specs.Prelude.{ℕ, zero, suc, ◌+◌, ◌*◌, Bool, true, false, cond, List, [], ◌∷◌, ◌++◌, length, get_or, leb}
use Rattle.std.specs.Int.Bits.{bit_xor}
use Rattle.words.specs.Answer.{Answer, given, demand, and_then, written}
use Rattle.words.specs.Buffer.{over}
use Rattle.graph.specs.Nodes.{Node, go, branch, ret, stop, const, op, Operand, constant, node_at, words_of}
use Rattle.graph.specs.Checks.{source_check}
use Rattle.harden.specs.Blocks.{Plan, leader, signature, crosses, one_plus_rank}
use Rattle.graph.specs.declared.Header.{Header}

-- the extra nodes of a branch, and of a node whose edge crosses or not
abbrev pub extra : Bool → Node → ℕ
extra crossing (branch c a b then else) = 7
extra crossing (go action next) = cond crossing 3 0
extra crossing (ret a) = 0
extra crossing stop = 0

-- RTS becomes the difference of two signatures
abbrev pub prepare : ℕ → ℕ → ℕ → ℕ → Node
prepare registers from to next = go (const (registers + 1) (bit_xor from to)) next

-- GSR becomes GSR xor RTS
abbrev pub update : ℕ → ℕ → Node
update registers next = go (op 4 registers registers (registers + 1)) next

-- if GSR is not equal to the signature the catch, else the target
abbrev pub check : ℕ → ℕ → ℕ → ℕ → Node
check registers sign catch target = branch 1 registers (constant sign) catch target

-- the seven extra nodes of a branch, e the first of them, s the signature of its block
abbrev pub branch_group : (registers catch e s : ℕ) → (c a : ℕ) → Operand → (t f st sf : ℕ) → List Node
branch_group registers catch e s c a b t f st sf =
    prepare registers s st (e + 2)
    ∷ prepare registers s sf (e + 2)
    ∷ branch c a b (e + 3) (e + 5)
    ∷ update registers (e + 4)
    ∷ check registers st catch t
    ∷ update registers (e + 6)
    ∷ check registers sf catch f
    ∷ []

-- the three extra nodes of an edge that crosses to the leader l
abbrev pub crossing_group : (registers catch e s l sl : ℕ) → List Node
crossing_group registers catch e s l sl =
    prepare registers s sl (e + 1) ∷ update registers (e + 2) ∷ check registers sl catch l ∷ []

-- the group of a node
abbrev pub group_of : (registers catch e : ℕ) → (ℕ → ℕ) → Bool → ℕ → Node → List Node
group_of registers catch e sign crossing n (branch c a b t f) =
    branch_group registers catch e (sign n) c a b t f (sign t) (sign f)
group_of registers catch e sign crossing n (go action l) =
    cond crossing (crossing_group registers catch e (sign n) l (sign l)) []
group_of registers catch e sign crossing n (ret a) = []
group_of registers catch e sign crossing n stop = []

-- a source node's own row: a branch goes to e and e+1, an edge that crosses to e, all else stays
abbrev pub own_row : ℕ → Bool → Node → Node
own_row e crossing (branch c a b then else) = branch c a b e (e + 1)
own_row e crossing (go action next) = go action (cond crossing e next)
own_row e crossing (ret a) = ret a
own_row e crossing stop = stop

-- a source graph with a plan for its signatures
pub record Source : Type 0 where
  pub plan : Plan
  pub registers : ℕ
  pub nodes : ℕ
  pub entry : ℕ
  pub graph : ℕ → Node

unfoldable pub is_leader : Source → ℕ → Bool
is_leader s n = leader s.graph s.nodes s.entry n

unfoldable pub sign : Source → ℕ → ℕ
sign s n = signature s.plan s.graph s.nodes s.entry n

unfoldable pub crossing : Source → ℕ → Bool
crossing s n = crosses (is_leader s) (s.graph n)

-- the extra nodes of the source nodes below n
unfoldable pub extra_below : Source → ℕ → ℕ
extra_below s zero = 0
extra_below s (suc n) = extra_below s n + extra (crossing s n) (s.graph n)

-- the first extra node of a source node's group
unfoldable pub group_at : Source → ℕ → ℕ
group_at s n = s.nodes + 2 + extra_below s n

-- a source node's own row, and its group, e the first of its extra nodes
abbrev pub own_at : Source → ℕ → ℕ → Node
own_at s e n = own_row e (crossing s n) (s.graph n)

abbrev pub group_from : Source → ℕ → ℕ → List Node
group_from s e n = group_of s.registers (s.nodes + 1) e (sign s) (crossing s n) n (s.graph n)

-- the rows of the source nodes below n
unfoldable pub source_rows : Source → ℕ → List Node
source_rows s zero = []
source_rows s (suc n) = source_rows s n ++ (own_at s (group_at s n) n ∷ [])

-- the groups of the source nodes below n
unfoldable pub group_rows : Source → ℕ → List Node
group_rows s zero = []
group_rows s (suc n) = group_rows s n ++ group_from s (group_at s n) n

-- node N sets GSR to the entry block's signature and goes to the source entry
unfoldable pub first_row : Source → Node
first_row s = go (const s.registers (sign s s.entry)) s.entry

-- all nodes: the source nodes, node N, the catch, the groups in ascending order of source node
unfoldable pub hardened_rows : Source → List Node
hardened_rows s = source_rows s s.nodes ++ first_row s ∷ stop ∷ group_rows s s.nodes

-- row i of them
unfoldable pub row_at : Source → ℕ → Node
row_at s i = get_or (hardened_rows s) i stop

-- H
unfoldable pub hardened_count : Source → ℕ
hardened_count s = group_at s s.nodes

abbrev pub is_branch : Node → Bool
is_branch (branch c a b then else) = true
is_branch (go action next) = false
is_branch (ret a) = false
is_branch stop = false

-- the branch nodes below n: B at n = N
unfoldable pub branch_count : Source → ℕ → ℕ
branch_count s zero = 0
branch_count s (suc n) = branch_count s n + cond (is_branch (s.graph n)) 1 0

-- the crossing edges from the nodes below n: X at n = N
unfoldable pub crossing_count : Source → ℕ → ℕ
crossing_count s zero = 0
crossing_count s (suc n) = crossing_count s n + cond (crossing s n) 1 0

-- the words of rows, six a row
abbrev pub table_of : List Node → List ℕ
table_of [] = []
table_of (row ∷ rows) = words_of row ++ table_of rows

unfoldable pub hardened_table : Source → List ℕ
hardened_table s = table_of (hardened_rows s)

-- the source in a table, its signatures 1 plus rank
unfoldable pub source_of : ℕ → ℕ → ℕ → List ℕ → Source
source_of registers nodes entry table =
    record { plan = one_plus_rank; registers = registers; nodes = nodes; entry = entry; graph = node_at table }

-- the source's checks, then room for 6H words in an output of this length
unfoldable pub harden_answer : ℕ → ℕ → ℕ → List ℕ → ℕ → Answer Header
harden_answer registers nodes entry table room =
    let h = hardened_count (source_of registers nodes entry table) in
    and_then (source_check registers nodes entry table) λ _.
    demand {A = Header} (leb (6 * h) room) 11 (6 * h) (given (record { registers = registers + 2; nodes = h; entry = nodes }))

-- an accepted source's table over the first 6H words of the output; a refusal leaves it as it stood
unfoldable pub harden_output : ℕ → ℕ → ℕ → List ℕ → List ℕ → List ℕ
harden_output registers nodes entry table out =
    written (harden_answer registers nodes entry table (length out))
    (λ _. over (hardened_table (source_of registers nodes entry table)) out)
    out
