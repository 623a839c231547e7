-- What the passes of the hardener compute, for the contracts of its private functions: no public contract cites this file.
-- Assumes nothing.
use Rattle.std.specs.Prelude.{ℕ, zero, suc, ◌+◌, ◌*◌, ◌<◌, ◌≤◌, ◌≡◌, Bool, true, false, cond, List, [], ◌∷◌, ◌++◌, length, get_or, set, replicate, leb}
use Rattle.words.specs.Answer.{Answer, given, demand, written}
use Rattle.words.specs.Buffer.{put, over}
use Rattle.graph.specs.Nodes.{Node, go, branch, ret, stop, node_at}
use Rattle.harden.specs.Blocks.{Plan, one_plus_rank}
use Rattle.harden.specs.Hardened.{table_of, prepare, update, check, Source, is_leader, sign, group_at, hardened_count, hardened_table}
use Rattle.graph.specs.declared.Header.{Header}
use Rattle.graph.specs.declared.Successors.{Successors}
use Rattle.graph.specs.declared.Successors.TheVariants.{None, One, Two}
use Rattle.harden.specs.declared.accepted.Accepted.{Accepted}
use Rattle.harden.specs.declared.grading.Grade.{Grade}
use Rattle.harden.specs.declared.grading.Grade.TheVariants.{NoEdge, OneEdge, Leader}

-- as many zeros as a source has nodes at most
unfoldable pub zeros : List ℕ
zeros = replicate 256 0

-- and as many grades of a node without an edge into it
unfoldable pub ungraded : List Grade
ungraded = replicate 256 NoEdge

-- whether a grade is a leader's
abbrev pub of_leader : Grade → Bool
of_leader NoEdge = false
of_leader OneEdge = false
of_leader Leader = true

abbrev pub leads : List Grade → ℕ → Bool
leads grades n = of_leader (get_or grades n NoEdge)

-- the grade after one edge more
abbrev pub raised : Grade → Grade
raised NoEdge = OneEdge
raised OneEdge = Leader
raised Leader = Leader

-- the grades after the edges of one node more
abbrev pub graded : Node → List Grade → List Grade
graded (go action next) grades = set grades next (raised (get_or grades next NoEdge))
graded (branch c a b then else) grades = set (set grades then Leader) else Leader
graded (ret a) grades = grades
graded stop grades = grades

-- the grades after the edges of the nodes below m
abbrev pub grades_below : (ℕ → Node) → List Grade → ℕ → List Grade
grades_below graph grades zero = grades
grades_below graph grades (suc m) = graded (graph m) (grades_below graph grades m)

-- predecessors, one a node, after the edges of node m too
abbrev pub preceded : ℕ → Node → List ℕ → List ℕ
preceded m (go action next) before = set before next m
preceded m (branch c a b then else) before = set (set before then m) else m
preceded m (ret a) before = before
preceded m stop before = before

abbrev pub preceders_below : (ℕ → Node) → List ℕ → ℕ → List ℕ
preceders_below graph before zero = before
preceders_below graph before (suc m) = preceded m (graph m) (preceders_below graph before m)

-- from a node back to a leader, by grades and predecessors
abbrev pub head_by : List Grade → List ℕ → ℕ → ℕ → ℕ
head_by grades preceders zero n = n
head_by grades preceders (suc steps) n =
    let further = head_by grades preceders steps (get_or preceders n 0) in
    cond (leads grades n) n further

-- the leaders below a node
abbrev pub leaders_below : List Grade → ℕ → ℕ
leaders_below grades zero = 0
leaders_below grades (suc n) = leaders_below grades n + cond (leads grades n) 1 0

-- a list whose first n elements are a function's
abbrev pub filled : (ℕ → ℕ) → List ℕ → ℕ → List ℕ
filled f l zero = l
filled f l (suc n) = set (filled f l n) n (f n)

-- the signature that a node has as a leader, and that of its block
abbrev pub as_leader : Plan → List Grade → ℕ → ℕ
as_leader plan grades n = plan (leaders_below grades n)

abbrev pub as_block : List Grade → List ℕ → List ℕ → ℕ → ℕ → ℕ
as_block grades preceders leaders nodes n = get_or leaders (head_by grades preceders nodes n) 0

-- the signatures of all blocks, from the grades
unfoldable pub block_signatures : Plan → (ℕ → Node) → List Grade → ℕ → List ℕ
block_signatures plan graph grades nodes =
    filled (as_block grades (preceders_below graph zeros nodes) (filled (as_leader plan grades) zeros nodes) nodes) zeros nodes

-- the buffer with rows from row n upward
unfoldable pub put_rows : List ℕ → ℕ → List Node → List ℕ
put_rows buffer n rows = put buffer (6 * n) (table_of rows)

-- a node with other targets
abbrev pub aimed : ℕ → ℕ → Node → Node
aimed first second (go action next) = go action first
aimed first second (branch c a b then else) = branch c a b first second
aimed first second (ret a) = ret a
aimed first second stop = stop

-- where the first edge of a source node goes in the hardened graph
abbrev pub first_to : ℕ → Bool → Node → ℕ
first_to e crossing (go action next) = cond crossing e next
first_to e crossing (branch c a b then else) = e
first_to e crossing (ret a) = 0
first_to e crossing stop = 0

-- targets that are nodes
abbrev pub Inside : ℕ → Successors → Type 0
Inside nodes None = Unit {0}
Inside nodes (One next) = next < nodes
Inside nodes (Two then else) = (then < nodes) × (else < nodes)

-- the source in an accepted table
abbrev pub source_in : Accepted → Source
source_in a =
    record { plan = one_plus_rank; registers = a.header.registers; nodes = a.header.nodes; entry = a.header.entry; graph = node_at a.table.now }

-- grades, signatures and starts of groups that are a source's
abbrev pub Led : Source → List Grade → Type 0
Led s grades = (n : ℕ) → n < s.nodes → leads grades n ≡ is_leader s n

abbrev pub Signed : Source → List ℕ → Type 0
Signed s signatures = (n : ℕ) → n < s.nodes → get_or signatures n 0 ≡ sign s n

abbrev pub Started : Source → List ℕ → Type 0
Started s starts = (n : ℕ) → n ≤ s.nodes → get_or starts n 0 ≡ group_at s n

-- the update at e and the check after it, of an edge to the target
abbrev pub arrival : Source → ℕ → ℕ → List Node
arrival s e target = update s.registers (e + 1) ∷ check s.registers (sign s target) (s.nodes + 1) target ∷ []

-- the three extra nodes of an edge from n that crosses to the leader l, e the first
abbrev pub crossing_to : Source → (e n l : ℕ) → List Node
crossing_to s e n l = prepare s.registers (sign s n) (sign s l) (e + 1) ∷ arrival s (e + 1) l

-- the seven extra nodes of a branch at n, e the first
abbrev pub branching : Source → (e n t f : ℕ) → List Node
branching s e n t f =
    prepare s.registers (sign s n) (sign s t) (e + 2)
    ∷ prepare s.registers (sign s n) (sign s f) (e + 2)
    ∷ aimed (e + 3) (e + 5) (s.graph n)
    ∷ arrival s (e + 3) t
    ++ arrival s (e + 5) f

-- what hardening answers of an accepted source, and what it writes, by the room there is
abbrev pub room_answer : Source → ℕ → Answer Header
room_answer s room =
    let h = hardened_count s in
    demand {A = Header} (leb (6 * h) room) 11 (6 * h) (given (record { registers = s.registers + 2; nodes = h; entry = s.nodes }))

abbrev pub room_output : Source → List ℕ → List ℕ
room_output s out = written (room_answer s (length out)) (λ _. over (hardened_table s) out) out
