-- Document 01, "The file" and "Refusal numbers and the order of checks": what the reader makes of bytes.
-- Assumes nothing.
use Rattle.std.specs.Prelude.{ℕ, zero, suc, ◌+◌, ◌*◌, ◌%◌, Bool, true, false, cond, List, [], ◌∷◌, length, eqb, leb}
use Rattle.words.specs.Answer.{Answer, given, refused, demand, and_then, written}
use Rattle.words.specs.Buffer.{over}
use Rattle.words.specs.Number.{reading, number_at}
use Rattle.words.specs.declared.Reading.{Reading}
use Rattle.graph.specs.declared.Header.{Header}
use Rattle.graph.specs.declared.Limits.{Limits}
use Rattle.graph.specs.declared.Role.{Role}
use Rattle.graph.specs.declared.Role.TheVariants.{Kind, Operator, Comparison, Port, Register, Target, Free, Spare}
use Rattle.graph.specs.Limits.{runnable}
use Rattle.graph.specs.Kinds.{role_at, fault, in_range}

-- R or N: a number from 1 to its limit, or 3 at its offset
unfoldable pub count_at : List ℕ → ℕ → ℕ → Answer Reading
count_at bytes limit at =
    and_then (number_at bytes at) λ r.
    demand (in_range 1 limit r.value) 3 at (given r)

-- a number in order in its role: 1 and 2, then its range, all at its offset
unfoldable pub field_at : List ℕ → Limits → Role → ℕ → Answer Reading
field_at bytes limits role at =
    and_then (number_at bytes at) λ r.
    let number = fault limits.kinds limits.registers limits.nodes role r.value in
    cond (eqb number 0) (given r) (refused number at)

-- whether a word of a node stands in the file: spare words do not
abbrev pub stands : Role → Bool
stands Kind = true
stands Operator = true
stands Comparison = true
stands Port = true
stands Register = true
stands Target = true
stands Free = true
stands Spare = false

-- a word of a node: a field, or a spare word, which takes no bytes and is 0
unfoldable pub cell_at : List ℕ → Limits → Role → ℕ → Answer Reading
cell_at bytes limits role at = cond (stands role) (field_at bytes limits role at) (reading 0 at)

-- the kind of a node after its word: what stands in word 0
abbrev pub kind_after : ℕ → ℕ → ℕ → ℕ
kind_after word value kind = cond (eqb word 0) value kind

-- the words of a table, and the position after the last node
pub record Cells : Type 0 where
  pub words : List ℕ
  pub next : ℕ

abbrev pub before : ℕ → Answer Cells → Answer Cells
before w (given c) = given (record { words = w ∷ c.words; next = c.next })
before w (refused number place) = refused number place

-- the words of a table from index i upward, `left` of them, in a node of this kind
unfoldable pub cells_from : List ℕ → Limits → ℕ → ℕ → ℕ → ℕ → Answer Cells
cells_from bytes limits zero i kind at = given (record { words = []; next = at })
cells_from bytes limits (suc left) i kind at =
    and_then (cell_at bytes limits (role_at kind (i % 6)) at) λ r.
    before r.value (cells_from bytes limits left (i + 1) (kind_after (i % 6) r.value kind) r.next)

-- a graph's R, N and entry, and its words
pub record Contents : Type 0 where
  pub header : Header
  pub words : List ℕ

-- the limits of the words in a file: its own R and N, and the last kind of a runnable graph
abbrev pub own : ℕ → ℕ → Limits
own registers nodes = record { registers = registers; nodes = nodes; kinds = runnable.kinds }

-- the entry, then each node's kind and fields, and no bytes after the last node
unfoldable pub body_of : List ℕ → Limits → ℕ → Answer Contents
body_of bytes limits at =
    and_then (field_at bytes limits Target at) λ e.
    and_then (cells_from bytes limits (6 * limits.nodes) 0 0 e.next) λ c.
    demand (leb (length bytes) c.next) 10 c.next
    (given (record { header = record { registers = limits.registers; nodes = limits.nodes; entry = e.value }; words = c.words }))

-- R, N, room right after N, then the entry and the nodes
unfoldable pub contents_of : List ℕ → ℕ → Answer Contents
contents_of bytes room =
    and_then (count_at bytes runnable.registers 0) λ r.
    and_then (count_at bytes runnable.nodes r.next) λ n.
    demand (leb (6 * n.value) room) 4 (6 * n.value)
    (body_of bytes (own r.value n.value) n.next)

-- what reading into a table of this length answers
unfoldable pub read_answer : List ℕ → ℕ → Answer Header
read_answer bytes room = and_then (contents_of bytes room) λ c. given c.header

-- an accepted graph's words over the first 6N of the table; a refusal leaves it as it stood
unfoldable pub read_table : List ℕ → List ℕ → List ℕ
read_table bytes table = written (contents_of bytes (length table)) (λ c. over c.words table) table
