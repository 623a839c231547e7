-- Document 01, "The file", written as document 02, K2, asks: the bytes of a graph in a table, and what the writer makes of a buffer.
-- Assumes nothing.
use Rattle.std.specs.Prelude.{ℕ, ◌+◌, ◌*◌, ◌%◌, cond, List, [], ◌∷◌, ◌++◌, length, take, leb}
use Rattle.words.specs.Answer.{Answer, given, demand, and_then, written}
use Rattle.words.specs.Buffer.{over}
use Rattle.words.specs.Number.{number_of}
use Rattle.graph.specs.declared.Role.{Role}
use Rattle.graph.specs.Kinds.{role_at}
use Rattle.graph.specs.Checks.{runnable_check}
use Rattle.file.specs.Reading.{stands, kind_after}

-- the bytes of a node's word: a field's number; a spare word takes none
unfoldable pub cell_of : Role → ℕ → List ℕ
cell_of role word = cond (stands role) (number_of word) []

-- the bytes of the words of a table from index i upward, in a node of this kind
unfoldable pub cells_of : List ℕ → ℕ → ℕ → List ℕ
cells_of [] i kind = []
cells_of (word ∷ words) i kind = cell_of (role_at kind (i % 6)) word ++ cells_of words (i + 1) (kind_after (i % 6) word kind)

-- R, N and entry
unfoldable pub header_of : ℕ → ℕ → ℕ → List ℕ
header_of registers nodes entry = number_of registers ++ number_of nodes ++ number_of entry

-- the file: R, N, entry, then each node's kind and fields, without spare words
unfoldable pub file_of : ℕ → ℕ → ℕ → List ℕ → List ℕ
file_of registers nodes entry table = header_of registers nodes entry ++ cells_of (take (6 * nodes) table) 0 0

-- the graph's refusals, then 15 at the bytes needed; else how many bytes the file has
unfoldable pub write_answer : ℕ → ℕ → ℕ → List ℕ → ℕ → Answer ℕ
write_answer registers nodes entry table room =
    let size = length (file_of registers nodes entry table) in
    and_then (runnable_check registers nodes entry table) λ _.
    demand (leb size room) 15 size (given size)

-- the file over the first bytes of the buffer; later bytes stay, and a refusal leaves it as it stood
unfoldable pub write_output : ℕ → ℕ → ℕ → List ℕ → List ℕ → List ℕ
write_output registers nodes entry table out =
    written (write_answer registers nodes entry table (length out)) (λ _. over (file_of registers nodes entry table) out) out
