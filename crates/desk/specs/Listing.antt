-- Document 01, "One listing, whole": a graph in text.
-- Assumes nothing.
use Rattle.std.specs.Prelude.{ℕ, zero, suc, ◌*◌, List, [], ◌∷◌, ◌++◌, take, drop}
use Rattle.text.specs.Decimals.{decimal, spaced}
use Rattle.graph.specs.declared.Header.{Header}
use Rattle.desk.specs.Lines.{line}

-- a node's number and six words
unfoldable pub row_line : List ℕ → ℕ → List ℕ
row_line table n = line (decimal n ++ spaced (take 6 (drop (6 * n) table)))

-- the nodes below n
unfoldable pub row_lines : List ℕ → ℕ → List ℕ
row_lines table zero = []
row_lines table (suc n) = row_lines table n ++ row_line table n

-- first R, N and entry, then each node
unfoldable pub listing : Header → List ℕ → List ℕ
listing h table = line (decimal h.registers ++ spaced (h.nodes ∷ h.entry ∷ [])) ++ row_lines table h.nodes
