-- Document 01, "Refusal numbers and the order of checks": a buffer whose first words are written and whose later words stay.
-- Assumes nothing.
use Rattle.std.specs.Prelude.{ℕ, List, ◌++◌, length, drop}
use Rattle.std.proofs.lemmas.List.Edits.{sets}

-- ws over the first words of the buffer; the later ones stay
unfoldable pub over : List ℕ → List ℕ → List ℕ
over ws buffer = ws ++ drop (length ws) buffer

-- the buffer with ws at an index and upward; what would lie past the end is lost
unfoldable pub put : List ℕ → ℕ → List ℕ → List ℕ
put buffer i ws = sets buffer i ws
