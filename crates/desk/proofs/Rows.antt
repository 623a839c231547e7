-- A listing's rows, one after the other.
-- Assumes nothing.
use Rattle.std.proofs.Common.{◌≡◌, ℕ, ◌+◌, List, ◌++◌, add-one, append_assoc}
use Rattle.text.specs.Places.{appended}
use Rattle.text.specs.declared.Text.{Text}
use Rattle.text.proofs.Writing.{appended_then}
use Rattle.desk.specs.Listing.{row_line, row_lines}

-- the lines so far, then the next node's
pub rows_more : (t : Text) (first table : List ℕ) (n : ℕ)
    → appended (appended t (first ++ row_lines table n)) (row_line table n) ≡ appended t (first ++ row_lines table (n + 1))
unfolding row_lines
rows_more t first table n =
    rw (add-one, ← append_assoc first (row_lines table n) (row_line table n)) (appended_then t (first ++ row_lines table n) (row_line table n))
