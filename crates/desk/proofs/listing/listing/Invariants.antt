-- `desk::listing::listing` meets its contract. The loop's invariant: the first line and the nodes passed are written.
-- Assumes nothing.
use Rattle.std.proofs.Common.{◌≡◌, ◌++◌, ◌∷◌, []}
use Rattle.text.specs.Decimals.{decimal, spaced}
use Rattle.text.specs.Places.{appended}
use Rattle.desk.specs.Lines.{line}
use Rattle.desk.specs.Listing.{row_lines}
use Rattle.desk.proofs.listing.listing.Given as goal

abbrev pub invariant-loop-n : goal.invariant-loop-n
invariant-loop-n l =
    let h = l.fn.h in
    l.out ≡ appended l.fn.out (line (decimal h.registers ++ spaced (h.nodes ∷ h.entry ∷ [])) ++ row_lines l.table l.n)
