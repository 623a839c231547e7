-- `text::Text::piece` meets its contract. The loop's invariant: the bytes passed are written.
-- Assumes nothing.
use Rattle.std.proofs.Common.{◌≡◌, take}
use Rattle.text.specs.Places.{appended}
use Rattle.text.proofs.Text.piece.Given as goal

abbrev pub invariant-loop-b : goal.invariant-loop-b
invariant-loop-b l = l.self ≡ appended l.fn.self (take l.b-index l.text)
