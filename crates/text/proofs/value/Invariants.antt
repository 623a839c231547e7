-- `text::value` meets its contract. The loop's invariant: the number of the whole text is that of the bytes left, after those
-- passed. Assumes nothing.
use Rattle.std.proofs.Common.{◌≡◌, drop}
use Rattle.text.specs.Decimals.{value_from, value_of}
use Rattle.text.proofs.value.Given as goal

abbrev pub invariant-loop-b : goal.invariant-loop-b
invariant-loop-b l = value_of l.text ≡ value_from l.n (drop l.b-index l.text)
