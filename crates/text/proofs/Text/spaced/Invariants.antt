-- `text::Text::spaced` meets its contract. The loop's invariant: the words passed are written.
-- Assumes nothing.
use Rattle.std.proofs.Common.{◌≡◌, take}
use Rattle.text.specs.Decimals.{spaced}
use Rattle.text.specs.Places.{appended}
use Rattle.text.proofs.Text.spaced.Given as goal

abbrev pub invariant-loop-word : goal.invariant-loop-word
invariant-loop-word l = l.self ≡ appended l.fn.self (spaced (take l.word-index l.words))
