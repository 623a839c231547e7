-- `text::Text::digits` meets its contract: the measure is the number of digits that may stand before the last.
-- Assumes nothing.
use Rattle.text.proofs.Text.+digits.Given as goal

abbrev pub decreases-digits : goal.decreases-digits
decreases-digits l = l.more
