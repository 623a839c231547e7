-- `text::Text::number` meets its contract.
-- Assumes nothing.
use Rattle.text.specs.Decimals.{decimal}
use Rattle.text.proofs.Text.number.Goals as goal

pub returns : goal.returns
unfolding decimal
returns c = c.digits.ensures
