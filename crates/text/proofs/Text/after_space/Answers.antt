-- `text::Text::after_space` meets its contract.
-- Assumes nothing.
use Rattle.text.proofs.Decimals.{spaced_one}
use Rattle.text.proofs.Text.after_space.Goals as goal

pub returns : goal.returns
returns c = cc (spaced_one c.args.self.now c.args.n)
