-- `text::Text::nothing` meets its contract.
-- Assumes nothing.
use Rattle.text.proofs.Writing.{appended_none}
use Rattle.text.proofs.Text.nothing.Goals as goal

pub returns : goal.returns
returns c = appended_none c.args.self.now c.min-self.result c.min-self.ensures
