-- `text::Text::byte` meets its contract: where there is room the byte is stored, and else the place is the buffer's end.
-- Assumes nothing.
use Rattle.text.proofs.Writing.{appended_one, appended_lost}
use Rattle.text.proofs.Text.byte.Goals as goal

pub returns-then-self : goal.returns-then-self
returns-then-self c = appended_one c.args.self.now c.args.b c.if-self.true

pub returns-else-self : goal.returns-else-self
returns-else-self c = appended_lost c.args.self.now c.args.b c.if-self.false
