-- `text::Text::piece` meets its contract.
-- Assumes nothing.
use Rattle.text.proofs.Writing.{appended_more}
use Rattle.text.proofs.Text.piece.Goals as goal

pub loop-b-preserved : goal.loop-b-preserved
loop-b-preserved c = cc (appended_more c.args.self.now c.args.text.now c.loop-b.b-index c.loop-b-test.true)
