-- `text::Text::spaced` meets its contract.
-- Assumes nothing.
use Rattle.text.specs.Decimals.{spaced}
use Rattle.text.proofs.Decimals.{spaced_more}
use Rattle.text.proofs.Text.spaced.Goals as goal

pub loop-word-init : goal.loop-word-init
unfolding spaced
loop-word-init c = c.nothing.ensures

pub loop-word-preserved : goal.loop-word-preserved
loop-word-preserved c = cc (spaced_more c.args.self.now c.args.words.now c.loop-word.word-index c.loop-word-test.true)
