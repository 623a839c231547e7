-- `words::number_at` meets its contract: a number is its groups, of which at most four may follow the first. Assumes nothing.
use Rattle.words.specs.Number.{number_at}
use Rattle.words.proofs.number_at.Goals as goal

pub returns : goal.returns
unfolding number_at
returns c = c.group.ensures
