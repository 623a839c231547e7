-- `words::groups::group` meets its contract: each way through it is one of `groups`, and what the rest of the number
-- gives is small enough to go before. The measure is the number of bytes that may follow. Assumes nothing.
use Rattle.words.proofs.groups.+group.Given as goal

abbrev pub decreases-group : goal.decreases-group
decreases-group l = l.more
