-- `file::numbers::count` meets its contract, way by way. Assumes nothing.
use native.Mathlib.Omega.{arith}
use Rattle.file.specs.Reading.{count_at}
use Rattle.file.proofs.Thens.{then_value, handed_on}
use Rattle.std.proofs.lemmas.Grind.{common_steps}
use Rattle.file.proofs.numbers.count.Goals as goal

pub returns-in_default : goal.returns-in_default
unfolding count_at
returns-in_default c = handed_on _ c.in_default.is c.number_at-number.ensures

pub returns-then-reading-limit : goal.returns-then-reading-limit
unfolding count_at
returns-then-reading-limit c = rw (then_value _ c.in-Ok.is c.number_at-number.ensures) (grind (arith, common_steps))

pub returns-else-reading-gt0 : goal.returns-else-reading-gt0
unfolding count_at
returns-else-reading-gt0 c = rw (then_value _ c.in-Ok.is c.number_at-number.ensures, c.at.ensures) (grind (arith, common_steps))
