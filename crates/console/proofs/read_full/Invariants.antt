-- What was read so far lies within the buffer, and each turn reads more.
use Rattle.std.proofs.Common.{◌-◌, ◌≤◌, length}
use Rattle.console.proofs.read_full.Given as goal

abbrev pub invariant-loop-size : goal.invariant-loop-size
invariant-loop-size l = l.size ≤ length l.bytes

abbrev pub decreases-loop-size : goal.decreases-loop-size
decreases-loop-size l = length l.bytes - l.size
