-- `words::put_number` meets its contract. The loop's invariant: the number put into the buffer that was lent is the rest's
-- bytes put into the buffer as it is, behind those that stand. Assumes nothing.
use mathlib.Core.Path.{◌≡◌}
use Prim.Native.Nat.{◌+◌, ◌-◌}
use lib.ListN.{length}
use Rattle.words.specs.Buffer.{put}
use Rattle.words.specs.Number.{shortest, number_of}
use Rattle.words.proofs.Shortest.{Left}
use Rattle.words.proofs.put_number.Given as goal

abbrev pub invariant-loop-rest : goal.invariant-loop-rest
invariant-loop-rest l =
    Left l.value l.size l.rest × (length l.out ≡ length l.initial.out) ×
    (put l.initial.out l.at (number_of l.value) ≡ put l.out (l.at + l.size) (shortest (4 - l.size) l.rest))

abbrev pub decreases-loop-rest : goal.decreases-loop-rest
decreases-loop-rest l = l.rest
