-- `writing::put_row` meets its contract. The invariant: the words passed are put. Assumes nothing.
use Prim.Native.Nat.{◌*◌}
use mathlib.Core.Path.{◌≡◌}
use lib.ListN.{take}
use Rattle.words.specs.Buffer.{put}
use Rattle.harden.proofs.writing.put_row.Given as goal

abbrev pub invariant-loop-j : goal.invariant-loop-j
invariant-loop-j l = l.out ≡ put l.initial.out (6 * l.n) (take l.j l.word-items)
