-- The cells filled so far and those still to come lie within the buffer.
use Rattle.std.proofs.Common.{◌≤◌, ◌≡◌, length, ◌+◌}
use Rattle.std.specs.Iterator.Adapters.{enumerate_source}
use Rattle.std.specs.Slice.Iter.{chunks_exact_mut_rest, chunks_exact_mut_size}
use Rattle.console.proofs.arguments.Given as goal

abbrev pub invariant-loop-i : goal.invariant-loop-i
invariant-loop-i l =
    (chunks_exact_mut_size (enumerate_source l.i-iterator) ≡ 16)
    × (l.used + length (chunks_exact_mut_rest (enumerate_source l.i-iterator)) ≤ length l.fn.cells)
