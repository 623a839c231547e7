-- `file::walk::put_node` meets its contract. The loop's invariant: the bytes of the words from here on are left to be put.
-- Assumes nothing.
use mathlib.Core.Path.{ap}
use native.Mathlib.Omega.{arith}
use Prim.Native.Nat.{◌+◌, ◌≤◌}
use lib.ListN.{length}
use Rattle.file.specs.Writing.{cells_of}
use Rattle.file.proofs.Writes.{cells_short, word_more, words_none, fresh, walk_first, walk_room, walk_more, walk_end}
use Rattle.file.proofs.walk.put_node.Goals as goal

pub loop-word-init : goal.loop-word-init
loop-word-init c = walk_first _ _ _ _ (fresh _ _)

pub overflow_add-at : goal.overflow_add-at
overflow_add-at c =
    let more = word_more _ _ _ c.loop-word-test.true c.requires.1 c.role_at.ensures in
    let room : c.loop-word.at + c.put_cell-at.result ≤ c.args.first + length (cells_of c.args.node.now 0 0) =
    walk_room c.loop-word.invariant _ _ _ more c.put_cell-at.ensures.value in
    omega (arith, c.requires.0, c.requires.1, cells_short c.args.node.now 0 0)

pub loop-word-preserved : goal.loop-word-preserved
loop-word-preserved c =
    let more = word_more _ _ _ c.loop-word-test.true c.requires.1 c.role_at.ensures in
    let next = ap (λ n. c.loop-word.at + n) c.put_cell-at.ensures.value in
    walk_more c.loop-word.invariant _ _ _ _ more next c.put_cell-at.ensures.out_after

pub returns : goal.returns
returns c =
    let end = walk_end c.loop-word.invariant (words_none _ _ _ c.loop-word-test.false) in
    record { value = end.0; out_after = end.1 }
