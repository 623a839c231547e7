-- `file::walk::write` meets its contract: a walk that puts nothing tells the size, and no file is longer than the longest.
-- Assumes nothing.
use mathlib.Core.Path.{◌≡◌, ◌∙◌}
use native.Mathlib.Omega.{arith}
use Prim.Native.Nat.{◌≤◌}
use lib.ListN.{length}
use Rattle.words.proofs.AllWords.{all_words}
use Rattle.file.proofs.Writes.{nothing_put, write_short, write_done}
use Rattle.file.proofs.Writer.{file_longest}
use Rattle.file.proofs.walk.write.Goals as goal
use Rattle.file.proofs.walk.write.Goals.{then-out-lt-LONGEST+else-out-size, else-out-lt-LONGEST}

pub returns-then-out-size : goal.returns-then-out-size
returns-then-out-size c =
    let untouched = nothing_put c.put_file-size.new.out c.args.out.now c.put_file-size.auto.out in
    let short = write_short _ _ _ _ _ c.requires c.put_file-size.ensures.value c.args.out.now (rw untouched at c.if-out-size.true) in
    record { result_value = rw c.at.ensures short.0; out_after = untouched ∙ short.1 }

pub returns : goal.returns
returns c =
    let all = all_words c.args.table.now (λ i. omega (arith, c.type_inv.table i)) in
    let longest = file_longest _ _ _ _ c.requires all in
    let size = c.put_file.ensures.value in
    let room : (c.if-out-lt-LONGEST.out ≡ c.args.out.now) × (c.put_file.result ≤ length c.args.out.now) =
    elim c.if-out-lt-LONGEST.branch [
      | then-out-lt-LONGEST+else-out-size w ↦
          let untouched = nothing_put w.put_file-size.new.out c.args.out.now w.put_file-size.auto.out in
          (w.out-is ∙ untouched, omega (arith, rw untouched at w.if-out-size.false, w.put_file-size.ensures.value, size))
      | else-out-lt-LONGEST w ↦ (w.out-is, omega (arith, longest, size, w.if-out-lt-LONGEST.false))
    ] in
    let done = write_done _ _ _ _ _ c.requires size c.args.out.now _ room.1 (rw room.0 at c.put_file.ensures.out_after) in
    record { result_value = done.0; out_after = done.1 }
