-- `file::walk::put_file` meets its contract: R, N and entry are small, and the table holds the words. Assumes nothing.
use mathlib.Core.Path.{sym}
use native.Mathlib.Omega.{arith}
use lib.Seq.{length-take-le}
use Rattle.graph.proofs.Facts.{runnable_facts, runnable_room}
use Rattle.words.proofs.Shortest.{number_short}
use Rattle.file.proofs.Writes.{header_short, file_put}
use Rattle.file.proofs.walk.put_file.Goals as goal

pub overflow_cast-registers : goal.overflow_cast-registers
overflow_cast-registers c = omega (arith, (runnable_facts _ _ _ _ c.requires).few_registers)

pub overflow_cast-nodes : goal.overflow_cast-nodes
overflow_cast-nodes c = omega (arith, (runnable_facts _ _ _ _ c.requires).few_nodes)

pub overflow_cast-entry : goal.overflow_cast-entry
overflow_cast-entry c = let g = runnable_facts _ _ _ _ c.requires in omega (arith, g.few_nodes, g.entry_in)

pub overflow_mul-nodes : goal.overflow_mul-nodes
overflow_mul-nodes c = omega (arith, (runnable_facts _ _ _ _ c.requires).few_nodes)

pub slice_bounds-put_nodes-end : goal.slice_bounds-put_nodes-end
slice_bounds-put_nodes-end c = sym (length-take-le _ _ (runnable_room _ _ _ _ c.requires))

pub overflow_add-at_entry : goal.overflow_add-at_entry
overflow_add-at_entry c =
    let registers = number_short c.args.header.registers in
    omega (arith, c.put_number-at_nodes.ensures.value, c.put_number.ensures.value, registers, number_short c.args.header.nodes)

pub overflow_add-first : goal.overflow_add-first
overflow_add-first c =
    omega (arith, header_short _ _ _ _ _ _ c.put_number-at_nodes.ensures.value c.put_number.ensures.value c.put_number-2.ensures.value)

pub put_nodes-requires : goal.put_nodes-requires
put_nodes-requires c =
    let few = (runnable_facts _ _ _ _ c.requires).few_nodes in
    let count = length-take-le _ _ (runnable_room _ _ _ _ c.requires) in (
      header_short _ _ _ _ _ _ c.put_number-at_nodes.ensures.value c.put_number.ensures.value c.put_number-2.ensures.value,
      rw count (omega (arith, few)),
      rw count (omega arith),
    )

pub returns : goal.returns
returns c =
    let file = file_put _ _ _ _ _ _
    c.put_number-at_nodes.ensures.value c.put_number.ensures.value c.put_number-2.ensures.value
    c.args.table.now _ _ _ _
    c.put_number-at_nodes.ensures.out_after c.put_number.ensures.out_after c.put_number-2.ensures.out_after
    _ _ c.put_nodes.ensures.value c.put_nodes.ensures.out_after in
    record { value = file.0; out_after = file.1 }
