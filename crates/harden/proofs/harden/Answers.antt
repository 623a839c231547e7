-- `harden` meets its contract: what the source's checks establish is what an accepted source keeps. Assumes nothing.
use mathlib.Core.Path.{sym}
use Rattle.graph.proofs.Facts.{source_facts}
use Rattle.harden.proofs.harden.Goals as goal

pub invariant_of-accepted : goal.invariant_of-accepted
invariant_of-accepted c =
    let facts = source_facts _ _ _ _ (sym c.in_ok-check_source.ensures) in
    record {
      accepted = sym c.in_ok-check_source.ensures;
      few_nodes = facts.few_nodes;
      few_registers = facts.few_registers;
      entry_in = facts.entry_in;
    }
