-- What the passes find of an accepted source: its leaders, and the signatures of its blocks.
-- Assumes nothing.
use Prim.Native.Nat.{ℕ}
use native.Mathlib.Omega.{arith}
use mathlib.Core.Path.{◌≡◌}
use mathlib.Core.List.{List}
use lib.ListN.{set}
use Rattle.graph.specs.Nodes.{node_at}
use Rattle.graph.specs.Accepted.{SourceGraph}
use Rattle.graph.proofs.Facts.{source_facts}
use Rattle.harden.specs.Blocks.{one_plus_rank}
use Rattle.harden.specs.Hardened.{is_leader, sign}
use Rattle.harden.specs.declared.accepted.Accepted.{Accepted}
use Rattle.harden.specs.declared.grading.Grade.{Grade}
use Rattle.harden.specs.declared.grading.Grade.TheVariants.{Leader}
use Rattle.harden.specs.Passes.{ungraded, grades_below, block_signatures, source_in, Led, Signed}
use Rattle.harden.proofs.Graded.{graded_leaders}
use Rattle.harden.proofs.Signatures.{signatures_found}

module _ (a : Accepted) where
  pub facts : SourceGraph a.header.registers a.header.nodes a.header.entry (node_at a.table.now)
  facts = source_facts a.header.registers a.header.nodes a.header.entry a.table.now a.accepted

  pub grades_led : {grades : List Grade}
      → grades ≡ grades_below (node_at a.table.now) (set ungraded a.header.entry Leader) a.header.nodes → Led (source_in a) grades
  unfolding is_leader
  grades_led e n h = rw e (graded_leaders (node_at a.table.now) a.header.entry a.header.nodes n (omega (arith, a.few_nodes)))

  pub blocks_signed : (grades : List Grade) {signatures : List ℕ} → Led (source_in a) grades →
      signatures ≡ block_signatures one_plus_rank (node_at a.table.now) grades a.header.nodes → Signed (source_in a) signatures
  unfolding is_leader sign
  blocks_signed grades led q n h =
      rw q (signatures_found (node_at a.table.now) a.header.nodes a.header.entry grades a.few_nodes (omega arith) led one_plus_rank n h)
