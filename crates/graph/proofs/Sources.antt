-- The check of a source: the table's refusal stands, and else the marks decide.
-- Assumes nothing.
use Rattle.std.specs.Prelude.{Result, Ok, Err}
use mathlib.Core.Path.{◌≡◌, sym, ap, ◌∙◌}
use mathlib.Core.List.{List}
use Prim.Native.Nat.{ℕ, ◌≤◌, ◌<◌}
use native.Mathlib.Omega.{arith}
use Rattle.words.specs.Answer.{Answer, given, and_then}
use Rattle.words.specs.Refusals.{answer_of}
use Rattle.words.specs.declared.refusals.Refusal.{Refusal}
use Rattle.graph.specs.Limits.{source}
use Rattle.graph.specs.Nodes.{node_at}
use Rattle.graph.specs.Paths.{Marks, marked, reached}
use Rattle.graph.specs.Checks.{table_check, unmarked_from, reach_check, source_check}
use Rattle.graph.proofs.Passed.{table-passed}
use Rattle.graph.proofs.Unmarked.{unmarked_same}

module _ (registers nodes entry : ℕ) (table : List ℕ) {first : Result Unit Refusal} (known : answer_of first ≡ table_check source registers nodes entry table) where
  pub source_refused : {r : Refusal} → first ≡ Err r → answer_of {A = Unit} (Err r) ≡ source_check registers nodes entry table
  unfolding source_check
  source_refused e = sym (ap (λ (answer : Answer Unit). and_then answer (λ _. reach_check nodes entry table)) (sym known ∙ ap answer_of e))

  pub accepted_given : {u : Unit} → first ≡ Ok u → table_check source registers nodes entry table ≡ given tt
  accepted_given e = sym known ∙ ap answer_of e

  pub source_few : {u : Unit} → first ≡ Ok u → nodes ≤ 256
  source_few e = (table-passed source registers nodes entry table (accepted_given e)).few_nodes

  pub source_accepted : {u : Unit} (marks : Marks) → first ≡ Ok u → ((n : ℕ) → n < nodes → marked marks n ≡ marked (reached (node_at table) nodes entry) n)
      → unmarked_from marks nodes 0 ≡ source_check registers nodes entry table
  unfolding reach_check source_check
  source_accepted marks e same =
      unmarked_same marks (reached (node_at table) nodes entry) nodes 0 (λ m low high. same m (omega arith))
      ∙ sym (ap (λ (answer : Answer Unit). and_then answer (λ _. reach_check nodes entry table)) (accepted_given e))
