-- What reading and hardening answered and left in a table of zeros is the graph that is loaded.
-- Assumes nothing.
use Rattle.std.proofs.Common.{◌≡◌, ap, ◌∙◌, ℕ, List, length, replicate}
use Rattle.std.proofs.lemmas.List.{length-replicate}
use Rattle.words.specs.Answer.{Answer, given, refused, and_then}
use Rattle.graph.specs.declared.Header.{Header}
use Rattle.file.specs.Reading.{read_answer, read_table}
use Rattle.harden.specs.Hardened.{harden_answer, harden_output}
use Rattle.desk.specs.declared.loading.Graph.{Graph}
use Rattle.desk.specs.declared.settings.Mode.{Mode}
use Rattle.desk.specs.declared.settings.Mode.TheVariants.{Plain, Hardened}
use Rattle.desk.specs.Programs.{table_words, read_graph, harden_graph, graph_in}

pub zeros-length : (table : List ℕ) → table ≡ replicate table_words 0 → length table ≡ table_words
zeros-length table e = ap length e ∙ length-replicate {A = ℕ} table_words 0

-- an answer, with what it left in a table of zeros
module _ (a : Answer Header) (table last : List ℕ) (e : table ≡ replicate table_words 0) where
  abbrev with_table : Answer Graph
  with_table = and_then a (λ h. given (record { header = h; table = last }))

  pub read_as : (bytes : List ℕ) → a ≡ read_answer bytes (length table) → last ≡ read_table bytes table → with_table ≡ read_graph bytes
  unfolding read_graph
  read_as bytes f g = rw (f, zeros-length table e, g, e)

  pub hardened_as : (g : Graph) → let h = g.header in
      a ≡ harden_answer h.registers h.nodes h.entry g.table (length table) → last ≡ harden_output h.registers h.nodes h.entry g.table table
      → with_table ≡ harden_graph g
  unfolding harden_graph
  hardened_as g f k = rw (f, zeros-length table e, k, e)

-- what was refused was not hardened
pub load_refused : (number place : ℕ) (mode : Mode) (bytes : List ℕ) → refused number place ≡ read_graph bytes → refused number place ≡ graph_in mode bytes
unfolding graph_in
load_refused number place Plain bytes e = e
load_refused number place Hardened bytes e = ap (λ (a : Answer Graph). and_then a harden_graph) e
