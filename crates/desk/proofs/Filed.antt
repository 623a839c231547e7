-- Whatever graph `hfile` loads, as it is read or hardened, its file is printed: the graph is runnable, and the text has room.
-- Assumes nothing.
use Rattle.std.proofs.Common.{◌≡◌, List, length, replicate, ℕ, ◌≤◌, arith}
use Rattle.std.proofs.lemmas.List.{length-replicate}
use borrow.Author.Tests.{le-leb}
use Rattle.words.specs.Answer.{given}
use Rattle.words.proofs.Answers.{Of, of_given, of_then, when_given, Any}
use Rattle.graph.specs.Checks.{runnable_check}
use Rattle.file.specs.Reading.{read_answer}
use Rattle.file.specs.Writing.{file_of, write_answer}
use Rattle.file.proofs.Reader.{read_runnable}
use Rattle.file.proofs.Writer.{file_longest}
use Rattle.harden.specs.Hardened.{harden_answer}
use Rattle.harden.proofs.Runnable.{output_runnable}
use Rattle.desk.specs.declared.loading.Graph.{Graph}
use Rattle.desk.specs.declared.settings.Mode.{Mode}
use Rattle.desk.specs.declared.settings.Mode.TheVariants.{Plain, Hardened}
use Rattle.desk.specs.Programs.{table_words, read_graph, harden_graph, graph_in, file_in, text_bytes}
use Rattle.desk.proofs.Fits.{answered, graph_worded}

abbrev Runs : Graph → Type 0
Runs g = runnable_check g.header.registers g.header.nodes g.header.entry g.table ≡ given tt

zeros-length : length (replicate {A = ℕ} table_words 0) ≡ table_words
zeros-length = length-replicate {A = ℕ} table_words 0

read_runs : (bytes : List ℕ) → Of Runs Any (read_graph bytes)
unfolding read_graph
read_runs bytes =
    of_then _ (answered (read_answer bytes table_words)) λ h e _.
    of_given (read_runnable bytes (replicate table_words 0) h (rw zeros-length e))

harden_runs : (g : Graph) → Of Runs Any (harden_graph g)
unfolding harden_graph
harden_runs g =
    let h = g.header in
    of_then _ (answered (harden_answer h.registers h.nodes h.entry g.table table_words)) λ k e _.
    of_given (output_runnable h.registers h.nodes h.entry g.table (replicate table_words 0) k (rw zeros-length e))

graph_runs : (mode : Mode) (bytes : List ℕ) → Of Runs Any (graph_in mode bytes)
unfolding graph_in
graph_runs Hardened bytes = of_then harden_graph (read_runs bytes) λ g e _. harden_runs g
graph_runs Plain bytes = read_runs bytes

pub file_printed : (mode : Mode) (bytes : List ℕ) (g : Graph) → graph_in mode bytes ≡ given g →
    file_in text_bytes g ≡ given (file_of g.header.registers g.header.nodes g.header.entry g.table)
unfolding file_in write_answer
file_printed mode bytes g e =
    let h = g.header in
    let runs = when_given e (graph_runs mode bytes) in
    let size : ℕ = length (file_of h.registers h.nodes h.entry g.table) in
    let longest : size ≤ 24605 = file_longest h.registers h.nodes h.entry g.table runs (when_given e (graph_worded mode bytes)) in
    let room : size ≤ text_bytes = omega arith in
    rw (runs, le-leb size text_bytes room)
