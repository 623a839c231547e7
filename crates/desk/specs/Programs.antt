-- What each program prints for its arguments and the bytes on standard input.
-- Assumes nothing.
use Rattle.std.specs.Prelude.{ℕ, List, take, replicate, Result, Ok, Err}
use Rattle.words.specs.Answer.{Answer, given, refused, and_then}
use Rattle.file.specs.Reading.{read_answer, read_table}
use Rattle.file.specs.Writing.{file_of, write_answer}
use Rattle.harden.specs.Hardened.{harden_answer, harden_output}
use Rattle.bench.specs.declared.Fault.{Fault}
use Rattle.bench.specs.declared.Score.{Score}
use Rattle.bench.specs.Steps.{Progress}
use Rattle.bench.specs.Runs.{settled, state_of, run_answer}
use Rattle.bench.specs.Campaigns.{campaign_answer}
use Rattle.text.specs.Places.{Wrote}
use Rattle.desk.specs.declared.loading.Graph.{Graph}
use Rattle.desk.specs.declared.settings.Mode.{Mode}
use Rattle.desk.specs.declared.settings.Mode.TheVariants.{Plain, Hardened}
use Rattle.desk.specs.declared.settings.Wanted.{Wanted}
use Rattle.desk.specs.declared.Printed.{Printed}
use Rattle.desk.specs.declared.Printed.TheVariants.{Output, Complaint}
use Rattle.desk.specs.Arguments.{run_asked, score_asked, file_mode_of}
use Rattle.desk.specs.Lines.{refusal_line, run_text, score_line, complaint_line}
use Rattle.desk.specs.Listing.{listing}

-- the words of a table: the largest graph's, six for each of 2,050 nodes
abbrev pub table_words : ℕ
table_words = 12300

-- the graph that the bytes hold
unfoldable pub read_graph : List ℕ → Answer Graph
read_graph bytes =
    and_then (read_answer bytes table_words) λ h. given (record { header = h; table = read_table bytes (replicate table_words 0) })

-- a graph, hardened
unfoldable pub harden_graph : Graph → Answer Graph
harden_graph g =
    let h = g.header in
    and_then (harden_answer h.registers h.nodes h.entry g.table table_words) λ k.
    given (record { header = k; table = harden_output h.registers h.nodes h.entry g.table (replicate table_words 0) })

-- the graph as read, or hardened first; what the hardener refuses has the hardener's place
unfoldable pub graph_in : Mode → List ℕ → Answer Graph
graph_in Plain bytes = read_graph bytes
graph_in Hardened bytes = and_then (read_graph bytes) harden_graph

-- a value's text, or the refusal's line
abbrev pub text_of : {A : Type 0} → Answer A → (A → List ℕ) → List ℕ
text_of (given a) text = text a
text_of (refused number place) text = refusal_line number place

-- `hlist`: the hardened graph
unfoldable pub list_text : List ℕ → List ℕ
list_text bytes = text_of (graph_in Hardened bytes) λ g. listing g.header g.table

-- one run of a graph
unfoldable pub run_on : List ℕ → ℕ → ℕ → Fault → Graph → Answer Progress
run_on inputs budget room fault g =
    run_answer g.header.registers g.header.nodes g.header.entry g.table inputs room budget fault

abbrev pub progress_text : Progress → List ℕ
progress_text p = run_text (settled p.status) (state_of p.machine) p.machine.events

unfoldable pub run_print : Mode → ℕ → ℕ → Fault → List ℕ → List ℕ → List ℕ
run_print mode budget room fault inputs bytes =
    text_of (and_then (graph_in mode bytes) (run_on inputs budget room fault)) progress_text

-- one campaign over a graph, both buffers with the same room
unfoldable pub score_on : List ℕ → ℕ → ℕ → Graph → Answer Score
score_on inputs budget room g =
    campaign_answer g.header.registers g.header.nodes g.header.entry g.table inputs room room budget

unfoldable pub score_print : Mode → ℕ → ℕ → List ℕ → List ℕ → List ℕ
score_print mode budget room inputs bytes =
    text_of (and_then (graph_in mode bytes) (score_on inputs budget room)) score_line

-- what goes to standard output, or one line to standard error
pub data Print : Type 0 where
  output : List ℕ → Print
  complaint : List ℕ → Print

-- the output for what was asked, or what was wanted in the place of an argument
abbrev pub print_for : {A : Type 0} → Result A Wanted → (A → Print) → Print
print_for (Ok asked) print = print asked
print_for (Err wanted) print = complaint (complaint_line wanted)

-- `hrun MODE BUDGET ROOM FAULT [WORD ..]`
unfoldable pub run_program : List ℕ → List ℕ → Print
run_program cells bytes =
    print_for (run_asked cells) λ a.
    let s = a.0 in output (run_print s.mode s.budget s.room a.1 a.2 bytes)

-- `hscore MODE BUDGET ROOM [WORD ..]`
unfoldable pub score_program : List ℕ → List ℕ → Print
score_program cells bytes =
    print_for (score_asked cells) λ a.
    let s = a.0 in output (score_print s.mode s.budget s.room a.1 bytes)

-- document 02, K2: a graph's file, for a text of this length
unfoldable pub file_in : ℕ → Graph → Answer (List ℕ)
file_in room g =
    let h = g.header in
    and_then (write_answer h.registers h.nodes h.entry g.table room) λ _.
    given (file_of h.registers h.nodes h.entry g.table)

-- a file goes to standard output, a refusal's line to standard error
abbrev pub file_print : Answer (List ℕ) → Print
file_print (given file) = output file
file_print (refused number place) = complaint (refusal_line number place)

-- `hfile [plain]`, with a text of this length for the file
unfoldable pub file_program : ℕ → List ℕ → List ℕ → Print
file_program room cells bytes = print_for (file_mode_of cells) λ mode. file_print (and_then (graph_in mode bytes) (file_in room))

-- the bytes of text that a program lends
abbrev pub text_bytes : ℕ
text_bytes = 196608

-- how long the text is that a program's answer tells of, and what is printed of it, for each case
abbrev pub size_of : Printed → ℕ
size_of (Output size) = size
size_of (Complaint size) = size

abbrev pub print_of : Printed → List ℕ → Print
print_of (Output size) text = output (take size text)
print_of (Complaint size) text = complaint (take size text)

-- what a program leaves in its text, and how long it says that is, for each case
pub data Shown (before : List ℕ) : Print → List ℕ → Printed → Type 0 where
  printed : {text after : List ℕ} {size : ℕ} → Wrote before 0 text after size → Shown before (output text) after (Output size)
  complained : {text after : List ℕ} {size : ℕ} → Wrote before 0 text after size → Shown before (complaint text) after (Complaint size)
