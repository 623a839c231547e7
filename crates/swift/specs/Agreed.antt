-- Document 01, "Runs to agree on": P1 to P12 as one table, proved from the definitions by one statement.
-- Assumes nothing.
use Rattle.std.specs.Prelude.{ℕ, ◌≡◌, refl, List, [], ◌∷◌, map}
use Rattle.words.specs.Answer.{Answer, given, refused, and_then}
use Rattle.graph.specs.Kinds.{layouts, role_at}
use Rattle.graph.specs.Nodes.{node_of, node_at}
use Rattle.graph.specs.Paths.{followed, reached_in, reached}
use Rattle.graph.specs.Checks.{fault_at, words_from, table_check, unmarked_from, reach_check, runnable_check, source_check}
use Rattle.graph.specs.declared.Header.{Header}
use Rattle.harden.specs.Blocks.{edges_into, branch_to, leader, predecessor, head_in, block_head, rank, signature}
use Rattle.harden.specs.Hardened.{is_leader, sign, crossing, extra_below, group_at, source_rows, group_rows, first_row, hardened_rows, hardened_count, hardened_table, source_of, harden_answer}
use Rattle.bench.specs.Words.{operate, compare}
use Rattle.bench.specs.Steps.{Progress, start, step}
use Rattle.bench.specs.Runs.{settled, next, after, run_of, run_answer}
use Rattle.bench.specs.Campaigns.{class_at, score_below, campaign_answer}
use Rattle.bench.specs.declared.Fault.{Fault}
use Rattle.bench.specs.declared.Fault.TheVariants.{Undisturbed, Inverted}
use Rattle.bench.specs.declared.Outcome.{Outcome}
use Rattle.bench.specs.declared.Outcome.TheVariants.{Returned, Caught}
use Rattle.bench.specs.declared.Score.{Score}

-- a graph in a table
pub record Graph : Type 0 where
  pub registers : ℕ
  pub nodes : ℕ
  pub entry : ℕ
  pub words : List ℕ

unfoldable pub graph_a : Graph
graph_a = record {
  registers = 2;
  nodes = 5;
  entry = 0;
  words =
      5 ∷ 0 ∷ 1 ∷ 0 ∷ 0 ∷ 0
      ∷ 4 ∷ 0 ∷ 0 ∷ 7 ∷ 2 ∷ 3
      ∷ 6 ∷ 1 ∷ 0 ∷ 4 ∷ 0 ∷ 0
      ∷ 1 ∷ 1 ∷ 9 ∷ 4 ∷ 0 ∷ 0
      ∷ 7 ∷ 1 ∷ 0 ∷ 0 ∷ 0 ∷ 0
      ∷ [];
}

-- P10: node 0 with both targets at 1, node 1 ret
unfoldable pub one_target : Graph
one_target = record { registers = 1; nodes = 2; entry = 0; words = 4 ∷ 0 ∷ 0 ∷ 0 ∷ 1 ∷ 1 ∷ 7 ∷ 0 ∷ 0 ∷ 0 ∷ 0 ∷ 0 ∷ [] }

-- P11: one ret
unfoldable pub one_ret : Graph
one_ret = record { registers = 1; nodes = 1; entry = 0; words = 7 ∷ 0 ∷ 0 ∷ 0 ∷ 0 ∷ 0 ∷ [] }

-- P12: one const that jumps to itself
unfoldable pub one_loop : Graph
one_loop = record { registers = 1; nodes = 1; entry = 0; words = 1 ∷ 0 ∷ 0 ∷ 0 ∷ 0 ∷ 0 ∷ [] }

-- the hardened table of a graph
abbrev pub table_for : Graph → List ℕ
table_for g = hardened_table (source_of g.registers g.nodes g.entry g.words)

-- what hardening answers of a graph, with room for the largest one
abbrev pub hardening : Graph → Answer Header
hardening g = harden_answer g.registers g.nodes g.entry g.words 12300

-- a run with event room for one event and budget 100: how it ended, its steps, its branches and its events
pub record Report : Type 0 where
  pub outcome : Outcome
  pub steps : ℕ
  pub branches : ℕ
  pub events : List ℕ

abbrev pub report : Answer Progress → Answer Report
report answer =
    and_then answer λ p.
    given (record { outcome = settled p.status; steps = p.machine.steps; branches = p.machine.branches; events = p.machine.events })

abbrev pub running : Header → List ℕ → List ℕ → Fault → Answer Report
running h words inputs fault = report (run_answer h.registers h.nodes h.entry words inputs 2 100 fault)

abbrev pub scoring : Header → List ℕ → List ℕ → Answer Score
scoring h words inputs = campaign_answer h.registers h.nodes h.entry words inputs 2 2 100

-- a line of the table: what the definitions give of a graph, or what the document says of it
pub data Line : Type 0 where
  ran : Answer Report → Line
  scored : Answer Score → Line
  hardens_to : Answer Header → Line

abbrev pub header_of : Graph → Header
header_of g = record { registers = g.registers; nodes = g.nodes; entry = g.entry }

abbrev pub source : Graph → List ℕ → Line
source g inputs = ran (running (header_of g) g.words inputs Undisturbed)

abbrev pub hardened_with : Graph → List ℕ → Fault → Line
hardened_with g inputs fault = ran (and_then (hardening g) λ h. running h (table_for g) inputs fault)

abbrev pub source_score : Graph → List ℕ → Line
source_score g inputs = scored (scoring (header_of g) g.words inputs)

abbrev pub hardened_score : Graph → List ℕ → Line
hardened_score g inputs = scored (and_then (hardening g) λ h. scoring h (table_for g) inputs)

-- the outcome, steps, branches and events
abbrev pub reports : Outcome → ℕ → ℕ → List ℕ → Line
reports outcome steps branches events = ran (given (record { outcome = outcome; steps = steps; branches = branches; events = events }))

-- positions, then caught, late, harmless, changed and unended
abbrev pub scores : (positions caught late harmless changed unended : ℕ) → Line
scores positions caught late harmless changed unended =
    scored (given (record { positions = positions; caught = caught; late = late; harmless = harmless; changed = changed; unended = unended }))

-- the hardened graph's R, H and entry
abbrev pub sized : Graph → Line
sized g = hardens_to (hardening g)

abbrev pub sizes : ℕ → ℕ → ℕ → Line
sizes registers nodes entry = hardens_to (given (record { registers = registers; nodes = nodes; entry = entry }))

-- a line as the definitions give it, beside the line as the document has it
pub record Case : Type 0 where
  pub found : Line
  pub agreed : Line

abbrev pub ◌is◌ : Line → Line → Case
◌is◌ found agreed = record { found = found; agreed = agreed }

infix 20 ◌is◌
-- P1 to P12
unfoldable pub table : List Case
table =
    (source graph_a (7 ∷ []) is reports (Returned 0) 4 1 (1 ∷ 7 ∷ []))  -- P1
    ∷ (hardened_with graph_a (7 ∷ []) Undisturbed is reports (Returned 0) 12 4 (1 ∷ 7 ∷ []))  -- P2
    ∷ (source graph_a [] is reports (Returned 9) 4 1 [])  -- P3
    ∷ (hardened_with graph_a [] Undisturbed is reports (Returned 9) 12 4 [])  -- P3, hardened
    ∷ (hardened_with graph_a (7 ∷ []) (Inverted 0) is reports Caught 8 3 [])  -- P4
    ∷ (hardened_with graph_a (7 ∷ []) (Inverted 1) is reports Caught 8 3 [])  -- P5
    ∷ (hardened_with graph_a (7 ∷ []) (Inverted 2) is reports Caught 8 3 [])  -- P6
    ∷ (hardened_with graph_a (7 ∷ []) (Inverted 3) is reports Caught 12 4 (1 ∷ 7 ∷ []))  -- P7
    ∷ (source_score graph_a (7 ∷ []) is scores 1 0 0 0 1 0)  -- P8
    ∷ (hardened_score graph_a (7 ∷ []) is scores 4 4 0 0 0 0)  -- P9
    ∷ (sized one_target is sizes 3 11 2)  -- P10
    ∷ (hardened_with one_target [] Undisturbed is reports (Returned 0) 7 3 [])  -- P10, run
    ∷ (hardened_score one_target [] is scores 3 1 0 2 0 0)  -- P10, campaign
    ∷ (sized one_ret is sizes 3 3 1)  -- P11
    ∷ (hardened_with one_ret [] Undisturbed is reports (Returned 0) 2 0 [])  -- P11, run
    ∷ (hardened_score one_ret [] is scores 0 0 0 0 0 0)  -- P11, campaign
    ∷ (sized one_loop is sizes 3 6 1)  -- P12
    ∷ (source_score one_loop [] is scored (refused 13 0))  -- P12, campaign of the source
    ∷ (hardened_score one_loop [] is scored (refused 13 0))  -- P12, campaign
    ∷ []

pub all_agreed : map (λ c. c.found) table ≡ map (λ c. c.agreed) table
unfolding table graph_a one_target one_ret one_loop node_of node_at layouts role_at followed reached_in reached fault_at words_from table_check unmarked_from reach_check runnable_check source_check edges_into branch_to leader predecessor head_in block_head rank signature is_leader sign crossing extra_below group_at source_rows group_rows first_row hardened_rows hardened_count hardened_table source_of harden_answer operate compare start step next after run_of run_answer class_at score_below campaign_answer
all_agreed = refl
