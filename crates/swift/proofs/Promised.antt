-- Demand 3 of every source that `check_source` accepts: `demand_3` is the statement to cite. Then what follows for the score that
-- `campaign` answers of the hardened graph.
-- Assumes nothing.
use mathlib.Core.Path.{◌≡◌, refl, ap}
use mathlib.Core.Logic.{◌⊎◌}
use mathlib.Core.List.{List, ◌++◌}
use Prim.Native.Nat.{ℕ, ◌+◌, ◌*◌, ◌≤◌, ◌<◌}
use lib.ListN.{length, drop}
use borrow.Author.Tests.{le-leb, eq-eqb}
use Rattle.words.specs.Answer.{given}
use Rattle.words.specs.Buffer.{over}
use Rattle.graph.specs.Nodes.{node_at}
use Rattle.graph.specs.Checks.{source_check}
use Rattle.graph.specs.declared.Header.{Header}
use Rattle.harden.specs.Blocks.{one_plus_rank}
use Rattle.harden.specs.Hardened.{Source, hardened_count, hardened_table, source_of, harden_answer, harden_output}
use Rattle.harden.proofs.Ranks.{one_plus_distinct}
use Rattle.harden.proofs.Runnable.{hardened-runnable}
use Rattle.bench.specs.Runs.{settled, run_of, most_steps, run_answer}
use Rattle.bench.specs.Campaigns.{class_at, score_below, score_of, campaign_answer, harmless, caught}
use Rattle.bench.specs.declared.Fault.TheVariants.{Undisturbed, Inverted}
use Rattle.bench.specs.declared.Score.{Score}
use Rattle.bench.proofs.Faults.{unreached}
use Rattle.swift.specs.Demand.{by_harden, source_in, hardened_header, Demand3}
use Rattle.swift.specs.Trials.{Trial, hardened, hardened_graph, hardened_run, Returns, TestAt, Covered}
use Rattle.swift.proofs.Roles.{Accepted}
use Rattle.swift.proofs.Answering.{accepted_source, kept}
use Rattle.swift.proofs.Scores.{classes, covered}

-- a place that the undisturbed run never reaches changes nothing about what `run` answers, of any graph
pub never_reached : (registers nodes entry : ℕ) (table inputs : List ℕ) (room budget place : ℕ)
    → (run_of (record { graph = node_at table; inputs = inputs; room = room }) Undisturbed entry budget).machine.branches ≤ place
    → run_answer registers nodes entry table inputs room budget (Inverted place) ≡ run_answer registers nodes entry table inputs room budget Undisturbed
unfolding run_answer
never_reached registers nodes entry table inputs room budget place h =
    rw (unreached (record { graph = node_at table; inputs = inputs; room = room }) place entry budget h)

-- the source in a table
abbrev pub source : Header → List ℕ → Source
source h table = source_of h.registers h.nodes h.entry table

-- the words of a buffer that hardening leaves as they stood
abbrev pub behind : Header → (table out : List ℕ) → List ℕ
behind h table out = drop (length (hardened_table (source h table))) out

-- what `harden` answers and leaves
module _ (h : Header) (table out : List ℕ) (accepted : source_check h.registers h.nodes h.entry table ≡ given tt)
    (fits : 6 * hardened_count (source h table) ≤ length out) where
  answers : harden_answer h.registers h.nodes h.entry table (length out)
      ≡ given (record { registers = h.registers + 2; nodes = hardened_count (source h table); entry = h.nodes })
  unfolding harden_answer
  answers = rw (accepted, le-leb (6 * hardened_count (source h table)) (length out) fits)

  leaves : harden_output h.registers h.nodes h.entry table out ≡ hardened_table (source h table) ++ behind h table out
  unfolding harden_output over
  leaves = rw answers

-- demand 3, of every source that `check_source` accepts and every buffer with room for the hardened table, for all inputs and budgets
pub demand_3 : (h : Header) (table out inputs events : List ℕ) → source_check h.registers h.nodes h.entry table ≡ given tt
    → 6 * hardened_count (source h table) ≤ length out
    → Demand3 (by_harden h table out inputs events)
unfolding source_of
demand_3 h table out inputs events accepted fits =
    let j = by_harden h table out inputs events in
    let output : j.output ≡ hardened_table (source_in j) ++ behind h table out = cc (leaves h table out accepted fits) in
    let answer : j.answer ≡ given (hardened_header j) = cc (answers h table out accepted fits) in
    kept j (behind h table out) one_plus_distinct accepted output answer

-- ---- the score

module _ (h : Header) (table out inputs : List ℕ) (room : ℕ) where
  -- the source in the table, hardened into the buffer
  abbrev pub trial : Trial
  trial = record { source = source h table; behind = behind h table out; inputs = inputs; room = room }

  module _ (accepted : source_check h.registers h.nodes h.entry table ≡ given tt)
      (fits : 6 * hardened_count (source h table) ≤ length out) (budget value : ℕ) (few : budget ≤ most_steps) (returns : Returns trial budget value) where
    ok : Accepted (source h table)
    unfolding source_of
    ok = accepted_source one_plus_rank one_plus_distinct h.registers h.nodes h.entry table accepted

    abbrev pub branches : ℕ
    branches = (hardened_run trial Undisturbed budget).machine.branches

    abbrev pub score : Score
    score = score_below (hardened trial) h.nodes budget value (hardened_run trial Undisturbed budget).machine.events branches

    pub promised_score : campaign_answer (h.registers + 2) (hardened_count (source h table)) h.nodes
        (harden_output h.registers h.nodes h.entry table out) inputs room room budget
        ≡ given score
    unfolding campaign_answer hardened_run hardened_graph source_of
    promised_score =
        let in_order = hardened-runnable (source h table) ok.in_order (behind h table out) in
        rw (leaves h table out accepted fits, in_order, le-leb budget most_steps few, eq-eqb room room refl)
        (ap (λ status. score_of (hardened trial) h.nodes budget (hardened_run trial Undisturbed budget).machine (settled status)) returns.returned)

    pub promised_covered : Covered branches score
    unfolding source_of
    promised_covered = covered trial ok budget value returns

    -- a position is harmless just where the branch is a doubled test whose two targets are one node
    pub promised_classes : (place : ℕ) → place < branches
        → let class = class_at (hardened trial) h.nodes budget value (hardened_run trial Undisturbed budget).machine.events place in
        ((class ≡ harmless) × TestAt trial place budget) ⊎ ((class ≡ caught) × (TestAt trial place budget → ⊥))
    unfolding source_of
    promised_classes place below = classes trial ok budget value returns place below
