-- The two halves of demand 3 over rounds, with no budget and no bound on the steps, as they are proved first; and what follows for
-- the score. specs/Demand.antt says demand 3 in terms of what `run` answers.
-- Assumes nothing.
use Rattle.std.specs.Prelude.{ℕ, ◌+◌, ◌≤◌, ◌<◌, ◌≡◌, ◌⊎◌, true, List, ◌++◌, take}
use Rattle.graph.specs.Nodes.{Node, node_at}
use Rattle.harden.specs.Hardened.{Source, is_branch, hardened_table}
use Rattle.bench.specs.Steps.{Machine, Setting, going, ended, Progress}
use Rattle.bench.specs.Runs.{settled, run_of, state_of}
use Rattle.bench.specs.declared.Fault.{Fault}
use Rattle.bench.specs.declared.Fault.TheVariants.{Undisturbed, Inverted}
use Rattle.bench.specs.declared.Outcome.TheVariants.{Returned, Caught}
use Rattle.bench.specs.declared.Score.{Score}
use Rattle.swift.specs.Demand.{crossings, when, stopping, soon, rejoined, OneTarget}

-- ---- the two runs

-- a source, whatever words stand behind its hardened table, the input words, and the event room
pub record Trial : Type 0 where
  pub source : Source
  pub behind : List ℕ
  pub inputs : List ℕ
  pub room : ℕ

-- what is run: the source's nodes, or those of its hardened table, with the same inputs and room
abbrev pub plain : Trial → Setting
plain t = record { graph = t.source.graph; inputs = t.inputs; room = t.room }

unfoldable pub hardened_graph : Trial → ℕ → Node
hardened_graph t n = node_at (hardened_table t.source ++ t.behind) n

abbrev pub hardened : Trial → Setting
hardened t = record { graph = hardened_graph t; inputs = t.inputs; room = t.room }

-- the two runs after so many rounds: a round is a step, until the run has ended; the hardened graph's entry is node N
unfoldable pub source_run : Trial → ℕ → Progress
source_run t rounds = run_of (plain t) Undisturbed t.source.entry rounds

unfoldable pub hardened_run : Trial → Fault → ℕ → Progress
hardened_run t fault rounds = run_of (hardened t) fault t.source.nodes rounds

-- ---- undisturbed

-- x among the source's first rounds
abbrev pub crossed : Trial → ℕ → ℕ
crossed t rounds = crossings t.source (λ k. state_of (source_run t k).machine) rounds

-- 1 + s + 4b + 3x, with s, b and x those of the source's first rounds
unfoldable pub hardened_steps : Trial → ℕ → ℕ
hardened_steps t rounds =
    let m = (source_run t rounds).machine in
    when m.steps m.branches (crossed t rounds)

-- the undisturbed hardened run beside the source's first rounds
unfoldable pub beside : Trial → ℕ → Progress
beside t rounds = hardened_run t Undisturbed (hardened_steps t rounds + stopping (settled (source_run t rounds).status))

-- the same node, source registers, reads and events
pub record Agree (registers : ℕ) (m σ : Machine) : Type 0 where
  pub same_node : m.node ≡ σ.node
  pub same_registers : take registers m.registers ≡ take registers σ.registers
  pub same_reads : m.reads ≡ σ.reads
  pub same_events : m.events ≡ σ.events

-- the first half of demand 3: so many steps, the same state, and ended alike if the source has, else not at all
pub record Follows (t : Trial) (rounds : ℕ) : Type 0 where
  pub steps : (beside t rounds).machine.steps ≡ hardened_steps t rounds
  pub agree : Agree t.source.registers (beside t rounds).machine (source_run t rounds).machine
  pub alike : (beside t rounds).status ≡ (source_run t rounds).status

-- ---- one branch inverted

-- after these rounds the undisturbed hardened run executes a branch, whose place among the branches executed is this
pub record AtBranch (t : Trial) (place rounds : ℕ) : Type 0 where
  pub under_way : (hardened_run t Undisturbed rounds).status ≡ going
  pub at_branch : is_branch (hardened_graph t (hardened_run t Undisturbed rounds).machine.node) ≡ true
  pub this_place : (hardened_run t Undisturbed rounds).machine.branches ≡ place

-- from the branch up to a later round the disturbed run makes no read and no event
pub record Quiet (t : Trial) (place rounds later : ℕ) : Type 0 where
  pub no_read : (k : ℕ) → rounds ≤ k → k ≤ later → (hardened_run t (Inverted place) k).machine.reads ≡ (hardened_run t Undisturbed rounds).machine.reads
  pub no_event : (k : ℕ) → rounds ≤ k → k ≤ later
      → (hardened_run t (Inverted place) k).machine.events ≡ (hardened_run t Undisturbed rounds).machine.events

-- the disturbed run is caught by a later round, and no read or event in between
pub record CaughtBy (t : Trial) (place rounds later : ℕ) : Type 0 where
  pub is_caught : (hardened_run t (Inverted place) later).status ≡ ended Caught
  pub quiet : Quiet t place rounds later

-- caught within five further steps
abbrev pub CaughtAfter : Trial → ℕ → ℕ → Type 0
CaughtAfter t place rounds = CaughtBy t place rounds (rounds + 1 + soon)

-- two steps after the inverted one, and ever after, exactly the undisturbed run
abbrev pub Unchanged : Trial → ℕ → ℕ → Type 0
Unchanged t place rounds = (later : ℕ) → rounds + 1 + rejoined ≤ later → hardened_run t (Inverted place) later ≡ hardened_run t Undisturbed later

-- the second half of demand 3, for the branch that the undisturbed hardened run executes in the round after these: the exception
-- holds just where it is named, and everywhere else the run is caught
abbrev pub Decided : Trial → ℕ → ℕ → Type 0
Decided t place rounds =
    let test = OneTarget t.source (hardened_run t Undisturbed rounds).machine.node in
    (test × Unchanged t place rounds) ⊎ ((test → ⊥) × CaughtAfter t place rounds)

-- ---- the score

-- the undisturbed hardened run returns this value within its budget, with five steps to spare
pub record Returns (t : Trial) (budget value : ℕ) : Type 0 where
  pub returned : (hardened_run t Undisturbed budget).status ≡ ended (Returned value)
  pub to_spare : (hardened_run t Undisturbed budget).machine.steps + soon ≤ budget

-- the branch at this place is a doubled test whose two targets are one node
pub record TestAt (t : Trial) (place budget : ℕ) : Type 0 where
  pub rounds : ℕ
  pub within : rounds < budget
  pub executed : AtBranch t place rounds
  pub one_target : OneTarget t.source (hardened_run t Undisturbed rounds).machine.node

-- a score in which each position is caught or harmless
pub record Covered (positions : ℕ) (score : Score) : Type 0 where
  pub all_tried : score.positions ≡ positions
  pub caught_or_harmless : score.caught + score.harmless ≡ score.positions
  pub none_late : score.late ≡ 0
  pub none_changed : score.changed ≡ 0
  pub none_unended : score.unended ≡ 0
