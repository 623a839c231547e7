-- Document 01, "Running and scoring": what is known of a run under way on a checked graph, and how it ends.
-- Only contracts of private functions cite this file: no public promise rests on it. Assumes nothing.
use Rattle.std.specs.Prelude.{◌≡◌, ℕ, ◌<◌, ◌≤◌, Bool, List, length}
use Rattle.words.specs.Buffer.{put}
use Rattle.graph.specs.Nodes.{node_at}
use Rattle.bench.specs.Steps.{Setting, Progress, at, going, start}
use Rattle.bench.specs.Runs.{run_of, settled, state_of}
use Rattle.bench.specs.Effects.{effect_of, machine_of}
use Rattle.bench.specs.declared.Fault.{Fault}
use Rattle.bench.specs.declared.Fault.TheVariants.{Undisturbed, Inverted}
use Rattle.bench.specs.declared.Outcome.{Outcome}
use Rattle.bench.specs.declared.State.{State}
use Rattle.bench.specs.declared.runner.Runner.{Runner}
use Rattle.bench.specs.declared.runs.End.{End}
use Rattle.bench.specs.declared.runs.Point.{Point}
use Rattle.bench.specs.declared.steps.Effect.{Effect}

-- what the runner's graph is run in
abbrev pub setting_of : Runner → Setting
setting_of r = record { graph = node_at r.table.now; inputs = r.inputs.now; room = r.room }

-- its run with a fault
abbrev pub run_in : Runner → Fault → Progress
run_in r fault = run_of (setting_of r) fault r.header.entry r.budget

-- the effect of the node at hand in a state
abbrev pub effect_in : Runner → State → Bool → Effect
effect_in r state flips = effect_of state.registers r.inputs.now state.reads state.node flips (node_at r.table.now state.node)

-- a state that its runs can be in
pub record Ready (r : Runner) (state : State) : Type 0 where
  pub node : state.node < r.header.nodes
  pub in_budget : state.steps ≤ r.budget
  pub branches : state.branches ≤ state.steps
  pub reads : state.reads ≤ state.steps

-- how a run stands that goes no further
abbrev pub ended_of : Progress → End
ended_of p = record { outcome = settled p.status; last = record { state = state_of p.machine; words = length p.machine.events } }

-- the run with the branch at a place inverted ended so, its events being put over the head of a buffer
pub record Ends (r : Runner) (place : ℕ) (buffer : List ℕ) (end : End) (held : List ℕ) : Type 0 where
  pub is : end ≡ ended_of (run_in r (Inverted place))
  pub holds : held ≡ put buffer 0 (run_in r (Inverted place)).machine.events

-- where a run starts
abbrev pub first_point : Runner → Point
first_point r = record { state = state_of (start r.header.entry); words = 0 }

-- a run with a fault goes on from a point, after as many steps as the state there counts
pub record Reached (r : Runner) (fault : Fault) (point : Point) : Type 0 where
  pub ready : Ready r point.state
  pub events : List ℕ
  pub here : run_of (setting_of r) fault r.header.entry point.state.steps ≡ at (machine_of point.state events) going
  pub count : length events ≡ point.words

-- the run with the branch at a place inverted, its events being put over the head of a buffer
pub record Standing (r : Runner) (place : ℕ) (buffer : List ℕ) (point : Point) (held : List ℕ) : Type 0 where
  pub reached : Reached r (Inverted place) point
  pub holds : held ≡ put buffer 0 reached.events

-- the undisturbed run, before the branch at a place
pub record Aside (r : Runner) (place : ℕ) (point : Point) : Type 0 where
  pub reached : Reached r Undisturbed point
  pub branches : point.state.branches ≡ place

-- the run with the branch at a place inverted has ended, and the one before that branch is set aside, if it was executed
pub record Walked (r : Runner) (place : ℕ) (buffer : List ℕ) (outcome : Outcome) (last : Point) (held : List ℕ) (aside : Point)
    : Type 0 where
  pub ends : Ends r place buffer (record { outcome = outcome; last = last }) held
  pub before : place < last.state.branches → Aside r place aside
