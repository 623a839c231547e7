-- Document 01, "Running and scoring": what one step does, as an effect on the machine that is small enough to hand back by value.
-- Only contracts of private functions cite this file: no public promise rests on it. Assumes nothing.
use Rattle.std.specs.Prelude.{ℕ, ◌+◌, ◌^◌, ◌<◌, Bool, true, cond, Option, Some, None, List, [], ◌∷◌, length, nat_le, slice_index, slice_set}
use Rattle.words.specs.Buffer.{put}
use Rattle.graph.specs.Nodes.{Node, go, branch, ret, stop, const, op, input, output, register, constant, Operand}
use Rattle.bench.specs.Words.{operate, compare}
use Rattle.bench.specs.Steps.{Machine, Setting, Status, going, ended, inverts, flip}
use Rattle.bench.specs.declared.Fault.{Fault}
use Rattle.bench.specs.declared.State.{State}
use Rattle.bench.specs.declared.Outcome.{Outcome}
use Rattle.bench.specs.declared.Outcome.TheVariants.{Returned, Caught}
use Rattle.bench.specs.declared.steps.Effect.{Effect}
use Rattle.bench.specs.declared.steps.Sequel.{Sequel}
use Rattle.bench.specs.declared.steps.Sequel.TheVariants as sequel

-- what a branch compares its register with
abbrev pub comparand : List ℕ → Operand → ℕ
comparand registers (register b) = slice_index registers b
comparand registers (constant k) = k

-- a register takes a value, and the run goes on
abbrev pub sets : ℕ → ℕ → ℕ → ℕ → Effect
sets d value next reads = record { register = d; value = value; next = next; branches = 0; reads = reads; sequel = sequel.On }

-- a register keeps its value
abbrev pub keeps : List ℕ → ℕ → ℕ → ℕ → Sequel → Effect
keeps registers a next branches sequel =
    record { register = a; value = slice_index registers a; next = next; branches = branches; reads = 0; sequel = sequel }

-- a branch to one of its targets
abbrev pub branches : List ℕ → ℕ → ℕ → ℕ → Bool → ℕ → ℕ → Effect
branches registers c a b flips then else =
    keeps registers a (cond (flip flips (compare c (slice_index registers a) b)) then else) 1 sequel.On

-- what a node does, itself the node at `self`, where `flips` says whether its branch is inverted
unfoldable pub effect_of : List ℕ → List ℕ → ℕ → ℕ → Bool → Node → Effect
effect_of registers inputs reads self flips (go (const d k) next) = sets d k next 0
effect_of registers inputs reads self flips (go (op o d a b) next) =
    sets d (operate o (slice_index registers a) (slice_index registers b)) next 0
effect_of registers inputs reads self flips (go (input d) next) = sets d (slice_index inputs reads) next 1
effect_of registers inputs reads self flips (go (output port a) next) = keeps registers a next 0 (sequel.Event port)
effect_of registers inputs reads self flips (branch c a b then else) =
    branches registers c a (comparand registers b) flips then else
effect_of registers inputs reads self flips (ret a) = keeps registers a self 0 sequel.Returned
effect_of registers inputs reads self flips stop = keeps registers 0 self 0 sequel.Caught

-- the words of the event that a step makes
abbrev pub event_words : Sequel → ℕ → List ℕ
event_words sequel.On value = []
event_words (sequel.Event port) value = port ∷ value ∷ []
event_words sequel.Returned value = []
event_words sequel.Caught value = []

-- whether there are two words left for the event, if there is one
abbrev pub has_room : Sequel → ℕ → ℕ → Bool
has_room sequel.On words room = true
has_room (sequel.Event port) words room = nat_le (words + 2) room
has_room sequel.Returned words room = true
has_room sequel.Caught words room = true

-- how the run ends, if it does
abbrev pub outcome_by : Sequel → ℕ → Option Outcome
outcome_by sequel.On value = None
outcome_by (sequel.Event port) value = None
outcome_by sequel.Returned value = Some (Returned value)
outcome_by sequel.Caught value = Some Caught

-- whether the run goes on
abbrev pub status_of : Option Outcome → Status
status_of None = going
status_of (Some outcome) = ended outcome

abbrev pub status_after : Sequel → ℕ → Status
status_after sequel value = status_of (outcome_by sequel value)

-- the words written after the step, if its event has room
abbrev pub words_after : Effect → ℕ → ℕ → Option ℕ
words_after e words room = cond (has_room e.sequel words room) (Some (words + length (event_words e.sequel e.value))) None

-- what the buffer holds then
abbrev pub with_event : Effect → ℕ → ℕ → List ℕ → List ℕ
with_event e words room events = cond (has_room e.sequel words room) (put events words (event_words e.sequel e.value)) events

-- how the step ends the run, if it does
abbrev pub outcome_of : Effect → Option Outcome
outcome_of e = outcome_by e.sequel e.value

-- the state after the step
abbrev pub applied : State → Effect → State
applied state e =
    record {
      registers = slice_set state.registers e.register e.value;
      node = e.next;
      steps = state.steps + 1;
      branches = state.branches + e.branches;
      reads = state.reads + e.reads;
    }

-- counts and a register that the step fits
pub record Takes (state : State) (e : Effect) : Type 0 where
  pub register : e.register < 64
  pub steps : state.steps + 1 < 2 ^ 64
  pub branches : state.branches + e.branches < 2 ^ 64
  pub reads : state.reads + e.reads < 2 ^ 64

-- a state and the words of the events so far
abbrev pub machine_of : State → List ℕ → Machine
machine_of state events =
    record { registers = state.registers; node = state.node; steps = state.steps; branches = state.branches; reads = state.reads; events = events }

-- the effect of the next step from a state
unfoldable pub effect_from : Setting → Fault → State → Effect
effect_from s fault state =
    effect_of state.registers s.inputs state.reads state.node (inverts fault state.branches) (s.graph state.node)
