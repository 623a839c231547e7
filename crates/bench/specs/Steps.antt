-- Document 01, "Running and scoring": one step of a run on a decoded node.
-- Assumes nothing.
use Rattle.std.specs.Prelude.{ℕ, ◌+◌, Bool, true, false, cond, not, List, [], ◌∷◌, ◌++◌, length, replicate, ◌==◌, nat_le, slice_index, slice_set}
use Rattle.std.proofs.Math.Option.{Option, none, some}
use Rattle.graph.specs.Nodes.{Node, go, branch, ret, stop, Action, const, op, input, output, Operand, register, constant}
use Rattle.bench.specs.Words.{operate, compare}
use Rattle.bench.specs.declared.Fault.{Fault}
use Rattle.bench.specs.declared.Fault.TheVariants.{Undisturbed, Inverted}
use Rattle.bench.specs.declared.Outcome.{Outcome}
use Rattle.bench.specs.declared.Outcome.TheVariants.{Returned, Caught, Full}

-- the registers, the node to execute next, the counts, and the words of the events so far
pub record Machine : Type 0 where
  pub registers : List ℕ
  pub node : ℕ
  pub steps : ℕ
  pub branches : ℕ
  pub reads : ℕ
  pub events : List ℕ

-- all 64 registers start at 0
unfoldable pub start : ℕ → Machine
start entry = record { registers = replicate 64 0; node = entry; steps = 0; branches = 0; reads = 0; events = [] }

-- what a graph is run in: its nodes, the input words, and how many words of events there is room for
pub record Setting : Type 0 where
  pub graph : ℕ → Node
  pub inputs : List ℕ
  pub room : ℕ

abbrev pub get : Machine → ℕ → ℕ
get m a = slice_index m.registers a

abbrev pub operand_of : Machine → Operand → ℕ
operand_of m (register b) = get m b
operand_of m (constant k) = k

-- the machine at the next node, a register set, one step counted
abbrev pub setting : Machine → ℕ → ℕ → ℕ → Machine
setting m d v next =
    record { registers = slice_set m.registers d v; node = next; steps = m.steps + 1; branches = m.branches; reads = m.reads; events = m.events }

-- what a node with one edge does: `in` takes the next input word, or 0 when none is left, and counts it either way
abbrev pub act : List ℕ → Action → ℕ → Machine → Machine
act inputs (const d k) next m = setting m d k next
act inputs (op o d a b) next m = setting m d (operate o (get m a) (get m b)) next
act inputs (input d) next m =
    record {
      registers = slice_set m.registers d (slice_index inputs m.reads);
      node = next;
      steps = m.steps + 1;
      branches = m.branches;
      reads = m.reads + 1;
      events = m.events;
    }
act inputs (output port a) next m =
    record { registers = m.registers; node = next; steps = m.steps + 1; branches = m.branches; reads = m.reads; events = m.events ++ (port ∷ get m a ∷ []) }

-- a branch taken to one of its targets
abbrev pub branch_to : Machine → ℕ → Machine
branch_to m target =
    record { registers = m.registers; node = target; steps = m.steps + 1; branches = m.branches + 1; reads = m.reads; events = m.events }

-- ret and catch are counted steps, and the node is then the ret or catch itself
abbrev pub counted : Machine → Machine
counted m = record { registers = m.registers; node = m.node; steps = m.steps + 1; branches = m.branches; reads = m.reads; events = m.events }

-- a fault inverts the branch at its place among the branches executed
abbrev pub inverts : Fault → ℕ → Bool
inverts Undisturbed branches = false
inverts (Inverted place) branches = place == branches

abbrev pub flip : Bool → Bool → Bool
flip true b = not b
flip false b = b

-- a run under way, or at its end
pub data Status : Type 0 where
  going : Status
  ended : Outcome → Status

pub record Progress : Type 0 where
  pub machine : Machine
  pub status : Status

abbrev pub at : Machine → Status → Progress
at m s = record { machine = m; status = s }

-- what stops the run before the step: an out with fewer than two words of event room left
abbrev pub stopped : ℕ → Node → Machine → Option Outcome
stopped room (go (output port a) next) m = cond (nat_le (length m.events + 2) room) none (some Full)
stopped room (go (const d k) next) m = none
stopped room (go (op o d a b) next) m = none
stopped room (go (input d) next) m = none
stopped room (branch c a b then else) m = none
stopped room (ret a) m = none
stopped room stop m = none

-- what a node does
abbrev pub execute : List ℕ → Fault → Node → Machine → Progress
execute inputs fault (go action next) m = at (act inputs action next m) going
execute inputs fault (branch c a b then else) m =
    at (branch_to m (cond (flip (inverts fault m.branches) (compare c (get m a) (operand_of m b))) then else)) going
execute inputs fault (ret a) m = at (counted m) (ended (Returned (get m a)))
execute inputs fault stop m = at (counted m) (ended Caught)

abbrev pub unless : Option Outcome → Machine → Progress → Progress
unless none m next = next
unless (some outcome) m next = at m (ended outcome)

-- one step of a machine that is going
unfoldable pub step : Setting → Fault → Machine → Progress
step s fault m =
    let node = s.graph m.node in
    unless (stopped s.room node m) m (execute s.inputs fault node m)
