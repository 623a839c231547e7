-- Document 01, "Running and scoring": a run, and what it answers and writes.
-- Assumes nothing.
use Rattle.std.specs.Prelude.{ℕ, zero, suc, ◌/◌, List, length, nat_le}
use Rattle.words.specs.Answer.{Answer, given, refused, demand, and_then, written}
use Rattle.words.specs.Buffer.{over}
use Rattle.graph.specs.Nodes.{node_at}
use Rattle.graph.specs.Checks.{runnable_check}
use Rattle.bench.specs.Steps.{Machine, Setting, Status, going, ended, Progress, at, start, step}
use Rattle.bench.specs.declared.Fault.{Fault}
use Rattle.bench.specs.declared.Outcome.{Outcome}
use Rattle.bench.specs.declared.Outcome.TheVariants.{Spent}
use Rattle.bench.specs.declared.RunAnswer.{RunAnswer}
use Rattle.bench.specs.declared.State.{State}

-- one step where the run is going; a run that has ended stays as it is
abbrev pub next_of : Setting → Fault → Machine → Status → Progress
next_of s fault m going = step s fault m
next_of s fault m (ended outcome) = at m (ended outcome)

unfoldable pub next : Setting → Fault → Progress → Progress
next s fault p = next_of s fault p.machine p.status

-- the run after so many rounds
unfoldable pub after : Setting → Fault → Progress → ℕ → Progress
after s fault p zero = p
after s fault p (suc rounds) = next s fault (after s fault p rounds)

-- a run that is still going when its budget is used up is Spent
abbrev pub settled : Status → Outcome
settled going = Spent
settled (ended outcome) = outcome

-- the run from an entry with a budget
unfoldable pub run_of : Setting → Fault → ℕ → ℕ → Progress
run_of s fault entry budget = after s fault (at (start entry) going) budget

-- the machine's state, without the events
abbrev pub state_of : Machine → State
state_of m = record { registers = m.registers; node = m.node; steps = m.steps; branches = m.branches; reads = m.reads }

-- what a run answers: document 01's values, an event being two words
abbrev pub answered : Answer Progress → Answer RunAnswer
answered (given p) = given (record { outcome = settled p.status; state = state_of p.machine; events = length p.machine.events / 2 })
answered (refused number place) = refused number place

-- the largest budget
abbrev pub most_steps : ℕ
most_steps = 100000

-- the graph's checks, then the budget's
unfoldable pub run_answer : ℕ → ℕ → ℕ → List ℕ → List ℕ → ℕ → ℕ → Fault → Answer Progress
run_answer registers nodes entry table inputs room budget fault =
    let p = run_of (record { graph = node_at table; inputs = inputs; room = room }) fault entry budget in
    and_then (runnable_check registers nodes entry table) λ _.
    demand {A = Progress} (nat_le budget most_steps) 12 0 (given p)

-- the events over the first words of the buffer; a refusal leaves it as it stood
unfoldable pub run_events : ℕ → ℕ → ℕ → List ℕ → List ℕ → List ℕ → ℕ → Fault → List ℕ
run_events registers nodes entry table inputs buffer budget fault =
    written (run_answer registers nodes entry table inputs (length buffer) budget fault)
    (λ p. over p.machine.events buffer)
    buffer
