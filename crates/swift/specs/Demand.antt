-- Demand 3 as one statement, `Demand3`, over what `harden` answers and leaves in its buffer and over what `run` answers and leaves in
-- the event buffer, budgets included. proofs/Promised.antt proves it of every accepted source; docs/DEMAND3.md goes through it.
-- Assumes nothing.
use Rattle.std.specs.Prelude.{ℕ, zero, suc, ◌+◌, ◌*◌, ◌≤◌, ◌<◌, ◌≡◌, ◌⊎◌, cond, ◌&&◌, List, length, take, ltb}
use Rattle.words.specs.Answer.{Answer, given, refused}
use Rattle.graph.specs.Nodes.{branch, Operand, node_at}
use Rattle.graph.specs.declared.Header.{Header}
use Rattle.harden.specs.Blocks.{Plan, one_plus_rank}
use Rattle.harden.specs.Hardened.{Source, crossing, group_at, hardened_count, harden_answer, harden_output}
use Rattle.bench.specs.Steps.{start}
use Rattle.bench.specs.Runs.{answered, most_steps, run_answer, run_events, state_of}
use Rattle.bench.specs.declared.Fault.{Fault}
use Rattle.bench.specs.declared.Fault.TheVariants.{Undisturbed, Inverted}
use Rattle.bench.specs.declared.Outcome.{Outcome}
use Rattle.bench.specs.declared.Outcome.TheVariants.{Returned, Caught, Spent, Full}
use Rattle.bench.specs.declared.RunAnswer.{RunAnswer}
use Rattle.bench.specs.declared.State.{State}

-- ---- what is run

-- a source: its R, N and entry, its table, and the plan of its signatures; what hardening answers of it and leaves in its buffer; and
-- what every run is lent: the input words, and a buffer for the events
pub record Subject : Type 0 where
  pub plan : Plan
  pub header : Header
  pub table : List ℕ
  pub answer : Answer Header
  pub output : List ℕ
  pub inputs : List ℕ
  pub events : List ℕ

-- what `harden` makes of a source in a table, with the buffer `out`
abbrev pub by_harden : Header → (table out inputs events : List ℕ) → Subject
by_harden h table out inputs events = record {
  plan = one_plus_rank;
  header = h;
  table = table;
  answer = harden_answer h.registers h.nodes h.entry table (length out);
  output = harden_output h.registers h.nodes h.entry table out;
  inputs = inputs;
  events = events;
}

-- the source in the table
abbrev pub source_in : Subject → Source
source_in j =
    record { plan = j.plan; registers = j.header.registers; nodes = j.header.nodes; entry = j.header.entry; graph = node_at j.table }

-- the hardened graph has R + 2 registers, H nodes, and entry N
abbrev pub hardened_header : Subject → Header
hardened_header j = record { registers = j.header.registers + 2; nodes = hardened_count (source_in j); entry = j.header.nodes }

-- of what `run` answers: how the run ended, or the refusal's number and place
abbrev pub verdict : Answer RunAnswer → Answer Outcome
verdict (given a) = given a.outcome
verdict (refused number place) = refused number place

-- the state it gives, and how many events; a refused run has neither, and zeros stand for both
abbrev pub state : Answer RunAnswer → State
state (given a) = a.state
state (refused number place) = state_of (start 0)

abbrev pub count : Answer RunAnswer → ℕ
count (given a) = a.events
count (refused number place) = 0

-- a run: what `run` answers, and what the event buffer holds then
pub record Run : Type 0 where
  pub answer : Answer RunAnswer
  pub events : List ℕ

-- the run of a graph in a table, from what `run` promises
unfoldable pub run_on : Subject → Header → List ℕ → Fault → ℕ → Run
run_on j h words fault budget = record {
  answer = answered (run_answer h.registers h.nodes h.entry words j.inputs (length j.events) budget fault);
  events = run_events h.registers h.nodes h.entry words j.inputs j.events budget fault;
}

-- the source's run with a budget, and the hardened graph's
abbrev pub run_source : Subject → ℕ → Run
run_source j budget = run_on j j.header j.table Undisturbed budget

abbrev pub run_hardened : Subject → Fault → ℕ → Run
run_hardened j fault budget = run_on j (hardened_header j) j.output fault budget

-- ---- undisturbed

-- x: the steps from a node whose edge crosses, among the first s of a run that goes through these states
unfoldable pub crossings : Source → (ℕ → State) → ℕ → ℕ
crossings source states zero = 0
crossings source states (suc s) =
    let now = states s in
    let then = states (suc s) in
    crossings source states s + cond (crossing source now.node && ltb now.steps then.steps) 1 0

-- the hardened steps after s source steps with b branches and x crossing jumps
abbrev pub when : ℕ → ℕ → ℕ → ℕ
when s b x = 1 + s + 4 * b + 3 * x

-- the same for the source's run with a budget: s and b are the steps and branches that it answers
unfoldable pub steps_beside : Subject → ℕ → ℕ
steps_beside j budget =
    let now = state (run_source j budget).answer in
    when now.steps now.branches (crossings (source_in j) (λ k. state (run_source j k).answer) budget)

-- the budget, past the steps named, in which an outcome is seen: Full stops a run before a step, so it takes one more
abbrev pub stopping : Outcome → ℕ
stopping (Returned value) = 0
stopping Caught = 0
stopping Spent = 0
stopping Full = 1

-- the same reads, and the same events: as many of them, and the buffer holds the same
pub record SameTraffic (r q : Run) : Type 0 where
  pub same_reads : (state r.answer).reads ≡ (state q.answer).reads
  pub same_count : count r.answer ≡ count q.answer
  pub same_events : r.events ≡ q.events

-- the hardened run with this budget stands as the source's with budget s, after the steps named, and has ended alike or not at all
pub record Alike (j : Subject) (budget s : ℕ) : Type 0 where
  pub steps : (state (run_hardened j Undisturbed budget).answer).steps ≡ steps_beside j s
  pub same_verdict : verdict (run_hardened j Undisturbed budget).answer ≡ verdict (run_source j s).answer
  pub same_node : (state (run_hardened j Undisturbed budget).answer).node ≡ (state (run_source j s).answer).node
  pub same_registers : take j.header.registers (state (run_hardened j Undisturbed budget).answer).registers
      ≡ take j.header.registers (state (run_source j s).answer).registers
  pub same_traffic : SameTraffic (run_hardened j Undisturbed budget) (run_source j s)

-- ---- one branch inverted

-- the undisturbed hardened run makes n steps, and the next one executes the branch at this place
pub record Executes (j : Subject) (place n : ℕ) : Type 0 where
  pub steps : (state (run_hardened j Undisturbed n).answer).steps ≡ n
  pub before : (state (run_hardened j Undisturbed n).answer).branches ≡ place
  pub counted : (state (run_hardened j Undisturbed (n + 1)).answer).branches ≡ place + 1

-- the further steps, after the inverted one, within which the run is caught; and those after which the excepted run is undisturbed
abbrev pub soon : ℕ
soon = 5

abbrev pub rejoined : ℕ
rejoined = 2

-- with the branch after n steps inverted, and a budget: caught if five further steps are left, never more of them made, and no read or
-- event from the branch on
pub record CaughtSoon (j : Subject) (place n budget : ℕ) : Type 0 where
  pub is_caught : n + 1 + soon ≤ budget → verdict (run_hardened j (Inverted place) budget).answer ≡ given Caught
  pub within : (state (run_hardened j (Inverted place) budget).answer).steps ≤ n + 1 + soon
  pub quiet : SameTraffic (run_hardened j (Inverted place) budget) (run_hardened j Undisturbed n)

-- the two nodes of the hardened graph that make a source branch's test
pub data TestOf (s : Source) (n : ℕ) : ℕ → Type 0 where
  first : TestOf s n n
  again : TestOf s n (group_at s n + 2)

-- a node of the hardened graph that makes a doubled test whose two targets are one node
pub record OneTarget (s : Source) (i : ℕ) : Type 0 where
  pub node : ℕ
  pub inside : node < s.nodes
  pub test : TestOf s node i
  pub comparison : ℕ
  pub left : ℕ
  pub right : Operand
  pub then : ℕ
  pub else : ℕ
  pub is_branch : s.graph node ≡ branch comparison left right then else
  pub one_node : then ≡ else

-- the one exception: the branch after n steps is such a node
abbrev pub Excepted : Subject → ℕ → Type 0
Excepted j n = OneTarget (source_in j) (state (run_hardened j Undisturbed n).answer).node

-- excepted, and with two further steps left all that is answered and written is as undisturbed; or not excepted, and caught
abbrev pub Answered : Subject → ℕ → ℕ → ℕ → Type 0
Answered j place n budget =
    (Excepted j n × (n + 1 + rejoined ≤ budget → run_hardened j (Inverted place) budget ≡ run_hardened j Undisturbed budget))
    ⊎ ((Excepted j n → ⊥) × CaughtSoon j place n budget)

-- ---- the statement

-- demand 3 of a subject, a clause a field
pub record Demand3 (j : Subject) : Type 0 where
  -- hardening answers R + 2, H and N
  pub hardens : j.answer ≡ given (hardened_header j)
  -- `run` accepts the hardened graph, with every fault and every budget up to the largest
  pub runs : (fault : Fault) (budget : ℕ) → budget ≤ most_steps → (o : Outcome) × (verdict (run_hardened j fault budget).answer ≡ given o)
  -- a source that has not ended within its budget s made s steps; the hardened run with budget 1 + s + 4b + 3x has not ended either
  pub under_way : (s : ℕ) → verdict (run_source j s).answer ≡ given Spent → steps_beside j s ≤ most_steps
      → ((state (run_source j s).answer).steps ≡ s) × Alike j (steps_beside j s) s
  -- a source that has ended; any hardened budget from the steps named on, or for a stop before a step above them
  pub ended : (s : ℕ) (o : Outcome) → verdict (run_source j s).answer ≡ given o → (o ≡ Spent → ⊥)
      → (budget : ℕ) → steps_beside j s + stopping o ≤ budget → budget ≤ most_steps → Alike j budget s
  -- each place below the branches that the undisturbed hardened run answers is executed in one of its steps
  pub executes : (place budget : ℕ) → place < (state (run_hardened j Undisturbed budget).answer).branches
      → (n : ℕ) × (n < budget) × Executes j place n
  -- that branch inverted, with any budget from there on
  pub inverted : (place n : ℕ) → Executes j place n → (budget : ℕ) → n ≤ budget → budget ≤ most_steps → Answered j place n budget
