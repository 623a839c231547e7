-- Runs and campaigns do not look at a table's words behind the first 6N: on nodes that are closed under edges, two graphs that
-- agree there run alike, step by step and with any fault, and the nodes of an accepted graph below N are closed.
-- Assumes nothing.
use Rattle.std.proofs.Common.{◌≡◌, ℕ, zero, suc, ◌+◌, ◌*◌, ◌<◌, Bool, true, false, cond, leb, List, length, take, refl, ap, ◌∙◌}
use mathlib.Core.List.{Memᴰ}
use mathlib.Core.Option.{none, some}
use Rattle.words.specs.Answer.{given}
use Rattle.words.proofs.Answers.{then_same, written_same}
use Rattle.graph.specs.Nodes.{Node, go, branch, ret, stop, const, op, input, output, targets, node_at}
use Rattle.graph.specs.Checks.{runnable_check}
use Rattle.graph.proofs.Facts.{and_given, runnable_facts}
use Rattle.graph.proofs.Reached.{targets_inside}
use Rattle.graph.proofs.Tails.{node_same, runnable-same}
use Rattle.bench.specs.Words.{compare}
use Rattle.bench.specs.Steps.{Machine, Setting, Status, going, ended, Progress, at, start, get, operand_of, inverts, flip, stopped, execute, unless, step}
use Rattle.bench.specs.Runs.{next_of, next, after, settled, run_of, run_answer, run_events}
use Rattle.bench.specs.Campaigns.{class_at, score_below, score_of, score_answer, campaign_answer, campaign_first, campaign_second}
use Rattle.bench.specs.declared.Fault.{Fault}
use Rattle.bench.specs.declared.Fault.TheVariants.{Undisturbed, Inverted}
use Rattle.bench.specs.declared.Outcome.{Outcome}
use Rattle.bench.specs.declared.Outcome.TheVariants.{Returned, Caught, Spent, Full}
use Rattle.bench.specs.declared.Score.{Score}

-- two graphs that agree on nodes which are closed under edges
pub record Alike (inside : ℕ → Type 0) (graph graph' : ℕ → Node) : Type 0 where
  pub same : (n : ℕ) → inside n → graph n ≡ graph' n
  pub closed : (n t : ℕ) → inside n → Memᴰ t (targets (graph n)) → inside t

module _ (inside : ℕ → Type 0) where
  -- a step stays inside
  stays : (inputs : List ℕ) (room : ℕ) (fault : Fault) (m : Machine) (node : Node) → inside m.node → ((t : ℕ) → Memᴰ t (targets node) → inside t)
      → inside (unless (stopped room node m) m (execute inputs fault node m)).machine.node
  stays inputs room fault m (go (const d k) next) here on = on next (Memᴰ.head refl)
  stays inputs room fault m (go (op o d a b) next) here on = on next (Memᴰ.head refl)
  stays inputs room fault m (go (input d) next) here on = on next (Memᴰ.head refl)
  stays inputs room fault m (go (output port a) next) here on = by (leb (length m.events + 2) room)
    where
      by : (fits : Bool) → inside (unless (cond fits none (some Full)) m (execute inputs fault (go (output port a) next) m)).machine.node
      by true = on next (Memᴰ.head refl)
      by false = here
  stays inputs room fault m (branch c a b then else) here on = by (flip (inverts fault m.branches) (compare c (get m a) (operand_of m b)))
    where
      by : (taken : Bool) → inside (cond taken then else)
      by true = on then (Memᴰ.head refl)
      by false = on else (Memᴰ.tail (Memᴰ.head refl))
  stays inputs room fault m (ret a) here on = here
  stays inputs room fault m stop here on = here

  module _ (graph graph' : ℕ → Node) (alike : Alike inside graph graph') (inputs : List ℕ) (room : ℕ) where
    abbrev s : Setting
    s = record { graph = graph; inputs = inputs; room = room }

    abbrev s' : Setting
    s' = record { graph = graph'; inputs = inputs; room = room }

    step_same : (fault : Fault) (m : Machine) → inside m.node → step s fault m ≡ step s' fault m
    unfolding step
    step_same fault m here = rw (alike.same m.node here)

    step_inside : (fault : Fault) (m : Machine) → inside m.node → inside (step s fault m).machine.node
    unfolding step
    step_inside fault m here = stays inputs room fault m (graph m.node) here (λ t among. alike.closed m.node t here among)

    next-same : (fault : Fault) (m : Machine) (status : Status) → inside m.node
        → (next_of s fault m status ≡ next_of s' fault m status) × inside (next_of s fault m status).machine.node
    next-same fault m going here = (step_same fault m here, step_inside fault m here)
    next-same fault m (ended outcome) here = (refl, here)

    after_same : (fault : Fault) (p : Progress) → inside p.machine.node → (rounds : ℕ)
        → (after s fault p rounds ≡ after s' fault p rounds) × inside (after s fault p rounds).machine.node
    unfolding after next
    after_same fault p here zero = (refl, here)
    after_same fault p here (suc rounds) =
        let before = after_same fault p here rounds in
        let q = after s fault p rounds in
        let now = next-same fault q.machine q.status before.1 in
        (now.0 ∙ ap (next s' fault) before.0, now.1)

    module _ (entry : ℕ) (here : inside entry) where
      -- the same run
      pub run-same : (fault : Fault) (budget : ℕ) → run_of s fault entry budget ≡ run_of s' fault entry budget
      unfolding run_of start
      run-same fault budget = (after_same fault (at (start entry) going) here budget).0

      below-same : (budget value : ℕ) (reference : List ℕ) (k : ℕ)
          → score_below s entry budget value reference k ≡ score_below s' entry budget value reference k
      unfolding score_below class_at
      below-same budget value reference zero = refl
      below-same budget value reference (suc k) = rw (run-same (Inverted k) budget, below-same budget value reference k)

      score_of_same : (budget : ℕ) (m : Machine) (outcome : Outcome) → score_of s entry budget m outcome ≡ score_of s' entry budget m outcome
      score_of_same budget m (Returned value) = rw (below-same budget value m.events m.branches)
      score_of_same budget m Caught = refl
      score_of_same budget m Spent = refl
      score_of_same budget m Full = refl

      -- the same score
      pub score-same : (budget : ℕ) → score_answer s entry budget ≡ score_answer s' entry budget
      score-same budget =
          let reference = run_of s' Undisturbed entry budget in
          rw (run-same Undisturbed budget) (score_of_same budget reference.machine (settled reference.status))

-- two tables with the same first 6N words
module _ (registers nodes entry : ℕ) (table table' inputs : List ℕ) (same : take (6 * nodes) table ≡ take (6 * nodes) table') where
  abbrev below : ℕ → Type 0
  below n = n < nodes

  -- the nodes of an accepted graph are closed under edges, and both tables hold them
  tables_alike : runnable_check registers nodes entry table ≡ given tt → Alike below (node_at table) (node_at table')
  tables_alike accepted =
      record {
        same = node_same nodes table table' same;
        closed = λ n t h among. targets_inside registers nodes (node_at table n) ((runnable_facts registers nodes entry table accepted).node_in n h) t among;
      }

  entry_below : runnable_check registers nodes entry table ≡ given tt → below entry
  entry_below accepted = (runnable_facts registers nodes entry table accepted).entry_in

  runs_same : runnable_check registers nodes entry table ≡ given tt → (room : ℕ) (fault : Fault) (budget : ℕ)
      → run_of (record { graph = node_at table; inputs = inputs; room = room }) fault entry budget
      ≡ run_of (record { graph = node_at table'; inputs = inputs; room = room }) fault entry budget
  runs_same accepted room fault budget =
      run-same below (node_at table) (node_at table') (tables_alike accepted) inputs room entry (entry_below accepted) fault budget

  -- get the same answer of `run`
  pub run-answer-same : (room budget : ℕ) (fault : Fault)
      → run_answer registers nodes entry table inputs room budget fault ≡ run_answer registers nodes entry table' inputs room budget fault
  unfolding run_answer
  run-answer-same room budget fault =
      rw (← runnable-same nodes table table' same registers entry)
      (then_same (runnable_check registers nodes entry table) _ _ λ _ accepted. rw (runs_same accepted room fault budget))

  -- and leave the same events
  pub run_events_same : (buffer : List ℕ) (budget : ℕ) (fault : Fault)
      → run_events registers nodes entry table inputs buffer budget fault ≡ run_events registers nodes entry table' inputs buffer budget fault
  unfolding run_events
  run_events_same buffer budget fault = rw (run-answer-same (length buffer) budget fault)

  -- the same answer of `campaign`
  pub campaign_same : (first second budget : ℕ)
      → campaign_answer registers nodes entry table inputs first second budget ≡ campaign_answer registers nodes entry table' inputs first second budget
  unfolding campaign_answer
  campaign_same first second budget =
      rw (← runnable-same nodes table table' same registers entry)
      (then_same (runnable_check registers nodes entry table) _ _ λ _ accepted.
      rw (score-same below (node_at table) (node_at table') (tables_alike accepted) inputs first entry (entry_below accepted) budget))

  -- an accepted campaign is one over an accepted graph
  campaign_accepted : (first second budget : ℕ) (score : Score) → campaign_answer registers nodes entry table inputs first second budget ≡ given score
      → runnable_check registers nodes entry table ≡ given tt
  unfolding campaign_answer
  campaign_accepted first second budget score e = (and_given (runnable_check registers nodes entry table) _ e).1

  -- and the same content of both buffers
  pub campaign_first-same : (first second : List ℕ) (budget : ℕ)
      → campaign_first registers nodes entry table inputs first second budget ≡ campaign_first registers nodes entry table' inputs first second budget
  unfolding campaign_first
  campaign_first-same first second budget =
      rw (← campaign_same (length first) (length second) budget)
      (written_same (campaign_answer registers nodes entry table inputs (length first) (length second) budget) _ _ first λ score e.
      rw (runs_same (campaign_accepted (length first) (length second) budget score e) (length first) Undisturbed budget))

  pub campaign_second_same : (first second : List ℕ) (budget : ℕ)
      → campaign_second registers nodes entry table inputs first second budget ≡ campaign_second registers nodes entry table' inputs first second budget
  unfolding campaign_second
  campaign_second_same first second budget = rw (campaign_same (length first) (length second) budget)
