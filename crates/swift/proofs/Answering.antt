-- From rounds to answers: what `run` answers of the two graphs of a subject is the run after as many rounds as its budget, up to the
-- largest budget; so each clause of demand 3 passes from the runs to the answers.
-- Assumes nothing.
use mathlib.Core.Path.{◌≡◌, refl, sym, ap, ◌∙◌, subst}
use mathlib.Core.Logic.{inl, inr}
use mathlib.Core.Bool.{Bool, true, false, cond}
use mathlib.Core.Option.{none, some}
use mathlib.Core.List.{List, ◌++◌}
use Prim.Native.Nat.{ℕ, zero, suc, ◌+◌, ◌/◌, ◌≤◌, ◌<◌}
use native.Mathlib.Nat.{add-zero, zero-add, not-suc-le-zero}
use native.Mathlib.Decide.{dec_lt}
use native.Mathlib.Omega.{arith}
use lib.ListN.{length}
use lib.Dec.{leb}
use borrow.Author.Tests.{le-leb, lt-leb}
use Rattle.words.specs.Answer.{Answer, given, refused}
use Rattle.words.specs.Buffer.{over}
use Rattle.graph.specs.Nodes.{Node, go, branch, ret, stop, const, op, input, output, node_at}
use Rattle.graph.specs.Checks.{runnable_check, source_check}
use Rattle.graph.specs.declared.Header.{Header}
use Rattle.graph.proofs.Facts.{source_facts, path_short, source-runnable}
use Rattle.harden.specs.Blocks.{Plan}
use Rattle.harden.specs.Hardened.{Source, hardened_table}
use Rattle.harden.specs.Edges.{Distinct}
use Rattle.harden.proofs.Runnable.{hardened-runnable}
use Rattle.bench.specs.Steps.{Machine, Setting, Status, going, ended, Progress, at, start, step, stopped, execute, unless}
use Rattle.bench.specs.Runs as runs
use Rattle.bench.specs.Runs.{settled, next_of, next, after, run_of, state_of, most_steps, run_answer, run_events}
use Rattle.bench.specs.declared.Fault.{Fault}
use Rattle.bench.specs.declared.Fault.TheVariants.{Undisturbed, Inverted}
use Rattle.bench.specs.declared.Outcome.{Outcome}
use Rattle.bench.specs.declared.Outcome.TheVariants.{Returned, Caught, Spent, Full}
use Rattle.bench.specs.declared.RunAnswer.{RunAnswer}
use Rattle.bench.specs.declared.State.{State}
use Rattle.bench.proofs.Rounds.{after_more}
use Rattle.swift.specs.Demand.{Subject, source_in, hardened_header, verdict, state, Run, run_on, run_source, run_hardened}
use Rattle.swift.specs.Demand.{crossings, steps_beside, stopping, SameTraffic, Alike, Executes, soon, CaughtSoon, Answered, Demand3}
use Rattle.swift.specs.Trials.{Trial, plain, hardened, hardened_graph, source_run, hardened_run}
use Rattle.swift.specs.Trials.{crossed, hardened_steps, beside, AtBranch, CaughtAfter, Decided}
use Rattle.swift.proofs.Rounds.{steps_going, branch_counted}
use Rattle.swift.proofs.Roles.{Accepted}
use Rattle.swift.proofs.Following.{follows}
use Rattle.swift.proofs.Inverting.{answered}
use Rattle.swift.proofs.Budgets.{ended_steps, counts_branch, executes, ends_beside, caught_stays}

-- ---- Spent is no end of a step

-- a status that a round can come to: Spent is only how a run that is still going is answered
abbrev Unspent : Status → Type 0
Unspent going = Unit {0}
Unspent (ended (Returned value)) = Unit {0}
Unspent (ended Caught) = Unit {0}
Unspent (ended Spent) = ⊥
Unspent (ended Full) = Unit {0}

-- so a run that is answered as Spent is still going
spent_going : (status : Status) → Unspent status → settled status ≡ Spent → status ≡ going
spent_going going u e = refl
spent_going (ended (Returned value)) u e = cc
spent_going (ended Caught) u e = cc
spent_going (ended Spent) u e = absurd u
spent_going (ended Full) u e = cc

-- and one that is answered as anything else has so ended
ended_as : (status : Status) (o : Outcome) → settled status ≡ o → (o ≡ Spent → ⊥) → status ≡ ended o
ended_as going o e other = absurd (other (sym e))
ended_as (ended outcome) o e other = ap ended e

module _ (s : Setting) (fault : Fault) where
  unspent_at : (m : Machine) (node : Node) → Unspent (unless (stopped s.room node m) m (execute s.inputs fault node m)).status
  unspent_at m (go (const d k) next) = tt
  unspent_at m (go (op o d a b) next) = tt
  unspent_at m (go (input d) next) = tt
  unspent_at m (go (output port a) next) = by (leb (length m.events + 2) s.room)
    where
      by : (b : Bool) → Unspent (unless (cond b none (some Full)) m (execute s.inputs fault (go (output port a) next) m)).status
      by true = tt
      by false = tt
  unspent_at m (branch c a b then else) = tt
  unspent_at m (ret a) = tt
  unspent_at m stop = tt

  unspent_next : (m : Machine) (status : Status) → Unspent status → Unspent (next_of s fault m status).status
  unfolding step
  unspent_next m going u = unspent_at m (s.graph m.node)
  unspent_next m (ended o) u = u

  unspent : (entry rounds : ℕ) → Unspent (run_of s fault entry rounds).status
  unfolding run_of after next
  unspent entry zero = tt
  unspent entry (suc rounds) = let p = run_of s fault entry rounds in unspent_next p.machine p.status (unspent entry rounds)

-- ---- what `run` answers

-- a run after so many rounds, as it is answered and written
abbrev shown : Subject → Progress → Run
shown j p = record { answer = runs.answered (given p); events = over p.machine.events j.events }

same-shown : (j : Subject) (p q : Progress) → p.machine.reads ≡ q.machine.reads → p.machine.events ≡ q.machine.events
    → SameTraffic (shown j p) (shown j q)
same-shown j p q reads events =
    record { same_reads = reads; same_count = ap (λ l. length l / 2) events; same_events = ap (λ l. over l j.events) events }

module _ (j : Subject) (h : Header) (words : List ℕ) (in_order : runnable_check h.registers h.nodes h.entry words ≡ given tt)
    (fault : Fault) (budget : ℕ) where
  abbrev setting : Setting
  setting = record { graph = node_at words; inputs = j.inputs; room = length j.events }

  answer_within : budget ≤ most_steps → run_on j h words fault budget ≡ shown j (run_of setting fault h.entry budget)
  unfolding run_on run_events run_answer
  answer_within few = rw (in_order, le-leb budget most_steps few)

  answer_past : most_steps < budget → (run_on j h words fault budget).answer ≡ refused 12 0
  unfolding run_on run_answer
  answer_past many = rw (in_order, lt-leb budget most_steps many)

  -- a budget whose answer is not that refusal is none too large
  not_past : (P : Answer RunAnswer → Type 0) → (P (refused 12 0) → ⊥) → P (run_on j h words fault budget).answer → budget ≤ most_steps
  not_past P never p = by (dec_lt most_steps budget)
    where
      by : Dec (most_steps < budget) → budget ≤ most_steps
      by (yes many) = absurd (never (subst P (answer_past many) p))
      by (no few) = omega arith

  few_ran : (o : Outcome) → verdict (run_on j h words fault budget).answer ≡ given o → budget ≤ most_steps
  few_ran o = not_past (λ a. verdict a ≡ given o) (λ e. let z : ◌≡◌ {A = ℕ} 0 1 = cc in omega arith)

  few_branches : (place : ℕ) → place < (state (run_on j h words fault budget).answer).branches → budget ≤ most_steps
  unfolding start
  few_branches place = not_past (λ a. place < (state a).branches) not-suc-le-zero

-- the same states give the same crossings
same-crossings : (source : Source) (f g : ℕ → State) (s : ℕ) → ((k : ℕ) → k ≤ s → f k ≡ g k) → crossings source f s ≡ crossings source g s
unfolding crossings
same-crossings source f g zero same = refl
same-crossings source f g (suc s) same =
    let now = same s (omega arith) in
    let then = same (suc s) (omega arith) in
    let fewer = same-crossings source f g s (λ k h. same k (omega arith)) in
    rw (fewer, now, then)

-- ---- demand 3

-- a table that is accepted, with any plan of distinct signatures
pub accepted_source : (plan : Plan) → Distinct plan → (registers nodes entry : ℕ) (table : List ℕ)
    → source_check registers nodes entry table ≡ given tt
    → Accepted (record { plan = plan; registers = registers; nodes = nodes; entry = entry; graph = node_at table })
accepted_source plan distinct registers nodes entry table e =
    record { in_order = source_facts registers nodes entry table e; path_short = path_short registers nodes entry table e; distinct = distinct }

module _ (j : Subject) (behind : List ℕ) (distinct : Distinct j.plan)
    (accepted : source_check j.header.registers j.header.nodes j.header.entry j.table ≡ given tt)
    (leaves : j.output ≡ hardened_table (source_in j) ++ behind) where
  abbrev trial : Trial
  trial = record { source = source_in j; behind = behind; inputs = j.inputs; room = length j.events }

  ok : Accepted (source_in j)
  ok = accepted_source j.plan distinct j.header.registers j.header.nodes j.header.entry j.table accepted

  -- ---- both graphs run

  source_in_order : runnable_check j.header.registers j.header.nodes j.header.entry j.table ≡ given tt
  source_in_order = source-runnable j.header.registers j.header.nodes j.header.entry j.table accepted

  source_runs : (budget : ℕ) → budget ≤ most_steps → run_source j budget ≡ shown j (source_run trial budget)
  unfolding source_run
  source_runs budget few = answer_within j j.header j.table source_in_order Undisturbed budget few

  hardened_in_order : runnable_check (hardened_header j).registers (hardened_header j).nodes (hardened_header j).entry j.output ≡ given tt
  hardened_in_order = rw leaves (hardened-runnable (source_in j) ok.in_order behind)

  hardened_runs : (fault : Fault) (budget : ℕ) → budget ≤ most_steps → run_hardened j fault budget ≡ shown j (hardened_run trial fault budget)
  unfolding hardened_run hardened_graph
  hardened_runs fault budget few =
      let on : List ℕ → Setting = λ words. record { graph = node_at words; inputs = j.inputs; room = length j.events } in
      answer_within j (hardened_header j) j.output hardened_in_order fault budget few
      ∙ ap (λ words. shown j (run_of (on words) fault j.header.nodes budget)) leaves

  ran : (fault : Fault) (budget : ℕ) → budget ≤ most_steps → (o : Outcome) × (verdict (run_hardened j fault budget).answer ≡ given o)
  ran fault budget few = (settled (hardened_run trial fault budget).status, ap (λ r. verdict r.answer) (hardened_runs fault budget few))

  -- ---- undisturbed

  steps_named : (s : ℕ) → s ≤ most_steps → steps_beside j s ≡ hardened_steps trial s
  unfolding steps_beside hardened_steps
  steps_named s few =
      let x : crossings (source_in j) (λ k. state (run_source j k).answer) s ≡ crossed trial s =
      same-crossings (source_in j) (λ k. state (run_source j k).answer) (λ k. state_of (source_run trial k).machine) s
      (λ k h. ap (λ r. state r.answer) (source_runs k (omega arith))) in
      rw (x, source_runs s few)

  alike : (s budget : ℕ) → s ≤ most_steps → budget ≤ most_steps → hardened_run trial Undisturbed budget ≡ beside trial s → Alike j budget s
  alike s budget few-source few e =
      let f = follows trial ok s in
      let h : run_hardened j Undisturbed budget ≡ shown j (beside trial s) = hardened_runs Undisturbed budget few ∙ ap (shown j) e in
      let q : run_source j s ≡ shown j (source_run trial s) = source_runs s few-source in
      record {
        steps = rw h (f.steps ∙ sym (steps_named s few-source));
        same_verdict = rw (h, q) (ap (λ status. given (settled status)) f.alike);
        same_node = rw (h, q) f.agree.same_node;
        same_registers = rw (h, q) f.agree.same_registers;
        same_traffic = rw (h, q) (same-shown j (beside trial s) (source_run trial s) f.agree.same_reads f.agree.same_events);
      }

  under_way : (s : ℕ) → verdict (run_source j s).answer ≡ given Spent → steps_beside j s ≤ most_steps
      → ((state (run_source j s).answer).steps ≡ s) × Alike j (steps_beside j s) s
  unfolding source_run run_of beside start
  under_way s spent few =
      let few-source = few_ran j j.header j.table source_in_order Undisturbed s Spent spent in
      let q = source_runs s few-source in
      let p = source_run trial s in
      let answered-spent : settled p.status ≡ Spent = cc (rw q at spent) in
      let on : p.status ≡ going = spent_going p.status (unspent (plain trial) Undisturbed j.header.entry s) answered-spent in
      let steps : p.machine.steps ≡ 0 + s = steps_going (plain trial) Undisturbed (start j.header.entry) s on in
      let no_more : steps_beside j s ≡ hardened_steps trial s + stopping (settled p.status) =
      steps_named s few-source ∙ rw on (sym (add-zero (hardened_steps trial s))) in
      (rw q (steps ∙ zero-add s), alike s (steps_beside j s) few-source few (ap (hardened_run trial Undisturbed) no_more))

  ends : (s : ℕ) (o : Outcome) → verdict (run_source j s).answer ≡ given o → (o ≡ Spent → ⊥)
      → (budget : ℕ) → steps_beside j s + stopping o ≤ budget → budget ≤ most_steps → Alike j budget s
  ends s o e other budget enough few =
      let few-source = few_ran j j.header j.table source_in_order Undisturbed s o e in
      let p = source_run trial s in
      let ending : settled p.status ≡ o = cc (rw (source_runs s few-source) at e) in
      alike s budget few-source few
      (ends_beside trial ok s budget o (ended_as p.status o ending other) (rw (steps_named s few-source) at enough))

  -- ---- one branch inverted

  one_more : (n : ℕ) → hardened_run trial Undisturbed (n + 1) ≡ next (hardened trial) Undisturbed (hardened_run trial Undisturbed n)
  unfolding hardened_run run_of
  one_more n = after_more (hardened trial) Undisturbed (at (start j.header.nodes) going) n

  -- the round of a branch is the step that counts it
  counted : (place n : ℕ) → n + 1 ≤ most_steps → AtBranch trial place n → Executes j place n
  unfolding hardened_run run_of start
  counted place n few x =
      let p = hardened_run trial Undisturbed n in
      let same : p ≡ at p.machine going = ap (at p.machine) x.under_way in
      let steps : p.machine.steps ≡ 0 + n = steps_going (hardened trial) Undisturbed (start j.header.nodes) n x.under_way in
      let one : (next (hardened trial) Undisturbed p).machine.branches ≡ p.machine.branches + 1 =
      rw same (branch_counted (hardened trial) p.machine x.at_branch).1 in
      let all : (hardened_run trial Undisturbed (n + 1)).machine.branches ≡ place + 1 =
      ap (λ q. q.machine.branches) (one_more n) ∙ one ∙ ap (◌+ 1) x.this_place in
      record {
        steps = rw (hardened_runs Undisturbed n (omega arith)) (steps ∙ zero-add n);
        before = rw (hardened_runs Undisturbed n (omega arith)) x.this_place;
        counted = rw (hardened_runs Undisturbed (n + 1) few) all;
      }

  at_branch : (place n : ℕ) → Executes j place n → AtBranch trial place n
  at_branch place n x =
      let few : n + 1 ≤ most_steps = few_branches j (hardened_header j) j.output hardened_in_order Undisturbed (n + 1) place (omega arith) in
      let p = hardened_run trial Undisturbed n in
      let before : p.machine.branches ≡ place = rw (hardened_runs Undisturbed n (omega arith)) at x.before in
      let one : (next (hardened trial) Undisturbed p).machine.branches ≡ place + 1 =
      sym (ap (λ q. q.machine.branches) (one_more n)) ∙ (rw (hardened_runs Undisturbed (n + 1) few) at x.counted) in
      let (on, branching) = counts_branch trial p (omega arith) in
      record { under_way = on; at_branch = branching; this_place = before }

  each_branch : (place budget : ℕ) → place < (state (run_hardened j Undisturbed budget).answer).branches → (n : ℕ) × (n < budget) × Executes j place n
  each_branch place budget h =
      let few = few_branches j (hardened_header j) j.output hardened_in_order Undisturbed budget place h in
      let (n, below, x) = executes trial place budget (rw (hardened_runs Undisturbed budget few) at h) in
      (n, below, counted place n (omega arith) x)

  soon_caught : (place n budget : ℕ) → n ≤ budget → budget ≤ most_steps → CaughtAfter trial place n → CaughtSoon j place n budget
  soon_caught place n budget low few c =
      let later = budget + (n + 1 + soon) in
      let ever = caught_stays trial ok c (omega arith) later (omega arith) in
      let d = hardened_runs (Inverted place) budget few in
      let u = hardened_runs Undisturbed n (omega arith) in
      record {
        is_caught = λ left. rw d (ap (λ status. given (settled status)) (caught_stays trial ok c (omega arith) budget left).is_caught);
        within = rw d (ended_steps trial (Inverted place) (n + 1 + soon) budget Caught c.is_caught);
        quiet = rw (d, u) (same-shown j (hardened_run trial (Inverted place) budget) (hardened_run trial Undisturbed n)
            (ever.quiet.no_read budget low (omega arith)) (ever.quiet.no_event budget low (omega arith)));
      }

  inverted : (place n : ℕ) → Executes j place n → (budget : ℕ) → n ≤ budget → budget ≤ most_steps → Answered j place n budget
  inverted place n x budget low few = by (answered trial ok place n (at_branch place n x))
    where
      here : run_hardened j Undisturbed n ≡ shown j (hardened_run trial Undisturbed n)
      here = hardened_runs Undisturbed n (omega arith)

      by : Decided trial place n → Answered j place n budget
      by (inl (one, unchanged)) =
          inl (
            rw here one,
            λ left. hardened_runs (Inverted place) budget few ∙ ap (shown j) (unchanged budget left) ∙ sym (hardened_runs Undisturbed budget few),
          )
      by (inr (two, c)) = inr ((λ one. two (rw here at one)), soon_caught place n budget low few c)

  -- demand 3 for any plan with distinct signatures, where hardening answers R + 2, H and N and leaves the hardened table, whatever
  -- stands behind it
  pub kept : j.answer ≡ given (hardened_header j) → Demand3 j
  kept answers = record { hardens = answers; runs = ran; under_way = under_way; ended = ends; executes = each_branch; inverted = inverted }
