-- The hardened run by its budget: what has ended stays as it is; each branch that the run executes has a round; and from the steps
-- named on the run ends as the source has ended.
-- Assumes nothing.
use mathlib.Core.Path.{◌≡◌, refl, sym, ap, ◌∙◌}
use mathlib.Core.Bool.{Bool, true, false}
use mathlib.Core.Option.{Option, none, some}
use Prim.Native.Nat.{ℕ, zero, suc, ◌+◌, ◌-◌, ◌≤◌, ◌<◌}
use native.Mathlib.Nat.{not-suc-le-zero}
use native.Mathlib.Decide.{dec_lt}
use native.Mathlib.Omega.{arith}
use Rattle.graph.specs.Nodes.{Node, go, branch, ret, stop, const, op, input, output}
use Rattle.harden.specs.Hardened.{is_branch}
use Rattle.bench.specs.Steps.{Machine, Status, going, ended, Progress, at, start, step, stopped, execute, unless}
use Rattle.bench.specs.Runs.{settled, next_of, next, after, run_of}
use Rattle.bench.specs.declared.Fault.{Fault}
use Rattle.bench.specs.declared.Fault.TheVariants.{Undisturbed, Inverted}
use Rattle.bench.specs.declared.Outcome.{Outcome}
use Rattle.bench.specs.declared.Outcome.TheVariants.{Caught}
use Rattle.swift.specs.Demand.{stopping}
use Rattle.swift.specs.Trials.{Trial, hardened, hardened_graph, source_run, hardened_run, hardened_steps, beside, AtBranch, CaughtBy}
use Rattle.bench.proofs.Rounds.{after-add, ended_stays}
use Rattle.swift.proofs.Rounds.{next-stepped, after-stepped, steps_few, steps_going, branch_counted}
use Rattle.swift.proofs.Roles.{Accepted}
use Rattle.swift.proofs.Following.{follows}

module _ (t : Trial) where
  -- a run that has ended is the same with any larger budget
  pub hardened_stays : (fault : Fault) (rounds budget : ℕ) (o : Outcome) → (hardened_run t fault rounds).status ≡ ended o → rounds ≤ budget
      → hardened_run t fault budget ≡ hardened_run t fault rounds
  unfolding hardened_run run_of
  hardened_stays fault rounds budget o e h =
      let p = hardened_run t fault rounds in
      let here : p ≡ at p.machine (ended o) = ap (at p.machine) e in
      ended_stays (hardened t) fault (at (start t.source.nodes) going) p.machine o rounds budget h here ∙ sym here

  -- and has made no more steps than the rounds in which it ended
  pub ended_steps : (fault : Fault) (rounds budget : ℕ) (o : Outcome) → (hardened_run t fault rounds).status ≡ ended o
      → (hardened_run t fault budget).machine.steps ≤ rounds
  unfolding hardened_run run_of start
  ended_steps fault rounds budget o e =
      let begin = at (start t.source.nodes) going in
      let q = hardened_run t fault budget in
      let more : hardened_run t fault (budget + rounds) ≡ after (hardened t) fault q rounds = after-add (hardened t) fault begin budget rounds in
      let end : after (hardened t) fault q rounds ≡ hardened_run t fault rounds =
      sym more ∙ hardened_stays fault rounds (budget + rounds) o e (omega arith) in
      let up : q.machine.steps ≤ (hardened_run t fault rounds).machine.steps = rw end at (after-stepped (hardened t) fault q rounds).0 in
      omega (arith, steps_few (hardened t) fault begin rounds)

  -- ---- the round of a place

  uncounted : (m : Machine) (node : Node) → is_branch node ≡ false
      → (unless (stopped t.room node m) m (execute t.inputs Undisturbed node m)).machine.branches ≡ m.branches
  uncounted m (go action next) e = by (stopped t.room (go action next) m) action
    where
      by : (o : Option Outcome) (action : _) → (unless o m (execute t.inputs Undisturbed (go action next) m)).machine.branches ≡ m.branches
      by (some o) action = refl
      by none (const d k) = refl
      by none (op o d a b) = refl
      by none (input d) = refl
      by none (output port a) = refl
  uncounted m (branch c a b then else) e = cc
  uncounted m (ret a) e = refl
  uncounted m stop e = refl

  -- a round that counts a branch executes one
  pub counts_branch : (p : Progress) → p.machine.branches < (next (hardened t) Undisturbed p).machine.branches
      → (p.status ≡ going) × (is_branch (hardened_graph t p.machine.node) ≡ true)
  unfolding next step
  counts_branch p h = by p.machine p.status h
    where
      by : (m : Machine) (status : Status) → m.branches < (next_of (hardened t) Undisturbed m status).machine.branches
          → (status ≡ going) × (is_branch (hardened_graph t m.node) ≡ true)
      by m (ended o) h = absurd (omega arith)
      by m going h = (refl, is (is_branch (hardened_graph t m.node)) refl)
        where
          is : (b : Bool) → is_branch (hardened_graph t m.node) ≡ b → b ≡ true
          is true e = refl
          is false e = absurd (omega (arith, uncounted m (hardened_graph t m.node) e))

  pub executes : (place budget : ℕ) → place < (hardened_run t Undisturbed budget).machine.branches
      → (rounds : ℕ) × (rounds < budget) × AtBranch t place rounds
  unfolding hardened_run run_of after start
  executes place zero h = absurd (not-suc-le-zero h)
  executes place (suc budget) h = by (dec_lt place (hardened_run t Undisturbed budget).machine.branches) (executes place budget)
    where
      by : Dec (place < (hardened_run t Undisturbed budget).machine.branches)
          → (place < (hardened_run t Undisturbed budget).machine.branches → (rounds : ℕ) × (rounds < budget) × AtBranch t place rounds)
          → (rounds : ℕ) × (rounds < suc budget) × AtBranch t place rounds
      by (yes l) ih = let (rounds, r<, x) = ih l in (rounds, omega arith, x)
      by (no d) ih =
          let p = hardened_run t Undisturbed budget in
          let one = (next-stepped (hardened t) Undisturbed p).branches_one in
          let (on, branching) = counts_branch p (omega arith) in
          (budget, omega arith, record { under_way = on; at_branch = branching; this_place = omega arith })

-- ---- what the runs with a budget have in common

module _ (t : Trial) (ok : Accepted t.source) where
  -- where the source has ended, the hardened run with a budget from the steps named on has ended beside it
  pub ends_beside : (rounds budget : ℕ) (o : Outcome) → (source_run t rounds).status ≡ ended o → hardened_steps t rounds + stopping o ≤ budget
      → hardened_run t Undisturbed budget ≡ beside t rounds
  unfolding beside
  ends_beside rounds budget o e h =
      let alike : (beside t rounds).status ≡ ended o = (follows t ok rounds).alike ∙ e in
      let at_end : stopping (settled (source_run t rounds).status) ≡ stopping o = ap (λ status. stopping (settled status)) e in
      hardened_stays t Undisturbed (hardened_steps t rounds + stopping (settled (source_run t rounds).status)) budget o alike (omega arith)

  -- what is caught stays caught
  pub caught_stays : {place rounds later : ℕ} → CaughtBy t place rounds later → rounds ≤ later → (budget : ℕ) → later ≤ budget
      → CaughtBy t place rounds budget
  caught_stays {place} {rounds} {later} c low budget high =
      record {
        is_caught = rw (stays budget high) c.is_caught;
        quiet = record { no_read = λ k from to. (both k from).0; no_event = λ k from to. (both k from).1 };
      }
    where
      stays : (k : ℕ) → later ≤ k → hardened_run t (Inverted place) k ≡ hardened_run t (Inverted place) later
      stays k long = hardened_stays t (Inverted place) later k Caught c.is_caught long

      before : Machine
      before = (hardened_run t Undisturbed rounds).machine

      both : (k : ℕ) → rounds ≤ k
          → ((hardened_run t (Inverted place) k).machine.reads ≡ before.reads) × ((hardened_run t (Inverted place) k).machine.events ≡ before.events)
      both k from = by (dec_lt later k)
        where
          by : Dec (later < k)
              → ((hardened_run t (Inverted place) k).machine.reads ≡ before.reads) × ((hardened_run t (Inverted place) k).machine.events ≡ before.events)
          by (yes long) = rw (stays k (omega arith)) (c.quiet.no_read later low (omega arith), c.quiet.no_event later low (omega arith))
          by (no short) = (c.quiet.no_read k from (omega arith), c.quiet.no_event k from (omega arith))

  -- a branch executed by a run that has ended lies before its last step
  pub executed_before : (place rounds budget : ℕ) → AtBranch t place rounds → rounds < budget
      → rounds + 1 ≤ (hardened_run t Undisturbed budget).machine.steps
  unfolding hardened_run run_of after start
  executed_before place rounds budget x h =
      let begin = at (start t.source.nodes) going in
      let p = after (hardened t) Undisturbed begin rounds in
      let same : p ≡ at p.machine going = ap (at p.machine) x.under_way in
      let so_far : p.machine.steps ≡ 0 + rounds = steps_going (hardened t) Undisturbed (start t.source.nodes) rounds x.under_way in
      let one : (next (hardened t) Undisturbed p).machine.steps ≡ p.machine.steps + 1 =
      rw same (branch_counted (hardened t) p.machine x.at_branch).0 in
      let rest : budget ≡ suc rounds + (budget - suc rounds) = omega arith in
      let made = after (hardened t) Undisturbed begin (suc rounds) in
      let up = (after-stepped (hardened t) Undisturbed made (budget - suc rounds)).0 in
      let end : after (hardened t) Undisturbed begin budget ≡ after (hardened t) Undisturbed made (budget - suc rounds) =
      ap (after (hardened t) Undisturbed begin) rest ∙ after-add (hardened t) Undisturbed begin (suc rounds) (budget - suc rounds) in
      rw end (omega arith)
