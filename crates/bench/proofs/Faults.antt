-- A fault at a place that is not reached changes nothing; so a run with a branch inverted is the undisturbed one up to that branch.
-- Assumes nothing.
use Rattle.std.proofs.Common.{◌≡◌, ℕ, zero, suc, ◌+◌, ◌-◌, ◌≤◌, ◌⊎◌, refl, ap, ◌∙◌, inl, inr, arith, ne_eqb}
use Rattle.graph.specs.Nodes.{Node, go, branch, ret, stop}
use Rattle.bench.specs.Steps.{Machine, Setting, Status, going, ended, Progress, at, start, stopped, execute, unless, step}
use Rattle.bench.specs.Runs.{next_of, next, after, run_of}
use Rattle.bench.specs.Classes.{place_of}
use Rattle.bench.proofs.Bounds.{within}
use Rattle.bench.proofs.Rounds.{after-add}
use Rattle.bench.proofs.Growth.{grown_next}
use Rattle.bench.specs.declared.Fault.{Fault}
use Rattle.bench.specs.declared.Fault.TheVariants.{Undisturbed, Inverted}

module _ (s : Setting) (place : ℕ) where
  abbrev made : Fault → Node → Machine → Progress
  made fault node m = unless (stopped s.room node m) m (execute s.inputs fault node m)

  -- a step that does not count the branch at the place; with any fault it would count as many
  same_step : (f : Fault) (m : Machine) (node : Node) → (made f node m).machine.branches ≤ place → made (Inverted place) node m ≡ made Undisturbed node m
  same_step f m (go action next) h = refl
  same_step f m (branch c a b then else) h = rw (ne_eqb place m.branches (λ e. omega arith))
  same_step f m (ret a) h = refl
  same_step f m stop h = refl

  same_next : (f : Fault) (m : Machine) (status : Status) → (next_of s f m status).machine.branches ≤ place
      → next_of s (Inverted place) m status ≡ next_of s Undisturbed m status
  unfolding step
  same_next f m going h = same_step f m (s.graph m.node) h
  same_next f m (ended outcome) h = refl

  -- the run with the fault and the one without it are one as long as either has not counted the branch at the place
  abbrev Either : Fault → Type 0
  Either f = (f ≡ Undisturbed) ⊎ (f ≡ Inverted place)

  alike_after : (f : Fault) → Either f → (p : Progress) (rounds : ℕ) → (after s f p rounds).machine.branches ≤ place
      → after s (Inverted place) p rounds ≡ after s Undisturbed p rounds
  unfolding after next
  alike_after f either p zero h = refl
  alike_after f either p (suc rounds) h =
      let g = grown_next s f (after s f p rounds) in
      let so_far = alike_after f either p rounds (omega arith) in
      let q = after s Undisturbed p rounds in
      ap (next s (Inverted place)) so_far ∙ same_next f q.machine q.status (rw (same either so_far) at h)
    where
      same : Either f → after s (Inverted place) p rounds ≡ after s Undisturbed p rounds → after s f p rounds ≡ after s Undisturbed p rounds
      same (inl e) so_far = rw e
      same (inr e) so_far = rw e so_far

  -- a place never reached changes nothing
  pub unreached_after : (p : Progress) (rounds : ℕ) → (after s Undisturbed p rounds).machine.branches ≤ place
      → after s (Inverted place) p rounds ≡ after s Undisturbed p rounds
  unreached_after p rounds h = alike_after Undisturbed (inl refl) p rounds h

  pub unreached : (entry budget : ℕ) → (run_of s Undisturbed entry budget).machine.branches ≤ place
      → run_of s (Inverted place) entry budget ≡ run_of s Undisturbed entry budget
  unfolding run_of
  unreached entry budget h = unreached_after (at (start entry) going) budget h

  -- seen from the other side
  pub not_reached : (entry budget : ℕ) → (run_of s (Inverted place) entry budget).machine.branches ≤ place
      → run_of s (Inverted place) entry budget ≡ run_of s Undisturbed entry budget
  unfolding run_of
  not_reached entry budget h = alike_after (Inverted place) (inr refl) (at (start entry) going) budget h

-- a fault's place says all of it: no run reaches the place after as many branches as its budget has steps
pub as_placed : (s : Setting) (fault : Fault) (entry budget : ℕ) → run_of s (Inverted (place_of fault budget)) entry budget ≡ run_of s fault entry budget
as_placed s Undisturbed entry budget = let w = within s Undisturbed entry budget in unreached s budget entry budget (omega arith)
as_placed s (Inverted place) entry budget = refl

-- what a run comes to from where it stands after some rounds
pub run_on_lem : (s : Setting) (fault : Fault) (entry : ℕ) (p : Progress) (k budget : ℕ) → k ≤ budget → run_of s fault entry k ≡ p
    → run_of s fault entry budget ≡ after s fault p (budget - k)
unfolding run_of
run_on_lem s fault entry p k budget h here =
    let all : budget ≡ k + (budget - k) = omega arith in
    ap (after s fault (at (start entry) going)) all ∙ after-add s fault (at (start entry) going) k (budget - k)
    ∙ ap (λ (q : Progress). after s fault q (budget - k)) here
