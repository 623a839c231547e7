-- Laws of runs that demand 3 needs: one step on a node that is known, a round that leaves a run going is a step, and a fault
-- changes a run only in the round of its place.
-- Assumes nothing.
use mathlib.Core.Path.{◌≡◌, refl, sym, ap, ◌∙◌}
use mathlib.Core.Bool.{Bool, true, false, cond, not}
use mathlib.Core.Option.{Option, none, some}
use mathlib.Core.List.{List, [], ◌∷◌, ◌++◌, append-nil}
use Prim.Native.Nat.{ℕ, zero, suc, ◌+◌, ◌-◌, ◌≤◌, ◌<◌}
use native.Mathlib.Nat.{add-zero, add-suc}
use native.Mathlib.Omega.{arith}
use lib.ListN.{length, length-append}
use lib.Dec.{eqb}
use borrow.Author.Tests.{ne_eqb, eq-eqb}
use Rattle.graph.specs.Nodes.{Node, go, branch, ret, stop, const, op, input, output, Operand}
use Rattle.harden.specs.Hardened.{is_branch}
use Rattle.bench.specs.Words.{compare}
use Rattle.bench.specs.Steps.{Machine, Setting, Status, going, ended, Progress, at, step, get, operand_of, branch_to, stopped, execute, unless}
use Rattle.bench.specs.Runs.{next_of, next, after}
use Rattle.bench.specs.declared.Fault.{Fault}
use Rattle.bench.specs.declared.Fault.TheVariants.{Undisturbed, Inverted}
use Rattle.bench.specs.declared.Outcome.{Outcome}
use Rattle.bench.proofs.Rounds.{after-add}
use Rattle.bench.proofs.Growth.{grown_next, grown_after}

-- ---- steps

-- a round that leaves the run going is a step; no round takes back a step or a read, or counts two steps or two branches
pub record Stepped (m : Machine) (p : Progress) : Type 0 where
  pub one_step : p.status ≡ going → p.machine.steps ≡ m.steps + 1
  pub steps_more : m.steps ≤ p.machine.steps
  pub steps_one : p.machine.steps ≤ m.steps + 1
  pub reads_more : m.reads ≤ p.machine.reads
  pub branches_one : p.machine.branches ≤ m.branches + 1

-- an end that is no step
stayed : (m : Machine) (o : Outcome) → Stepped m (at m (ended o))
stayed m o =
    record { one_step = λ on. cc; steps_more = omega arith; steps_one = omega arith; reads_more = omega arith; branches_one = omega arith }

module _ (inputs : List ℕ) (fault : Fault) (m : Machine) where
  executed : (node : Node) → Stepped m (execute inputs fault node m)
  executed (go (const d k) next) = omega arith
  executed (go (op o d a b) next) = omega arith
  executed (go (input d) next) = omega arith
  executed (go (output port a) next) = omega arith
  executed (branch c a b then else) = omega arith
  executed (ret a) = omega arith
  executed stop = omega arith

  kept : (stop : Option Outcome) (p : Progress) → Stepped m p → Stepped m (unless stop m p)
  kept none p c = c
  kept (some o) p c = stayed m o

-- a list that is no longer than its beginning is its beginning
no_more : (xs a b : List ℕ) → xs ++ a ++ b ≡ xs → xs ++ a ≡ xs
no_more xs a b e = by a (simp length-append at (ap length e))
  where
    by : (a : List ℕ) → length xs + length a + length b ≡ length xs → xs ++ a ≡ xs
    by [] h = append-nil xs
    by (x ∷ a) h = absurd (omega arith)

module _ (s : Setting) (fault : Fault) where
  -- one step on a node that is known
  pub step-at : (m : Machine) (node : Node) → s.graph m.node ≡ node
      → next s fault (at m going) ≡ unless (stopped s.room node m) m (execute s.inputs fault node m)
  unfolding next step
  step-at m node e = ap (λ n. unless (stopped s.room n m) m (execute s.inputs fault n m)) e

  pub next-ended : (m : Machine) (o : Outcome) → next s fault (at m (ended o)) ≡ at m (ended o)
  unfolding next
  next-ended m o = refl

  stepped_of : (m : Machine) (status : Status) → Stepped m (next_of s fault m status)
  unfolding step
  stepped_of m going =
      let node = s.graph m.node in
      kept s.inputs fault m (stopped s.room node m) (execute s.inputs fault node m) (executed s.inputs fault m node)
  stepped_of m (ended o) = stayed m o

  pub next-stepped : (p : Progress) → Stepped p.machine (next s fault p)
  unfolding next
  next-stepped p = stepped_of p.machine p.status

  pub after-stepped : (p : Progress) (rounds : ℕ)
      → (p.machine.steps ≤ (after s fault p rounds).machine.steps) × (p.machine.reads ≤ (after s fault p rounds).machine.reads)
  unfolding after
  after-stepped p zero = (omega arith, omega arith)
  after-stepped p (suc rounds) =
      let (steps, reads) = after-stepped p rounds in
      let one = next-stepped (after s fault p rounds) in
      (omega arith, omega arith)

  -- so many rounds make no more steps
  pub steps_few : (p : Progress) (rounds : ℕ) → (after s fault p rounds).machine.steps ≤ p.machine.steps + rounds
  unfolding after
  steps_few p zero = omega arith
  steps_few p (suc rounds) = omega (arith, steps_few p rounds, (next-stepped (after s fault p rounds)).steps_one)

  -- where a later round has made no read and no event, no round in between has
  pub between : (p : Progress) (k n : ℕ) → k ≤ n → (after s fault p n).machine.reads ≡ p.machine.reads
      → (after s fault p n).machine.events ≡ p.machine.events
      → ((after s fault p k).machine.reads ≡ p.machine.reads) × ((after s fault p k).machine.events ≡ p.machine.events)
  between p k n h reads events =
      let q = after s fault p k in
      let end : after s fault p n ≡ after s fault q (n - k) = ap (after s fault p) (omega arith) ∙ after-add s fault p k (n - k) in
      let first = grown_after s fault p k in
      let rest = grown_after s fault q (n - k) in
      let whole : p.machine.events ++ first.more ++ rest.more ≡ p.machine.events =
      ap (◌++ rest.more) (sym first.events) ∙ sym rest.events ∙ sym (ap (λ r. r.machine.events) end) ∙ events in
      let last : (after s fault q (n - k)).machine.reads ≡ p.machine.reads = sym (ap (λ r. r.machine.reads) end) ∙ reads in
      let up = (after-stepped p k).1 in
      let on = (after-stepped q (n - k)).1 in
      (omega arith, first.events ∙ no_more p.machine.events first.more rest.more whole)

  -- a run that is going was going before
  pub going_before : (p : Progress) → (next s fault p).status ≡ going → p.status ≡ going
  unfolding next
  going_before p e = by p.machine p.status e
    where
      by : (m : Machine) (status : Status) → (next_of s fault m status).status ≡ going → status ≡ going
      by m going e = refl
      by m (ended o) e = e

  -- while a run is going each round is a step
  pub steps_going : (m : Machine) (rounds : ℕ) → (after s fault (at m going) rounds).status ≡ going
      → (after s fault (at m going) rounds).machine.steps ≡ m.steps + rounds
  unfolding after
  steps_going m zero e = sym (add-zero m.steps)
  steps_going m (suc rounds) e =
      let p = after s fault (at m going) rounds in
      omega (arith, steps_going m rounds (going_before p e), (next-stepped p).one_step e, add-suc m.steps rounds)

-- ---- faults

module _ (s : Setting) (place : ℕ) where
  unmoved : (m : Machine) (node : Node) → eqb place m.branches ≡ false
      → execute s.inputs (Inverted place) node m ≡ execute s.inputs Undisturbed node m
  unmoved m (go action next) h = refl
  unmoved m (branch c a b then else) h = rw h
  unmoved m (ret a) h = refl
  unmoved m stop h = refl

  passed : (m : Machine) (status : Status) → place < m.branches → next_of s (Inverted place) m status ≡ next_of s Undisturbed m status
  unfolding step
  passed m going h =
      let node = s.graph m.node in
      ap (unless (stopped s.room node m) m) (unmoved m node (ne_eqb place m.branches (λ e. omega arith)))
  passed m (ended o) h = refl

  -- a fault changes nothing after its place
  pub past_place : (p : Progress) (rounds : ℕ) → place < p.machine.branches → after s (Inverted place) p rounds ≡ after s Undisturbed p rounds
  unfolding after next
  past_place p rounds h = (both rounds).0
    where
      both : (r : ℕ) → (after s (Inverted place) p r ≡ after s Undisturbed p r) × (place < (after s Undisturbed p r).machine.branches)
      both zero = (refl, h)
      both (suc r) =
          let (same, past) = both r in
          let q = after s Undisturbed p r in
          (ap (next s (Inverted place)) same ∙ passed q.machine q.status past, omega (arith, (grown_next s Undisturbed q).branches))

-- a branch is a step, and counted
pub branch_counted : (s : Setting) (m : Machine) → is_branch (s.graph m.node) ≡ true
    → let m' = (next s Undisturbed (at m going)).machine in (m'.steps ≡ m.steps + 1) × (m'.branches ≡ m.branches + 1)
unfolding next step
branch_counted s m h = by (s.graph m.node) h
  where
    by : (node : Node) → is_branch node ≡ true
        → let m' = (unless (stopped s.room node m) m (execute s.inputs Undisturbed node m)).machine in
        (m'.steps ≡ m.steps + 1) × (m'.branches ≡ m.branches + 1)
    by (branch c a b then else) h = (refl, refl)
    by (go action next) h = (cc, cc)
    by (ret a) h = (cc, cc)
    by stop h = (cc, cc)

-- in the round of its place the branch goes to the other target
pub inverted_step : (s : Setting) (m : Machine) (c a then else : ℕ) (b : Operand) (w : Bool) → s.graph m.node ≡ branch c a b then else
    → compare c (get m a) (operand_of m b) ≡ w → next s (Inverted m.branches) (at m going) ≡ at (branch_to m (cond (not w) then else)) going
inverted_step s m c a then else b w e h =
    step-at s (Inverted m.branches) m (branch c a b then else) e
    ∙ rw (eq-eqb m.branches m.branches refl, h)
