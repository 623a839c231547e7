-- What a run never exceeds: its steps the budget, its branches and reads the steps, its events the room.
-- Assumes nothing.
use Rattle.std.proofs.Common.{◌≡◌, ℕ, zero, suc, ◌+◌, ◌≤◌, Bool, true, false, List, length, sym, refl, subst, add-zero, zero-add, arith, length-append, leb-true}
use Rattle.graph.specs.Nodes.{Node, go, branch, ret, stop, const, op, input, output}
use Rattle.bench.specs.Steps.{Machine, Setting, Status, going, ended, Progress, at, start, inverts}
use Rattle.bench.specs.Effects.{effect_of, effect_from, event_words, has_room}
use Rattle.bench.specs.Runs.{next_of, next, after, run_of, state_of}
use Rattle.bench.proofs.Effects.{followed, step_effect}
use Rattle.bench.specs.declared.Fault.{Fault}
use Rattle.bench.specs.declared.steps.Effect.{Effect}
use Rattle.bench.specs.declared.steps.Sequel.{Sequel}
use Rattle.bench.specs.declared.steps.Sequel.TheVariants as sequel

-- a step counts at most one branch and one read
pub record Counts (e : Effect) : Type 0 where
  pub branches : e.branches ≤ 1
  pub reads : e.reads ≤ 1

pub counts : (registers inputs : List ℕ) (reads self : ℕ) (flips : Bool) (node : Node) → Counts (effect_of registers inputs reads self flips node)
unfolding effect_of
counts registers inputs reads self flips (go (const d k) next) = record { branches = omega arith; reads = omega arith }
counts registers inputs reads self flips (go (op o d a b) next) = record { branches = omega arith; reads = omega arith }
counts registers inputs reads self flips (go (input d) next) = record { branches = omega arith; reads = omega arith }
counts registers inputs reads self flips (go (output port a) next) = record { branches = omega arith; reads = omega arith }
counts registers inputs reads self flips (branch c a b then else) = record { branches = omega arith; reads = omega arith }
counts registers inputs reads self flips (ret a) = record { branches = omega arith; reads = omega arith }
counts registers inputs reads self flips stop = record { branches = omega arith; reads = omega arith }

-- a machine after at most so many steps, within so much room
pub record Within (room rounds : ℕ) (m : Machine) : Type 0 where
  pub steps : m.steps ≤ rounds
  pub branches : m.branches ≤ m.steps
  pub reads : m.reads ≤ m.steps
  pub events : length m.events ≤ room

fits : (sequel : Sequel) (value words room : ℕ) → words ≤ room → has_room sequel words room ≡ true → words + length (event_words sequel value) ≤ room
fits sequel.On value words room h ok = omega arith
fits (sequel.Event port) value words room h ok = leb-true (words + 2) room ok
fits sequel.Returned value words room h ok = omega arith
fits sequel.Caught value words room h ok = omega arith

module _ (room rounds : ℕ) (m : Machine) (w : Within room rounds m) where
  by_room : (e : Effect) → Counts e → (b : Bool) → has_room e.sequel (length m.events) room ≡ b
      → Within room (rounds + 1) (followed room (state_of m) m.events e).machine
  by_room e small true ok =
      let more = length-append m.events (event_words e.sequel e.value) in
      let fit = fits e.sequel e.value (length m.events) room w.events ok in
      rw ok (record { steps = omega arith; branches = omega arith; reads = omega arith; events = omega arith })
  by_room e small false lacks = rw lacks (record { steps = omega arith; branches = w.branches; reads = w.reads; events = w.events })

module _ (s : Setting) (fault : Fault) where
  within_of : (rounds : ℕ) (m : Machine) → Within s.room rounds m → (status : Status) → Within s.room (rounds + 1) (next_of s fault m status).machine
  unfolding effect_from
  within_of rounds m w going =
      let state = state_of m in
      let e = effect_from s fault state in
      subst (λ (p : Progress). Within s.room (rounds + 1) p.machine) (sym (step_effect s fault state m.events))
      (by_room s.room rounds m w e (counts m.registers s.inputs m.reads m.node (inverts fault m.branches) (s.graph m.node))
      (has_room e.sequel (length m.events) s.room)
      refl)
  within_of rounds m w (ended outcome) = record { steps = omega arith; branches = w.branches; reads = w.reads; events = w.events }

  -- from any machine within bounds, after any number of rounds
  pub within_after : (from : ℕ) (p : Progress) → Within s.room from p.machine → (rounds : ℕ)
      → Within s.room (from + rounds) (after s fault p rounds).machine
  unfolding after next
  within_after from p w zero = rw add-zero w
  within_after from p w (suc rounds) =
      let q = after s fault p rounds in
      let more : from + suc rounds ≡ from + rounds + 1 = omega arith in
      rw more (within_of (from + rounds) q.machine (within_after from p w rounds) q.status)

  -- from the start
  pub within : (entry rounds : ℕ) → Within s.room rounds (run_of s fault entry rounds).machine
  unfolding run_of start
  within entry rounds =
      let first : Within s.room 0 (start entry) = record { steps = omega arith; branches = omega arith; reads = omega arith; events = omega arith } in
      subst (λ (n : ℕ). Within s.room n (run_of s fault entry rounds).machine) (zero-add rounds)
      (within_after 0 (at (start entry) going) first rounds)
