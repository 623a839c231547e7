-- A step applies the effect of its node, or stops where an event has no room.
-- Assumes nothing.
use Rattle.std.proofs.Common.{◌≡◌, ℕ, ◌+◌, Bool, true, false, cond, leb, List, ◌++◌, length, get_or, set, refl, append-nil, add-zero}
use mathlib.Core.Option.{none, some}
use lib.Seq.{set-get_or}
use Rattle.graph.specs.Nodes.{Node, go, branch, ret, stop, const, op, input, output, register, constant}
use Rattle.bench.specs.Steps.{Machine, Setting, ended, Progress, at, inverts, stopped, execute, unless, step}
use Rattle.bench.specs.Effects.{effect_of, effect_from, event_words, has_room, status_after, applied, machine_of}
use Rattle.bench.specs.declared.Fault.{Fault}
use Rattle.bench.specs.declared.State.{State}
use Rattle.bench.specs.declared.Outcome.TheVariants.{Full}
use Rattle.bench.specs.declared.steps.Effect.{Effect}

-- what follows a state by an effect
abbrev pub followed : ℕ → State → List ℕ → Effect → Progress
followed room state events e =
    cond (has_room e.sequel (length events) room)
    (at (machine_of (applied state e) (events ++ event_words e.sequel e.value)) (status_after e.sequel e.value))
    (at (machine_of state events) (ended Full))

choose : (b : Bool) (p : Progress) (m : Machine) → unless (cond b none (some Full)) m p ≡ cond b p (at m (ended Full))
choose true p m = refl
choose false p m = refl

module _ (inputs : List ℕ) (room : ℕ) (fault : Fault) (state : State) (events : List ℕ) where
  -- a register that takes the value it has, and nothing counted
  same : (a : ℕ) → set state.registers a (get_or state.registers a 0) ≡ state.registers
  same a = set-get_or state.registers a 0

  by_node : (node : Node)
      → unless (stopped room node (machine_of state events)) (machine_of state events) (execute inputs fault node (machine_of state events))
      ≡ followed room state events (effect_of state.registers inputs state.reads state.node (inverts fault state.branches) node)
  unfolding effect_of
  by_node (go (const d k) next) = simp (append-nil, add-zero)
  by_node (go (op o d a b) next) = simp (append-nil, add-zero)
  by_node (go (input d) next) = simp (append-nil, add-zero)
  by_node (go (output port a) next) = simp (add-zero, same) (choose (leb (length events + 2) room) _ _)
  by_node (branch c a (register b) then else) = simp (append-nil, add-zero, same)
  by_node (branch c a (constant b) then else) = simp (append-nil, add-zero, same)
  by_node (ret a) = simp (append-nil, add-zero, same)
  by_node stop = simp (append-nil, add-zero, same)

-- one step of a run
pub step_effect : (s : Setting) (fault : Fault) (state : State) (events : List ℕ)
    → step s fault (machine_of state events) ≡ followed s.room state events (effect_from s fault state)
unfolding step effect_from
step_effect s fault state events = by_node s.inputs s.room fault state events (s.graph state.node)
