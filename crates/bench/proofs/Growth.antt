-- A run never takes back an event or the count of a branch.
-- Assumes nothing.
use Rattle.std.proofs.Common.{◌≡◌, ℕ, zero, suc, ◌≤◌, Bool, true, false, List, [], ◌++◌, length, sym, refl, ap, ◌∙◌, subst, append_assoc, append-nil, arith}
use Rattle.bench.specs.Steps.{Machine, Setting, Status, going, ended, Progress}
use Rattle.bench.specs.Effects.{effect_from, event_words, has_room}
use Rattle.bench.specs.Runs.{next_of, next, after, state_of}
use Rattle.bench.proofs.Effects.{followed, step_effect}
use Rattle.bench.specs.declared.Fault.{Fault}
use Rattle.bench.specs.declared.steps.Effect.{Effect}

-- n is a later machine of the same run
pub record Grown (m n : Machine) : Type 0 where
  pub branches : m.branches ≤ n.branches
  pub more : List ℕ
  pub events : n.events ≡ m.events ++ more

grown_none : (m : Machine) → Grown m m
grown_none m = record { branches = omega arith; more = []; events = sym (append-nil m.events) }

grown_on : {m n o : Machine} → Grown m n → Grown n o → Grown m o
grown_on {m} {n} {o} g h =
    record {
      branches = omega arith;
      more = g.more ++ h.more;
      events = h.events ∙ ap (λ (l : List ℕ). l ++ h.more) g.events ∙ append_assoc m.events g.more h.more;
    }

by_room : (room : ℕ) (m : Machine) (e : Effect) (b : Bool) → has_room e.sequel (length m.events) room ≡ b
    → Grown m (followed room (state_of m) m.events e).machine
by_room room m e true ok = rw ok (record { branches = omega arith; more = event_words e.sequel e.value; events = refl })
by_room room m e false lacks = rw lacks (grown_none m)

module _ (s : Setting) (fault : Fault) where
  grown_of : (m : Machine) (status : Status) → Grown m (next_of s fault m status).machine
  grown_of m going =
      let e = effect_from s fault (state_of m) in
      subst (λ (p : Progress). Grown m p.machine) (sym (step_effect s fault (state_of m) m.events))
      (by_room s.room m e (has_room e.sequel (length m.events) s.room) refl)
  grown_of m (ended outcome) = grown_none m

  pub grown_next : (p : Progress) → Grown p.machine (next s fault p).machine
  unfolding next
  grown_next p = grown_of p.machine p.status

  pub grown_after : (p : Progress) (rounds : ℕ) → Grown p.machine (after s fault p rounds).machine
  unfolding after
  grown_after p zero = grown_none p.machine
  grown_after p (suc rounds) = grown_on (grown_after p rounds) (grown_next (after s fault p rounds))
