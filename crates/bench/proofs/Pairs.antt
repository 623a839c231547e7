-- The events of a run are pairs of words.
-- Assumes nothing.
use Rattle.std.proofs.Common.{◌≡◌, ℕ, zero, suc, ◌+◌, ◌*◌, Bool, true, false, List, ◌++◌, length, sym, refl, subst, arith, length-append}
use Rattle.bench.specs.Steps.{Machine, Setting, Status, going, ended, Progress, at, start}
use Rattle.bench.specs.Effects.{effect_from, event_words, has_room}
use Rattle.bench.specs.Runs.{next_of, next, after, run_of, state_of}
use Rattle.bench.proofs.Effects.{followed, step_effect}
use Rattle.bench.specs.declared.Fault.{Fault}
use Rattle.bench.specs.declared.State.{State}
use Rattle.bench.specs.declared.steps.Effect.{Effect}
use Rattle.bench.specs.declared.steps.Sequel.{Sequel}
use Rattle.bench.specs.declared.steps.Sequel.TheVariants as sequel

-- words two by two
abbrev pub Paired : List ℕ → Type 0
Paired words = (n : ℕ) × (length words ≡ 2 * n)

more : (words : List ℕ) (q : Sequel) (value : ℕ) → Paired words → Paired (words ++ event_words q value)
more words sequel.On value (n, e) = (n, omega (arith, length-append words (event_words sequel.On value)))
more words (sequel.Event port) value (n, e) = (n + 1, omega (arith, length-append words (event_words (sequel.Event port) value)))
more words sequel.Returned value (n, e) = (n, omega (arith, length-append words (event_words sequel.Returned value)))
more words sequel.Caught value (n, e) = (n, omega (arith, length-append words (event_words sequel.Caught value)))

by_room : (room : ℕ) (state : State) (words : List ℕ) (e : Effect) → Paired words → (b : Bool) → has_room e.sequel (length words) room ≡ b
    → Paired (followed room state words e).machine.events
by_room room state words e p true ok = rw ok (more words e.sequel e.value p)
by_room room state words e p false lacks = rw lacks p

module _ (s : Setting) (fault : Fault) where
  pairs_of : (m : Machine) → Paired m.events → (status : Status) → Paired (next_of s fault m status).machine.events
  pairs_of m p going =
      let e = effect_from s fault (state_of m) in
      subst (λ (q : Progress). Paired q.machine.events) (sym (step_effect s fault (state_of m) m.events))
      (by_room s.room (state_of m) m.events e p (has_room e.sequel (length m.events) s.room) refl)
  pairs_of m p (ended outcome) = p

  -- after any number of rounds from the start
  pub pairs : (entry rounds : ℕ) → Paired (run_of s fault entry rounds).machine.events
  unfolding run_of after next start
  pairs entry zero = (0, refl)
  pairs entry (suc rounds) =
      let p = after s fault (at (start entry) going) rounds in
      pairs_of p.machine (pairs entry rounds) p.status
