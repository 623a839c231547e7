-- In every round that the undisturbed hardened run is going, its machine stands in one of the roles.
-- Assumes nothing.
use mathlib.Core.Path.{◌≡◌, refl, sym, ap, ◌∙◌, subst}
use Prim.Native.Nat.{ℕ, zero, suc}
use native.Mathlib.Omega.{arith}
use Rattle.bench.specs.Steps.{Machine, going, ended, Progress, at, start, counted}
use Rattle.bench.specs.Runs.{next, after, run_of}
use Rattle.bench.specs.declared.Fault.TheVariants.{Undisturbed}
use Rattle.bench.specs.declared.Outcome.{Outcome}
use Rattle.bench.specs.declared.Outcome.TheVariants.{Returned}
use Rattle.swift.specs.Trials.{Trial, hardened, hardened_run}
use Rattle.swift.proofs.Rounds.{going_before}
use Rattle.swift.proofs.Roles.{Accepted, AtSource, Checking, Updating, Preparing, Tested, Doubling, HardenedStep, Departs, walks, jumps, tests, ends, stops, Onward}
use Rattle.swift.proofs.Stepping.{check-step, update-step, prepare-step, tested_step, doubling_step}
use Rattle.swift.proofs.Departing.{depart}
use Rattle.swift.proofs.Following.{entered, first_step, first-source}

pub data Standing (t : Trial) (m : Machine) : Type 0 where
  starting : m ≡ start t.source.nodes → Standing t m
  at_source : (σ : Machine) → AtSource t σ m → Standing t m
  tested : (σ : Machine) → Tested t σ m → Standing t m
  doubling : (σ : Machine) → Doubling t σ m → Standing t m
  preparing : (σ : Machine) → Preparing t σ m → Standing t m
  updating : (σ : Machine) → Updating t σ m → Standing t m
  checking : (σ : Machine) → Checking t σ m → Standing t m

module _ (t : Trial) (ok : Accepted t.source) where
  -- the step is made in one way only
  module _ (m m' : Machine) (e : HardenedStep t m (at m' going)) where
    to : (m'' : Machine) → HardenedStep t m (at m'' going) → Standing t m'' → Standing t m'
    to m'' f s = subst (λ p. Standing t p.machine) (sym f ∙ e) s

    never : (m'' : Machine) (o : Outcome) → HardenedStep t m (at m'' (ended o)) → Standing t m'
    never m'' o f =
        let z : ◌≡◌ {A = ℕ} 0 1 = cc (ap (λ q. q.status) (sym f ∙ e)) in
        absurd (omega arith)

    departed : (σ : Machine) → Departs t σ m → Standing t m'
    departed σ (walks σ' m'' s h moved r) = to m'' h (at_source σ' r)
    departed σ (jumps σ' m'' s h moved r) = to m'' h (preparing σ' r)
    departed σ (tests σ' m'' s h moved r) = to m'' h (tested σ' r)
    departed σ (ends value s h c) = never (counted m) (Returned value) h
    departed σ (stops o s h one) = never m o h

    onward : {Role : Machine → Type 0} → ((n : Machine) → Role n → Standing t n) → Onward t m Role → Standing t m'
    onward stands (m'', f, r) = to m'' f (stands m'' r)

    moved : Standing t m → Standing t m'
    moved (starting s) = to (entered t ok) (ap (λ n. next (hardened t) Undisturbed (at n going)) s ∙ first_step t ok) (at_source (start t.source.entry) (first-source t ok))
    moved (at_source σ r) = departed σ (depart t ok r)
    moved (tested σ r) = onward (λ n. doubling σ) (tested_step t ok r)
    moved (doubling σ r) = onward (λ n. updating σ) (doubling_step t ok r)
    moved (preparing σ r) = onward (λ n. updating σ) (prepare-step t ok r)
    moved (updating σ r) = onward (λ n. checking σ) (update-step t ok r)
    moved (checking σ r) = onward (λ n. at_source σ) (check-step t ok r)

  pub standing : (rounds : ℕ) (m : Machine) → hardened_run t Undisturbed rounds ≡ at m going → Standing t m
  unfolding hardened_run run_of after
  standing zero m e = starting (sym (ap (λ p. p.machine) e))
  standing (suc rounds) m e = by (hardened_run t Undisturbed rounds) refl e (standing rounds)
    where
      by : (p : Progress) → hardened_run t Undisturbed rounds ≡ p → next (hardened t) Undisturbed p ≡ at m going
          → ((n : Machine) → hardened_run t Undisturbed rounds ≡ at n going → Standing t n) → Standing t m
      by p here e ih =
          let on : p ≡ at p.machine going = ap (at p.machine) (going_before (hardened t) Undisturbed p (ap (λ q. q.status) e)) in
          moved p.machine m (sym (ap (next (hardened t) Undisturbed) on) ∙ e) (ih p.machine (here ∙ on))
