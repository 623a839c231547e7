-- What demand 3 means for the score of a hardened graph whose undisturbed run returns with five steps to spare: each position is
-- caught or harmless, and harmless just at a doubled test whose two targets are one node.
-- Assumes nothing.
use mathlib.Core.Path.{◌≡◌, refl, ap, ◌∙◌}
use mathlib.Core.Logic.{◌⊎◌, inl, inr}
use mathlib.Core.Bool.{true}
use mathlib.Core.List.{List, [], ◌∷◌, ◌++◌, append-nil}
use Prim.Native.Nat.{ℕ, zero, suc, ◌+◌, ◌-◌, ◌≤◌, ◌<◌}
use native.Mathlib.Omega.{arith}
use lib.ListN.{length}
use borrow.Author.Tests.{eq-eqb}
use Rattle.bench.specs.Steps.{going, Progress, at, start}
use Rattle.bench.specs.Runs.{settled, after, run_of}
use Rattle.bench.specs.Campaigns.{prefix_of, same, Class, caught, harmless, class_of, tallied, class_at, score_below}
use Rattle.bench.specs.declared.Fault.TheVariants.{Undisturbed, Inverted}
use Rattle.bench.specs.declared.Score.{Score}
use Rattle.swift.specs.Demand.{soon}
use Rattle.swift.specs.Trials.{Trial, hardened, hardened_run, AtBranch, CaughtBy, Unchanged, Decided, Returns, TestAt, Covered}
use Rattle.bench.proofs.Rounds.{after-add}
use Rattle.bench.proofs.Growth.{grown_after}
use Rattle.swift.proofs.Roles.{Accepted}
use Rattle.swift.proofs.Inverting.{answered}
use Rattle.swift.proofs.Budgets.{executes, executed_before, caught_stays}

-- ---- events

prefix_on : (events more : List ℕ) → prefix_of events (events ++ more) ≡ true
prefix_on [] more = refl
prefix_on (x ∷ events) more = rw (eq-eqb x x refl) (prefix_on events more)

same_self : (events : List ℕ) → same events events ≡ true
same_self events =
    let whole : prefix_of events events ≡ true = rw append-nil at (prefix_on events []) in
    rw (whole, eq-eqb (length events) (length events) refl)

-- the events of a round are a prefix of those of a later one
earlier_events : (t : Trial) (rounds budget : ℕ) → rounds ≤ budget
    → prefix_of (hardened_run t Undisturbed rounds).machine.events (hardened_run t Undisturbed budget).machine.events ≡ true
unfolding hardened_run run_of
earlier_events t rounds budget h =
    let begin = at (start t.source.nodes) going in
    let p = after (hardened t) Undisturbed begin rounds in
    let rest : budget ≡ rounds + (budget - rounds) = omega arith in
    let g = grown_after (hardened t) Undisturbed p (budget - rounds) in
    let end : after (hardened t) Undisturbed begin budget ≡ after (hardened t) Undisturbed p (budget - rounds) =
    ap (after (hardened t) Undisturbed begin) rest ∙ after-add (hardened t) Undisturbed begin rounds (budget - rounds) in
    rw (end, g.events) (prefix_on p.machine.events g.more)

-- ---- classes

module _ (t : Trial) (ok : Accepted t.source) (budget value : ℕ) (returns : Returns t budget value) where
  abbrev reference : List ℕ
  reference = (hardened_run t Undisturbed budget).machine.events

  abbrev class : ℕ → Class
  class place = class_at (hardened t) t.source.nodes budget value reference place

  class_of_lem : (place : ℕ) (p : Progress) → hardened_run t (Inverted place) budget ≡ p
      → class place ≡ class_of value reference (settled p.status) p.machine.events
  unfolding class_at hardened_run
  class_of_lem place p e = ap (λ q. class_of value reference (settled q.status) q.machine.events) e

  harmless_where : (place rounds : ℕ) → rounds < budget → AtBranch t place rounds → Unchanged t place rounds → class place ≡ harmless
  harmless_where place rounds h x unchanged =
      let before = executed_before t ok place rounds budget x h in
      let spare = returns.to_spare in
      class_of_lem place (hardened_run t Undisturbed budget) (unchanged budget (omega arith))
      ∙ rw (returns.returned, eq-eqb value value refl, same_self reference)

  caught_where : (place rounds : ℕ) → rounds < budget → AtBranch t place rounds → CaughtBy t place rounds (rounds + 1 + soon) → class place ≡ caught
  caught_where place rounds h x soon_caught =
      let before = executed_before t ok place rounds budget x h in
      let spare = returns.to_spare in
      let c = caught_stays t ok soon_caught (omega arith) budget (omega arith) in
      class_of_lem place (hardened_run t (Inverted place) budget) refl
      ∙ rw (c.is_caught, c.quiet.no_event budget (omega arith) (omega arith), earlier_events t rounds budget (omega arith))

  pub test_harmless : (place : ℕ) → TestAt t place budget → class place ≡ harmless
  test_harmless place x = by (answered t ok place x.rounds x.executed)
    where
      by : Decided t place x.rounds → class place ≡ harmless
      by (inl (one, unchanged)) = harmless_where place x.rounds x.within x.executed unchanged
      by (inr (two, soon_caught)) = absurd (two x.one_target)

  -- a position's class, by the branch at its place
  pub classes : (place : ℕ) → place < (hardened_run t Undisturbed budget).machine.branches
      → ((class place ≡ harmless) × TestAt t place budget) ⊎ ((class place ≡ caught) × (TestAt t place budget → ⊥))
  classes place h = let (rounds, r<, x) = executes t place budget h in by rounds r< x (answered t ok place rounds x)
    where
      by : (rounds : ℕ) → rounds < budget → AtBranch t place rounds → Decided t place rounds
          → ((class place ≡ harmless) × TestAt t place budget) ⊎ ((class place ≡ caught) × (TestAt t place budget → ⊥))
      by rounds r< x (inl (one, unchanged)) = inl (harmless_where place rounds r< x unchanged, record { rounds = rounds; within = r<; executed = x; one_target = one })
      by rounds r< x (inr (two, soon_caught)) =
          let c : class place ≡ caught = caught_where place rounds r< x soon_caught in
          inr (c, λ test. let z : ◌≡◌ {A = ℕ} 0 1 = cc (test_harmless place test) in omega arith)

  -- ---- counts

  covered_below : (k : ℕ) → k ≤ (hardened_run t Undisturbed budget).machine.branches
      → Covered k (score_below (hardened t) t.source.nodes budget value reference k)
  unfolding score_below
  covered_below zero h = record { all_tried = refl; caught_or_harmless = refl; none_late = refl; none_changed = refl; none_unended = refl }
  covered_below (suc k) h = by (class k) (score_below (hardened t) t.source.nodes budget value reference k) (which (classes k h)) (covered_below k (omega arith))
    where
      which : ((class k ≡ harmless) × TestAt t k budget) ⊎ ((class k ≡ caught) × (TestAt t k budget → ⊥)) → (class k ≡ harmless) ⊎ (class k ≡ caught)
      which (inl (e, x)) = inl e
      which (inr (e, x)) = inr e

      by : (c : Class) (score : Score) → (c ≡ harmless) ⊎ (c ≡ caught) → Covered k score → Covered (suc k) (tallied c score)
      by c score (inl e) f = rw e (omega arith)
      by c score (inr e) f = rw e (omega arith)

  -- no late, no changed, no unended: the caught and the harmless are all
  pub covered : let branches = (hardened_run t Undisturbed budget).machine.branches in Covered branches (score_below (hardened t) t.source.nodes budget value reference branches)
  covered = covered_below (hardened_run t Undisturbed budget).machine.branches (omega arith)
