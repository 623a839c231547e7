-- Laws of rounds: they add up, from the front as from the back, and a run that has ended stays as it is.
-- Assumes nothing.
use Rattle.std.proofs.Common.{◌≡◌, ℕ, zero, suc, ◌+◌, ◌-◌, ◌≤◌, refl, ap, ◌∙◌, add-zero, add-suc, add-one, arith}
use Rattle.bench.specs.Steps.{Machine, Setting, going, ended, Progress, at, step}
use Rattle.bench.specs.Runs.{next, after}
use Rattle.bench.specs.declared.Fault.{Fault}
use Rattle.bench.specs.declared.Outcome.{Outcome}

module _ (s : Setting) (fault : Fault) where
  pub after_none : (p : Progress) → after s fault p 0 ≡ p
  unfolding after
  after_none p = refl

  pub after_more : (p : Progress) (k : ℕ) → after s fault p (k + 1) ≡ next s fault (after s fault p k)
  unfolding after
  after_more p k = rw add-one

  pub after-add : (p : Progress) (m n : ℕ) → after s fault p (m + n) ≡ after s fault (after s fault p m) n
  unfolding after
  after-add p m zero = rw add-zero
  after-add p m (suc n) = rw add-suc (ap (next s fault) (after-add p m n))

  -- the first round first
  pub after_front : (p : Progress) (k : ℕ) → after s fault p (suc k) ≡ after s fault (next s fault p) k
  unfolding after
  after_front p zero = refl
  after_front p (suc k) = ap (next s fault) (after_front p k)

  -- a round of a run that is going is a step
  pub next_going : (m : Machine) → next s fault (at m going) ≡ step s fault m
  unfolding next
  next_going m = refl

  pub ended-after : (m : Machine) (outcome : Outcome) (k : ℕ) → after s fault (at m (ended outcome)) k ≡ at m (ended outcome)
  unfolding after next
  ended-after m outcome zero = refl
  ended-after m outcome (suc k) = ap (next s fault) (ended-after m outcome k)

  -- what has ended after some rounds has so ended after more
  pub ended_stays : (p : Progress) (m : Machine) (outcome : Outcome) (k n : ℕ) → k ≤ n → after s fault p k ≡ at m (ended outcome)
      → after s fault p n ≡ at m (ended outcome)
  ended_stays p m outcome k n h e =
      let split : n ≡ k + (n - k) = omega arith in
      ap (after s fault p) split ∙ after-add p k (n - k) ∙ ap (λ (q : Progress). after s fault q (n - k)) e ∙ ended-after m outcome (n - k)
