-- The passes: how long what they fill is, one step back to a leader, and how many leaders there are.
-- Assumes nothing.
use Prim.Native.Nat.{ℕ, zero, suc, ◌+◌, ◌-◌, ◌≤◌, ◌<◌}
use native.Mathlib.Omega.{arith}
use mathlib.Core.Path.{◌≡◌, refl}
use mathlib.Core.Bool.{Bool, true, false, cond}
use mathlib.Core.List.{List}
use lib.ListN.{length, get_or, length-replicate, get_or-replicate}
use Rattle.harden.specs.declared.grading.Grade.{Grade}
use Rattle.harden.specs.declared.grading.Grade.TheVariants.{NoEdge}
use Rattle.harden.specs.Passes.{zeros, ungraded, leads, head_by, leaders_below}

pub zeros-length : length zeros ≡ 256
unfolding zeros
zeros-length = length-replicate {A = ℕ} 256 0

pub zeros-at : (n : ℕ) → n < 256 → get_or zeros n 0 ≡ 0
unfolding zeros
zeros-at n h = get_or-replicate {A = ℕ} 256 n 0 0 h

pub ungraded-length : length ungraded ≡ 256
unfolding ungraded
ungraded-length = length-replicate {A = Grade} 256 NoEdge

pub ungraded-at : (n : ℕ) → n < 256 → get_or ungraded n NoEdge ≡ NoEdge
unfolding ungraded
ungraded-at n h = get_or-replicate {A = Grade} 256 n NoEdge NoEdge h

pub leaders_bound : (grades : List Grade) (n : ℕ) → leaders_below grades n ≤ n
leaders_bound grades zero = omega arith
leaders_bound grades (suc n) = at_most (leads grades n) (leaders_bound grades n)
  where
    at_most : (led : Bool) {r : ℕ} → r ≤ n → r + cond led 1 0 ≤ suc n
    at_most true h = omega arith
    at_most false h = omega arith

-- a walk back ends at a leader, and else goes on from the predecessor
pub head_step : (grades : List Grade) (preceders : List ℕ) (steps i at : ℕ) → i < steps →
    head_by grades preceders (steps - i) at ≡ cond (leads grades at) at (head_by grades preceders (steps - (i + 1)) (get_or preceders at 0))
head_step grades preceders steps i at h = let left : steps - i ≡ suc (steps - (i + 1)) = omega arith in rw left refl
