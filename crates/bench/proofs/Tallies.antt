-- The five counts sum to the positions, and there is a position for each branch that the undisturbed run executed.
-- Assumes nothing.
use Rattle.std.proofs.Common.{◌≡◌, ℕ, zero, suc, ◌+◌, ◌^◌, ◌<◌, List, refl, add-one, arith}
use Rattle.bench.specs.Steps.{Setting}
use Rattle.bench.specs.Campaigns.{Class, caught, late, harmless, changed, unended, tallied, no_score, class_at, score_below}
use Rattle.bench.specs.Classes.{Few}
use Rattle.bench.specs.declared.Score.{Score}

-- a score of so many positions, each of one class
pub record Whole (k : ℕ) (score : Score) : Type 0 where
  pub positions : score.positions ≡ k
  pub sum : score.caught + score.late + score.harmless + score.changed + score.unended ≡ score.positions

whole_more : (class : Class) (k : ℕ) (score : Score) → Whole k score → Whole (suc k) (tallied class score)
whole_more caught k score w = record { positions = omega arith; sum = omega arith }
whole_more late k score w = record { positions = omega arith; sum = omega arith }
whole_more harmless k score w = record { positions = omega arith; sum = omega arith }
whole_more changed k score w = record { positions = omega arith; sum = omega arith }
whole_more unended k score w = record { positions = omega arith; sum = omega arith }

-- a score of zeros is the score of no position
pub zeros_none : (s : Score)
    → (s.positions ≡ 0) × ((s.caught ≡ 0) × ((s.late ≡ 0) × ((s.harmless ≡ 0) × ((s.changed ≡ 0) × (s.unended ≡ 0))))) → s ≡ no_score
zeros_none s (a, (b, (c, (d, (e, f))))) = rw (a, b, c, d, e, f)

module _ (s : Setting) (entry budget value : ℕ) (reference : List ℕ) where
  pub score_whole : (k : ℕ) → Whole k (score_below s entry budget value reference k)
  unfolding score_below
  score_whole zero = record { positions = refl; sum = refl }
  score_whole (suc k) = whole_more (class_at s entry budget value reference k) k _ (score_whole k)

  pub score_none : no_score ≡ score_below s entry budget value reference 0
  unfolding score_below
  score_none = refl

  pub score_more : (k : ℕ)
      → score_below s entry budget value reference (k + 1) ≡ tallied (class_at s entry budget value reference k) (score_below s entry budget value reference k)
  unfolding score_below
  score_more k = rw add-one

  pub score_few : (k : ℕ) → k + 1 < 2 ^ 64 → Few (score_below s entry budget value reference k)
  score_few k h =
      let w = score_whole k in
      record {
        positions = omega arith;
        caught = omega arith;
        late = omega arith;
        harmless = omega arith;
        changed = omega arith;
        unended = omega arith;
      }
