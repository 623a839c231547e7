-- The search for the lowest node without a mark: what it answers, and that only the marks of the nodes it looks at decide.
-- Assumes nothing.
use mathlib.Core.Path.{◌≡◌, refl, ap, ◌∙◌}
use mathlib.Core.Bool.{Bool, true, false, cond}
use mathlib.Core.Logic.{⊎_elim}
use Prim.Native.Nat.{ℕ, zero, suc, ◌+◌, ◌-◌, ◌≤◌, ◌<◌}
use native.Mathlib.Nat.{eq-or-lt_of_le}
use native.Mathlib.Omega.{arith}
use Rattle.words.specs.Answer.{given, refused}
use Rattle.graph.specs.Paths.{Marks, marked}
use Rattle.graph.specs.Checks.{unmarked_from}

-- with nodes left, the mark of the next one decides
module _ (marks : Marks) (nodes n : ℕ) (inside : n < nodes) where
  unmarked_step : unmarked_from marks (nodes - n) n ≡ cond (marked marks n) (unmarked_from marks (nodes - (n + 1)) (n + 1)) (refused 9 n)
  unfolding unmarked_from
  unmarked_step =
      let more : nodes - n ≡ suc (nodes - (n + 1)) = omega arith in
      ap (λ (left : ℕ). unmarked_from marks left n) more

  pub unmarked_pass : marked marks n ≡ true → unmarked_from marks (nodes - n) n ≡ unmarked_from marks (nodes - (n + 1)) (n + 1)
  unmarked_pass mark = unmarked_step ∙ rw mark

  pub unmarked_stop : marked marks n ≡ false → unmarked_from marks (nodes - n) n ≡ refused 9 n
  unmarked_stop bare = unmarked_step ∙ rw bare

pub unmarked_end : (marks : Marks) (nodes n : ℕ) → nodes ≤ n → unmarked_from marks (nodes - n) n ≡ given tt
unfolding unmarked_from
unmarked_end marks nodes n past =
    let none : nodes - n ≡ 0 = omega arith in ap (λ (left : ℕ). unmarked_from marks left n) none

-- the lowest node without a mark among those from n upward
pub record Lowest (marks : Marks) (left n number place : ℕ) : Type 0 where
  pub nine : number ≡ 9
  pub from : n ≤ place
  pub below : place < n + left
  pub bare : marked marks place ≡ false
  pub before : (m : ℕ) → n ≤ m → m < place → marked marks m ≡ true

pub unmarked_lowest : (marks : Marks) (left n number place : ℕ) → unmarked_from marks left n ≡ refused number place → Lowest marks left n number place
unfolding unmarked_from
unmarked_lowest marks zero n number place e = absurd (let z : ◌≡◌ {A = ℕ} 0 1 = cc in omega arith)
unmarked_lowest marks (suc left) n number place e =
    by (marked marks n) refl e (unmarked_lowest marks left (n + 1) number place)
  where
    by : (mark : Bool) → marked marks n ≡ mark → cond mark (unmarked_from marks left (n + 1)) (refused 9 n) ≡ refused number place
        → (unmarked_from marks left (n + 1) ≡ refused number place → Lowest marks left (n + 1) number place) → Lowest marks (suc left) n number place
    by true is f rest =
        let r = rest f in
        record {
          nine = r.nine;
          from = omega arith;
          below = omega arith;
          bare = r.bare;
          before = λ m low high.
              ⊎_elim (λ (same : n ≡ m). rw (← same) is) (λ (later : n < m). r.before m (omega arith) high) (eq-or-lt_of_le low);
        }
    by false is f rest =
        let same : n ≡ place = cc in
        record {
          nine = cc;
          from = omega arith;
          below = omega arith;
          bare = rw (← same) is;
          before = λ m low high. absurd (omega arith);
        }

pub lowest_unmarked : (marks : Marks) (left n place : ℕ) → n ≤ place → place < n + left → marked marks place ≡ false
    → ((m : ℕ) → n ≤ m → m < place → marked marks m ≡ true) → unmarked_from marks left n ≡ refused 9 place
unfolding unmarked_from
lowest_unmarked marks zero n place from below bare before = absurd (omega arith)
lowest_unmarked marks (suc left) n place from below bare before =
    ⊎_elim
    (λ (same : n ≡ place). rw same (rw bare))
    (λ (later : n < place).
    rw (before n (omega arith) later)
    (lowest_unmarked marks left (n + 1) place (omega arith) (omega arith) bare (λ m low high. before m (omega arith) high)))
    (eq-or-lt_of_le from)

pub unmarked_none : (marks : Marks) (left n : ℕ) → unmarked_from marks left n ≡ given tt → (m : ℕ) → n ≤ m → m < n + left → marked marks m ≡ true
unfolding unmarked_from
unmarked_none marks zero n e m low high = absurd (omega arith)
unmarked_none marks (suc left) n e m low high = by (marked marks n) refl e (unmarked_none marks left (n + 1))
  where
    by : (mark : Bool) → marked marks n ≡ mark → cond mark (unmarked_from marks left (n + 1)) (refused 9 n) ≡ given tt
        → (unmarked_from marks left (n + 1) ≡ given tt → (k : ℕ) → n + 1 ≤ k → k < n + 1 + left → marked marks k ≡ true) → marked marks m ≡ true
    by true is f rest =
        ⊎_elim (λ (same : n ≡ m). rw (← same) is) (λ (later : n < m). rest f m (omega arith) (omega arith)) (eq-or-lt_of_le low)
    by false is f rest = cc

-- only the marks of the nodes looked at decide
pub unmarked_same : (old new : Marks) (left n : ℕ) → ((m : ℕ) → n ≤ m → m < n + left → marked old m ≡ marked new m)
    → unmarked_from old left n ≡ unmarked_from new left n
unfolding unmarked_from
unmarked_same old new zero n same = refl
unmarked_same old new (suc left) n same =
    rw (same n (omega arith) (omega arith), unmarked_same old new left (n + 1) (λ m low high. same m (omega arith) (omega arith)))
