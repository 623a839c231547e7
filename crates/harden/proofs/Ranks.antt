-- Ranks number the leaders 0, 1, 2 .. upward; by a plan that keeps ranks apart, no two leaders have one signature.
-- Assumes nothing.
use Prim.Native.Nat.{ℕ, zero, suc, ◌+◌, ◌≤◌, ◌<◌}
use native.Mathlib.Nat.{eq-or-lt_of_le, le_of_suc-le-suc, not-suc-le-zero}
use native.Mathlib.Decide.{dec_lt}
use native.Mathlib.Omega.{arith}
use mathlib.Core.Path.{◌≡◌, refl, sym, ap, ◌∙◌}
use mathlib.Core.Logic.{◌⊎◌, inl, inr}
use mathlib.Core.Bool.{Bool, true, false, cond}
use Rattle.graph.specs.Nodes.{Node}
use Rattle.harden.specs.Blocks.{Plan, leader, rank, one_plus_rank, signature}
use Rattle.harden.specs.Edges.{Distinct}
use Rattle.harden.proofs.Leaders.{leader_heads}

module _ (graph : ℕ → Node) (nodes entry : ℕ) where
  -- the rank grows by one past a leader, and past nothing else
  pub rank-leader : (n : ℕ) → leader graph nodes entry n ≡ true → rank graph nodes entry (suc n) ≡ rank graph nodes entry n + 1
  unfolding rank
  rank-leader n h = rw h

  pub rank_other : (n : ℕ) → leader graph nodes entry n ≡ false → rank graph nodes entry (suc n) ≡ rank graph nodes entry n
  unfolding rank
  rank_other n h = rw h (omega arith)

  pub rank_up : (a b : ℕ) → a ≤ b → rank graph nodes entry a ≤ rank graph nodes entry b
  unfolding rank
  rank_up a zero h = let e : a ≡ 0 = omega arith in rw e (omega arith)
  rank_up a (suc b) h = by (eq-or-lt_of_le h) (rank_up a b)
    where
      by : (a ≡ suc b) ⊎ (a < suc b) → (a ≤ b → rank graph nodes entry a ≤ rank graph nodes entry b)
          → rank graph nodes entry a ≤ rank graph nodes entry b + cond (leader graph nodes entry b) 1 0
      by (inl e) rest = rw e (omega arith)
      by (inr l) rest = omega (arith, rest (le_of_suc-le-suc l))

  -- the higher leader has the higher rank
  pub rank_past : (a b : ℕ) → leader graph nodes entry a ≡ true → a < b → rank graph nodes entry a < rank graph nodes entry b
  rank_past a b h l = omega (arith, rank-leader a h, rank_up (suc a) b l)

  pub rank_apart : (a b : ℕ) → leader graph nodes entry a ≡ true → leader graph nodes entry b ≡ true
      → rank graph nodes entry a ≡ rank graph nodes entry b → a ≡ b
  rank_apart a b p q e = omega (arith, by (dec_lt a b) (dec_lt b a))
    where
      by : Dec (a < b) → Dec (b < a) → (b ≤ a) × (a ≤ b)
      by (yes l) d = absurd (omega (arith, rank_past a b p l))
      by (no d) (yes l) = absurd (omega (arith, rank_past b a q l))
      by (no d) (no d') = (omega arith, omega arith)

  pub rank_bound : (n : ℕ) → rank graph nodes entry n ≤ n
  unfolding rank
  rank_bound zero = omega arith
  rank_bound (suc n) = by (leader graph nodes entry n) (rank_bound n)
    where
      by : (led : Bool) → rank graph nodes entry n ≤ n → rank graph nodes entry n + cond led 1 0 ≤ suc n
      by true h = omega arith
      by false h = omega arith

  -- no rank is left out: each below the number of leaders is some leader's
  pub rank_onto : (k r : ℕ) → r < rank graph nodes entry k → (n : ℕ) × (n < k) × (leader graph nodes entry n ≡ true) × (rank graph nodes entry n ≡ r)
  unfolding rank
  rank_onto zero r h = absurd (not-suc-le-zero h)
  rank_onto (suc k) r h = by (leader graph nodes entry k) refl (dec_lt r (rank graph nodes entry k)) (rank_onto k r)
    where
      by : (led : Bool) → leader graph nodes entry k ≡ led → Dec (r < rank graph nodes entry k)
          → (r < rank graph nodes entry k → (n : ℕ) × (n < k) × (leader graph nodes entry n ≡ true) × (rank graph nodes entry n ≡ r))
          → (n : ℕ) × (n < suc k) × (leader graph nodes entry n ≡ true) × (rank graph nodes entry n ≡ r)
      by led e (yes l) rest = let (n, n<, p, q) = rest l in (n, omega arith, p, q)
      by true e (no d) rest = let top : r < rank graph nodes entry k + 1 = rw e at h in (k, omega arith, e, omega arith)
      by false e (no d) rest = let top : r < rank graph nodes entry k + 0 = rw e at h in absurd (omega arith)

  -- ---- signatures

  -- a leader's signature is the plan's word for its rank
  pub leader-signature : (plan : Plan) (n : ℕ) → leader graph nodes entry n ≡ true → signature plan graph nodes entry n ≡ plan (rank graph nodes entry n)
  unfolding signature
  leader-signature plan n h = ap (λ (head : ℕ). plan (rank graph nodes entry head)) (leader_heads graph nodes entry n h)

  -- leaders with one signature are one
  pub signature_apart : (plan : Plan) → Distinct plan → nodes ≤ 256 → (a b : ℕ) → a < nodes → b < nodes
      → leader graph nodes entry a ≡ true → leader graph nodes entry b ≡ true
      → signature plan graph nodes entry a ≡ signature plan graph nodes entry b → a ≡ b
  signature_apart plan distinct few a b a< b< p q e =
      rank_apart a b p q
      (distinct (rank graph nodes entry a) (rank graph nodes entry b) (omega (arith, rank_bound a)) (omega (arith, rank_bound b))
      (sym (leader-signature plan a p) ∙ e ∙ leader-signature plan b q))

-- 1 plus the rank is such a plan
pub one_plus_distinct : Distinct one_plus_rank
one_plus_distinct q r q< r< e = omega arith
