-- Comparisons 4 and 5 are the order of the integers that words stand for in two's complement: a word below half the range stands
-- for itself, another for 2 ^ 32 less, and comparing words moved by half the range is comparing those integers.
-- Assumes nothing.
use Rattle.std.proofs.Common.{◌≡◌, ℕ, suc, ◌-◌, ◌^◌, ◌<◌, ◌≤◌, Bool, true, false, not, ltb, leb, ℤ, pos, negsuc, sym, refl, ap, ◌∙◌, arith, w32, to_z, ltb-false, ltb-true, le-ltb, lt-ltb, le-leb}
use borrow.Author.Tests.{lt-leb}
use lib.Signed.{lt_z, le_z}
use mir.Val.{sel}
use Rattle.bench.specs.Words.{raised, compare}

same_test : (a b c d : ℕ) → (a < b → c < d) → (b ≤ a → d ≤ c) → ltb a b ≡ ltb c d
same_test a b c d below above = by (ltb a b) refl
  where
    by : (x : Bool) → ltb a b ≡ x → ltb a b ≡ ltb c d
    by true e = e ∙ sym (lt-ltb c d (below (ltb-true a b e)))
    by false e = e ∙ sym (le-ltb c d (above (ltb-false a b e)))

-- which half a and b lie in
by_halves : (a b : ℕ) → a < 2 ^ 32 → b < 2 ^ 32 → (x y : Bool) → ltb a (2 ^ 31) ≡ x → ltb b (2 ^ 31) ≡ y
    → ltb (raised a) (raised b) ≡ lt_z (sel x (pos a) (negsuc (2 ^ 32 - suc a))) (sel y (pos b) (negsuc (2 ^ 32 - suc b)))
by_halves a b h k true true p q =
    let low : a < 2 ^ 31 = ltb-true a (2 ^ 31) p in
    let low' : b < 2 ^ 31 = ltb-true b (2 ^ 31) q in
    same_test (raised a) (raised b) a b (λ l. omega arith) (λ l. omega arith)
by_halves a b h k true false p q =
    let low : a < 2 ^ 31 = ltb-true a (2 ^ 31) p in
    let high : 2 ^ 31 ≤ b = ltb-false b (2 ^ 31) q in
    le-ltb (raised a) (raised b) (omega arith)
by_halves a b h k false true p q =
    let high : 2 ^ 31 ≤ a = ltb-false a (2 ^ 31) p in
    let low : b < 2 ^ 31 = ltb-true b (2 ^ 31) q in
    lt-ltb (raised a) (raised b) (omega arith)
by_halves a b h k false false p q =
    let high : 2 ^ 31 ≤ a = ltb-false a (2 ^ 31) p in
    let high' : 2 ^ 31 ≤ b = ltb-false b (2 ^ 31) q in
    same_test (raised a) (raised b) (2 ^ 32 - suc b) (2 ^ 32 - suc a) (λ l. omega arith) (λ l. omega arith)

not_less : (a b : ℕ) → leb b a ≡ not (ltb a b)
not_less a b = by (ltb a b) refl
  where
    by : (x : Bool) → ltb a b ≡ x → leb b a ≡ not (ltb a b)
    by true e = lt-leb b a (ltb-true a b e) ∙ ap not (sym e)
    by false e = le-leb b a (ltb-false a b e) ∙ ap not (sym e)

not_lessℤ : (x y : ℤ) → le_z y x ≡ not (lt_z x y)
not_lessℤ (pos a) (pos b) = not_less a b
not_lessℤ (pos a) (negsuc b) = refl
not_lessℤ (negsuc a) (pos b) = refl
not_lessℤ (negsuc a) (negsuc b) = not_less b a

module _ (a b : ℕ) (h : a < 2 ^ 32) (k : b < 2 ^ 32) where
  less : ltb (raised a) (raised b) ≡ lt_z (to_z w32 a) (to_z w32 b)
  less = by_halves a b h k (ltb a (2 ^ 31)) (ltb b (2 ^ 31)) refl refl

  -- less as two's complement
  pub compare_less : compare 4 a b ≡ lt_z (to_z w32 a) (to_z w32 b)
  unfolding compare
  compare_less = less

  -- greater or equal as two's complement
  pub compare_not_less : compare 5 a b ≡ le_z (to_z w32 b) (to_z w32 a)
  unfolding compare
  compare_not_less = not_less (raised a) (raised b) ∙ ap not less ∙ sym (not_lessℤ (to_z w32 a) (to_z w32 b))
