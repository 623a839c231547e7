-- Prefixes and equality of event lists, told by what follows the words up to which both agree.
-- Assumes nothing.
use Rattle.std.proofs.Common.{◌≡◌, ℕ, zero, suc, ◌-◌, ◌≤◌, Bool, true, false, ◌&&◌, eqb, List, [], ◌∷◌, length, take, drop, sym, refl, ap, ◌∙◌, arith, eq-eqb}
use Rattle.std.proofs.Math.Dec.{eqb-zero-suc, eqb-suc-suc}
use Rattle.std.proofs.lemmas.List.{take_rest}
use Rattle.std.specs.List.{starts_with}
use Rattle.std.specs.Cmp.Lexicographic.{pointwise}
use Rattle.bench.specs.Campaigns.{prefix_of, same}

-- from where both agree
pub prefix_from : (n : ℕ) (xs ys : List ℕ) → n ≤ length xs → n ≤ length ys → take n xs ≡ take n ys
    → prefix_of xs ys ≡ prefix_of (drop n xs) (drop n ys)
prefix_from zero xs ys h i e = refl
prefix_from (suc n) [] ys h i e = absurd (omega arith)
prefix_from (suc n) (x ∷ xs) [] h i e = absurd (omega arith)
prefix_from (suc n) (x ∷ xs) (y ∷ ys) h i e =
    let first : x ≡ y = cc in
    let rest : take n xs ≡ take n ys = cc in
    rw (eq-eqb x y first) (prefix_from n xs ys (omega arith) (omega arith) rest)

same_from : (n : ℕ) (xs ys : List ℕ) → n ≤ length xs → n ≤ length ys → take n xs ≡ take n ys
    → same xs ys ≡ same (drop n xs) (drop n ys)
same_from zero xs ys h i e = refl
same_from (suc n) [] ys h i e = absurd (omega arith)
same_from (suc n) (x ∷ xs) [] h i e = absurd (omega arith)
same_from (suc n) (x ∷ xs) (y ∷ ys) h i e =
    let first : x ≡ y = cc in
    let rest : take n xs ≡ take n ys = cc in
    rw (eq-eqb x y first, eqb-suc-suc) (same_from n xs ys (omega arith) (omega arith) rest)

-- the library's words
starts : (xs ys : List ℕ) → starts_with eqb ys xs ≡ prefix_of xs ys
starts [] ys = refl
starts (x ∷ xs) [] = refl
starts (x ∷ xs) (y ∷ ys) = ap (λ (b : Bool). eqb x y && b) (starts xs ys)

equal : (xs ys : List ℕ) → pointwise eqb xs ys ≡ same xs ys
equal [] [] = refl
equal [] (y ∷ ys) = sym (eqb-zero-suc (length ys))
equal (x ∷ xs) [] = refl
equal (x ∷ xs) (y ∷ ys) = rw (eqb-suc-suc) (by (eqb x y) _ _ _ (equal xs ys))
  where
    by : (b p q r : Bool) → p ≡ (q && r) → (b && p) ≡ ((b && q) && r)
    by true p q r e = e
    by false p q r e = refl

-- what is compared from the place on, as the code cuts it out
module _ (n : ℕ) (events reference : List ℕ) (h : n ≤ length events) (k : n ≤ length reference)
    (shared : take n events ≡ take n reference) where
  abbrev rest : List ℕ → List ℕ
  rest xs = take (length xs - n) (drop n xs)

  pub starts_rest : starts_with eqb (rest reference) (rest events) ≡ prefix_of events reference
  starts_rest =
      rw (take_rest events n, take_rest reference n)
      (starts (drop n events) (drop n reference) ∙ sym (prefix_from n events reference h k shared))

  pub equal_rest : pointwise eqb (rest events) (rest reference) ≡ same events reference
  equal_rest =
      rw (take_rest events n, take_rest reference n)
      (equal (drop n events) (drop n reference) ∙ sym (same_from n events reference h k shared))
