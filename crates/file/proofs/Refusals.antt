-- How the reader refuses, and what holds of the numbers that it accepts by their roles.
-- Assumes nothing.
use mathlib.Core.Path.{◌≡◌, refl, sym}
use mathlib.Core.Bool.{Bool, true, false, cond, true≢false}
use mathlib.Core.List.{List}
use Prim.Native.Nat.{ℕ, suc, ◌+◌, ◌^◌, ◌≤◌, ◌<◌}
use native.Mathlib.Omega.{arith}
use lib.Dec.{eqb, ltb, leb}
use borrow.Author.Tests.{leb-true, ltb-true, eqb-true, eqb-false}
use Rattle.words.specs.Answer.{given, refused}
use Rattle.words.specs.Number.{reading, number_at}
use Rattle.words.specs.declared.Reading.{Reading}
use Rattle.words.proofs.Answers.{Of, of_given, of_refused, of_demand, of_cond, of_then, of_map, both}
use Rattle.words.proofs.Numbers.{Numbered, Malformed, cut_off, not_shortest, number_law}
use Rattle.graph.specs.declared.Role.{Role}
use Rattle.graph.specs.declared.Role.TheVariants.{Kind, Operator, Comparison, Port, Register, Target, Free, Spare}
use Rattle.graph.specs.Kinds.{fault, in_range}
use Rattle.file.specs.Reading.{stands, count_at, field_at, cell_at, own}
use Rattle.file.proofs.Sizes.{size, reach, reach_most}

-- the refusals of the reader, each with the last place where it can be given
pub data Refusal : ℕ → ℕ → Type 0 where
  number_cut : {place : ℕ} → place ≤ 24603 → Refusal 1 place
  number_form : {place : ℕ} → place ≤ 24603 → Refusal 2 place
  count-over : {place : ℕ} → place ≤ 1 → Refusal 3 place
  no_room : {place : ℕ} → place ≤ 12300 → Refusal 4 place
  unknown : {place : ℕ} → place ≤ 24594 → Refusal 5 place
  no_register : {place : ℕ} → place ≤ 24597 → Refusal 6 place
  no_target : {place : ℕ} → place ≤ 24603 → Refusal 7 place
  bytes_after : {place : ℕ} → place ≤ 24605 → Refusal 10 place

malformed_at : (number place at : ℕ) → at ≤ 24603 → Malformed at number place → Refusal number place
malformed_at number place at h cut_off = number_cut h
malformed_at number place at h not_shortest = number_form h

-- R or N
pub record Counted (bytes : List ℕ) (limit at : ℕ) (r : Reading) : Type 0 where
  pub is : number_at bytes at ≡ given r
  pub law : Numbered bytes at r
  pub some : 1 ≤ r.value
  pub within : r.value ≤ limit

pub count_law : (bytes : List ℕ) (limit at : ℕ) → at ≤ 1 → Of (Counted bytes limit at) Refusal (count_at bytes limit at)
unfolding count_at
count_law bytes limit at h =
    of_then _ (of_map (λ r l. l) (λ n p m. malformed_at n p at (omega arith) m) (number_law bytes at)) λ r e l.
    of_demand (in_range 1 limit r.value) 3 at (given r)
    (λ t. let b = both (leb 1 r.value) (leb r.value limit) t in
    of_given (record { is = e; law = l; some = leb-true _ _ b.0; within = leb-true _ _ b.1 }))
    (λ _. count-over h)

-- a word of a node
pub record Celled (bytes : List ℕ) (registers nodes : ℕ) (role : Role) (at : ℕ) (r : Reading) : Type 0 where
  pub is : cond (stands role) (number_at bytes at) (reading 0 at) ≡ given r
  pub in_order : fault 8 registers nodes role r.value ≡ 0
  pub short : r.next ≤ at + size role

pub cond_zero : (test : Bool) (n : ℕ) → cond test 0 (suc n) ≡ 0 → test ≡ true
cond_zero true n e = refl
cond_zero false n e = absurd (omega arith)

-- a word in order is small enough for its size
fits : (registers nodes : ℕ) (role : Role) (v : ℕ) → registers ≤ 64 → nodes ≤ 2050 → v < 2 ^ 32 → fault 8 registers nodes role v ≡ 0 →
    v < 128 ^ size role
fits registers nodes Kind v r n w e = omega (arith, leb-true v 8 (both (leb 1 v) (leb v 8) (cond_zero (in_range 1 8 v) 4 e)).1)
fits registers nodes Operator v r n w e = omega (arith, ltb-true v 7 (cond_zero (ltb v 7) 4 e))
fits registers nodes Comparison v r n w e = omega (arith, ltb-true v 6 (cond_zero (ltb v 6) 4 e))
fits registers nodes Port v r n w e = omega (arith, ltb-true v 256 (cond_zero (ltb v 256) 4 e))
fits registers nodes Register v r n w e = omega (arith, ltb-true v registers (cond_zero (ltb v registers) 5 e))
fits registers nodes Target v r n w e = omega (arith, ltb-true v nodes (cond_zero (ltb v nodes) 6 e))
fits registers nodes Free v r n w e = omega arith
fits registers nodes Spare v r n w e = omega (arith, eqb-true v 0 (cond_zero (eqb v 0) 7 e))

wrong : (test : Bool) (n place : ℕ) → Refusal (suc n) place → (cond test 0 (suc n) ≡ 0 → ⊥) → Refusal (cond test 0 (suc n)) place
wrong true n place h f = absurd (f refl)
wrong false n place h f = h

-- a fault of a word that stands in a file is 5, 6 or 7
faulty : (registers nodes : ℕ) (role : Role) (v place : ℕ) → place ≤ 24593 + reach role → stands role ≡ true → (fault 8 registers nodes role v ≡ 0 → ⊥) →
    Refusal (fault 8 registers nodes role v) place
faulty registers nodes Kind v place h s f = wrong (in_range 1 8 v) 4 place (unknown (omega arith)) f
faulty registers nodes Operator v place h s f = wrong (ltb v 7) 4 place (unknown (omega arith)) f
faulty registers nodes Comparison v place h s f = wrong (ltb v 6) 4 place (unknown (omega arith)) f
faulty registers nodes Port v place h s f = wrong (ltb v 256) 4 place (unknown (omega arith)) f
faulty registers nodes Register v place h s f = wrong (ltb v registers) 5 place (no_register (omega arith)) f
faulty registers nodes Target v place h s f = wrong (ltb v nodes) 6 place (no_target (omega arith)) f
faulty registers nodes Free v place h s f = absurd (f refl)
faulty registers nodes Spare v place h s f = absurd (true≢false (sym s))

-- a number is no longer than the size of its role
no_longer : (bytes : List ℕ) (role : Role) (at : ℕ) (r : Reading) → stands role ≡ true → Numbered bytes at r → r.value < 128 ^ size role →
    r.next ≤ at + size role
no_longer bytes Kind at r s l h = l.tight 0 h
no_longer bytes Operator at r s l h = l.tight 0 h
no_longer bytes Comparison at r s l h = l.tight 0 h
no_longer bytes Port at r s l h = l.tight 1 h
no_longer bytes Register at r s l h = l.tight 0 h
no_longer bytes Target at r s l h = l.tight 1 h
no_longer bytes Free at r s l h = l.tight 4 h
no_longer bytes Spare at r s l h = absurd (true≢false (sym s))

module _ (bytes : List ℕ) (registers nodes : ℕ) (few : registers ≤ 64) (fewer : nodes ≤ 2050) where
  pub field_law : (role : Role) (at : ℕ) → stands role ≡ true → at ≤ 24593 + reach role →
      Of (Celled bytes registers nodes role at) Refusal (field_at bytes (own registers nodes) role at)
  unfolding field_at
  field_law role at s h =
      of_then _ (of_map (λ r l. l) (λ n p m. malformed_at n p at (omega (arith, reach_most role)) m) (number_law bytes at)) λ r e l.
      of_cond (eqb (fault 8 registers nodes role r.value) 0) (given r) (refused (fault 8 registers nodes role r.value) at)
      (λ t. of_given (in_order r e l (eqb-true _ _ t)))
      (λ t. of_refused (faulty registers nodes role r.value at h s (eqb-false _ _ t)))
    where
      in_order : (r : Reading) → number_at bytes at ≡ given r → Numbered bytes at r → fault 8 registers nodes role r.value ≡ 0 →
          Celled bytes registers nodes role at r
      in_order r e l z =
          record { is = rw s e; in_order = z; short = no_longer bytes role at r s l (fits registers nodes role r.value few fewer l.small z) }

  pub cell_law : (role : Role) (at : ℕ) → at ≤ 24593 + reach role →
      Of (Celled bytes registers nodes role at) Refusal (cell_at bytes (own registers nodes) role at)
  unfolding cell_at
  cell_law Kind at h = field_law Kind at refl h
  cell_law Operator at h = field_law Operator at refl h
  cell_law Comparison at h = field_law Comparison at refl h
  cell_law Port at h = field_law Port at refl h
  cell_law Register at h = field_law Register at refl h
  cell_law Target at h = field_law Target at refl h
  cell_law Free at h = field_law Free at refl h
  cell_law Spare at h = of_given (record { is = refl; in_order = refl; short = omega arith })
