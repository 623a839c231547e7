-- The walk over a table's words: a word in order hands the check on, the first fault ends it.
-- Assumes nothing.
use mathlib.Core.Path.{◌≡◌, refl, ap, ◌∙◌}
use mathlib.Core.Bool.{cond}
use Prim.Native.Nat.{ℕ, suc, ◌+◌, ◌-◌, ◌≤◌, ◌<◌}
use mathlib.Core.List.{List}
use native.Mathlib.Omega.{arith}
use borrow.Author.Tests.{eq-eqb, ne_eqb}
use lib.Dec.{eqb}
use Rattle.words.specs.Answer.{refused}
use Rattle.graph.specs.Checks.{fault_at, words_from}

module _ (kinds registers nodes : ℕ) (table : List ℕ) where
  words_one : (left i : ℕ)
      → words_from kinds registers nodes table (suc left) i
      ≡ cond (eqb (fault_at kinds registers nodes table i) 0) (words_from kinds registers nodes table left (i + 1)) (refused (fault_at kinds registers nodes table i) i)
  unfolding words_from
  words_one left i = refl

  -- with words left, the next one decides
  pub words_step : (count i number : ℕ) → i < count → number ≡ fault_at kinds registers nodes table i
      → words_from kinds registers nodes table (count - i) i
      ≡ cond (eqb number 0) (words_from kinds registers nodes table (count - (i + 1)) (i + 1)) (refused number i)
  words_step count i number h e =
      let more : count - i ≡ suc (count - (i + 1)) = omega arith in
      rw (more, e) (words_one (count - (i + 1)) i)

  pub words_pass : (count i number : ℕ) → i < count → number ≡ fault_at kinds registers nodes table i → number ≤ 0
      → words_from kinds registers nodes table (count - i) i ≡ words_from kinds registers nodes table (count - (i + 1)) (i + 1)
  words_pass count i number h e none =
      let right : number ≡ 0 = omega arith in
      words_step count i number h e ∙ rw (eq-eqb number 0 right)

  pub words_stop : (count i number : ℕ) → i < count → number ≡ fault_at kinds registers nodes table i → 0 < number
      → words_from kinds registers nodes table (count - i) i ≡ refused number i
  words_stop count i number h e some =
      let wrong : (number ≡ 0 → ⊥) = omega arith in
      words_step count i number h e ∙ rw (ne_eqb number 0 wrong)

  pub words_end : (count i : ℕ) → i ≤ count → count ≤ i → words_from kinds registers nodes table (count - i) i ≡ words_from kinds registers nodes table 0 i
  words_end count i h k = let none : count - i ≡ 0 = omega arith in ap (λ (left : ℕ). words_from kinds registers nodes table left i) none
