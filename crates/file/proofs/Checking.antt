-- The first pass over the nodes: from one word to the next, and from one node to the next.
-- Assumes nothing.
use mathlib.Core.Path.{◌≡◌, refl, ap, ◌∙◌}
use mathlib.Core.List.{List}
use Prim.Native.Nat.{ℕ, zero, suc, ◌+◌, ◌*◌, ◌-◌, ◌%◌, ◌≤◌, ◌<◌}
use native.Mathlib.Omega.{arith}
use borrow.Author.Tests.{ne_eqb}
use Rattle.words.specs.Answer.{Answer, given, refused, and_then}
use Rattle.words.specs.declared.Reading.{Reading}
use Rattle.words.proofs.Answers.{then_same}
use Rattle.graph.specs.declared.Limits.{Limits}
use Rattle.graph.specs.declared.Role.{Role}
use Rattle.graph.specs.declared.Role.TheVariants.{Kind}
use Rattle.graph.specs.Kinds.{role_at}
use Rattle.file.specs.Reading.{Cells, before, field_at, cell_at, kind_after, cells_from}
use Rattle.file.specs.Passes.{end_of}

-- where the words end that follow a word
end_then : (answer : Answer Reading) (next : Reading → Answer Cells) →
    end_of (and_then answer λ r. before r.value (next r)) ≡ and_then answer λ r. end_of (next r)
end_then (refused number place) next = refl
end_then (given r) next = by (next r)
  where
    by : (cells : Answer Cells) → end_of (before r.value cells) ≡ end_of cells
    by (given c) = refl
    by (refused number place) = refl

then_then : {A B C : Type 0} (answer : Answer A) (f : A → Answer B) (g : B → Answer C) →
    and_then (and_then answer f) g ≡ and_then answer λ a. and_then (f a) g
then_then (given a) f g = refl
then_then (refused number place) f g = refl

module _ (bytes : List ℕ) (limits : Limits) where
  -- one word of a node, and those after it
  word_more : (word left kind at : ℕ) → word < 6 →
      end_of (cells_from bytes limits (suc left) word kind at)
      ≡ and_then (cell_at bytes limits (role_at kind word) at) λ r.
      end_of (cells_from bytes limits left (word + 1) (kind_after word r.value kind) r.next)
  unfolding cells_from
  word_more word left kind at l =
      let e : word % 6 ≡ word = omega arith in
      rw e
      (end_then (cell_at bytes limits (role_at kind word) at) λ r.
      cells_from bytes limits left (word + 1) (kind_after word r.value kind) r.next)

  -- a field
  pub field_more : (word kind at : ℕ) (role : Role) → 1 ≤ word → word < 6 → role ≡ role_at kind word →
      end_of (cells_from bytes limits (6 - word) word kind at)
      ≡ and_then (cell_at bytes limits role at) λ r. end_of (cells_from bytes limits (6 - (word + 1)) (word + 1) kind r.next)
  field_more word kind at role some l r =
      let left : 6 - word ≡ suc (6 - (word + 1)) = omega arith in
      let z : word ≡ 0 → ⊥ = λ e. omega arith in
      let m = word_more word (6 - (word + 1)) kind at l in
      rw (left, r) (rw (ne_eqb word 0 z) at m)

  pub field_none : (word kind at : ℕ) → 6 ≤ word → end_of (cells_from bytes limits (6 - word) word kind at) ≡ given at
  unfolding cells_from
  field_none word kind at l = let e : 6 - word ≡ 0 = omega arith in rw e

  -- the words of a node are those of the node before it, with another index
  shift : (left i kind at : ℕ) → cells_from bytes limits left (i + 6) kind at ≡ cells_from bytes limits left i kind at
  unfolding cells_from
  shift zero i kind at = refl
  shift (suc left) i kind at =
      let word : (i + 6) % 6 ≡ i % 6 = omega arith in
      let next : i + 6 + 1 ≡ i + 1 + 6 = omega arith in
      rw (word, next)
      (then_same (cell_at bytes limits (role_at kind (i % 6)) at) _ _ λ r e.
      ap (before r.value) (shift left (i + 1) (kind_after (i % 6) r.value kind) r.next))

  -- and where a node begins no kind counts
  fresh : (left kind at : ℕ) → cells_from bytes limits left 0 kind at ≡ cells_from bytes limits left 0 0 at
  unfolding role_at cells_from
  fresh zero kind at = refl
  fresh (suc left) kind at = refl

  -- the words left of a node, and those of the nodes after it
  node_more : (m word left kind at : ℕ) → word + m ≡ 6 →
      end_of (cells_from bytes limits (m + left) word kind at)
      ≡ and_then (end_of (cells_from bytes limits m word kind at)) λ next. end_of (cells_from bytes limits left 0 0 next)
  unfolding cells_from
  node_more zero word left kind at e =
      let w : word ≡ 0 + 6 = omega arith in
      let l : 0 + left ≡ left = omega arith in
      rw (w, l) (ap end_of (shift left 0 kind at ∙ fresh left kind at))
  node_more (suc m) word left kind at e =
      let l : suc m + left ≡ suc (m + left) = omega arith in
      let here : word < 6 = omega arith in
      rw (l, word_more word (m + left) kind at here, word_more word m kind at here, then_then)
      (then_same (cell_at bytes limits (role_at kind word) at) _ _ λ r q.
      node_more m (word + 1) left (kind_after word r.value kind) r.next (omega arith))

  -- a node's kind, its fields, and the nodes after it
  pub nodes_more : (nodes n at : ℕ) → n < nodes →
      end_of (cells_from bytes limits (6 * (nodes - n)) 0 0 at)
      ≡ and_then (field_at bytes limits Kind at) λ k.
      and_then (end_of (cells_from bytes limits 5 1 k.value k.next)) λ next.
      end_of (cells_from bytes limits (6 * (nodes - (n + 1))) 0 0 next)
  unfolding role_at cell_at
  nodes_more nodes n at l =
      let left : 6 * (nodes - n) ≡ 6 + 6 * (nodes - (n + 1)) = omega arith in
      rw (left, node_more 6 0 (6 * (nodes - (n + 1))) 0 at refl, word_more 0 5 0 at (omega arith), then_then)

  pub nodes_none : (nodes n at : ℕ) → nodes ≤ n → end_of (cells_from bytes limits (6 * (nodes - n)) 0 0 at) ≡ given at
  unfolding cells_from
  nodes_none nodes n at l = let e : 6 * (nodes - n) ≡ 0 = omega arith in rw e
