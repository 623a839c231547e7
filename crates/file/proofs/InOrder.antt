-- The nodes of an accepted file, word by word: where they end, how many words they are, and what the second pass takes of them.
-- Assumes nothing.
use mathlib.Core.Path.{◌≡◌, refl, ap, ◌∙◌}
use mathlib.Core.Bool.{Bool, true, false, cond}
use mathlib.Core.List.{List, [], ◌∷◌}
use Prim.Native.Nat.{ℕ, zero, suc, ◌+◌, ◌*◌, ◌%◌, ◌≤◌}
use native.Mathlib.Omega.{arith}
use lib.ListN.{length}
use Rattle.words.specs.Answer.{Answer, given}
use Rattle.words.specs.Number.{reading, number_at}
use Rattle.words.specs.declared.Reading.{Reading}
use Rattle.words.proofs.Answers.{Of, of_given, of_refused, of_then}
use Rattle.graph.specs.declared.Role.{Role}
use Rattle.graph.specs.Kinds.{role_at}
use Rattle.file.specs.Reading.{Cells, before, stands, kind_after, cells_from, own}
use Rattle.file.specs.Passes.{taken_of, taken_at, taken_cell, taken_from}
use Rattle.file.proofs.Sizes.{used, used_one, used_role, reach, Here, here_next}
use Rattle.file.proofs.Refusals.{Refusal, Celled, cell_law}

-- so many words in order from index i on, in a node of this kind, that stand from a position to the next
pub data InOrder (bytes : List ℕ) (registers nodes : ℕ) : ℕ → ℕ → ℕ → ℕ → List ℕ → ℕ → Type 0 where
  none : {i kind at : ℕ} → InOrder bytes registers nodes 0 i kind at [] at
  more : {left i kind at next : ℕ} {words : List ℕ} {r : Reading} → Celled bytes registers nodes (role_at kind (i % 6)) at r →
      InOrder bytes registers nodes left (i + 1) (kind_after (i % 6) r.value kind) r.next words next →
      InOrder bytes registers nodes (suc left) i kind at (r.value ∷ words) next

module _ (bytes : List ℕ) (registers nodes : ℕ) where
  of_before : {left i kind at : ℕ} {r : Reading} {answer : Answer Cells} → Celled bytes registers nodes (role_at kind (i % 6)) at r →
      Of (λ c. InOrder bytes registers nodes left (i + 1) (kind_after (i % 6) r.value kind) r.next c.words c.next) Refusal answer →
      Of (λ c. InOrder bytes registers nodes (suc left) i kind at c.words c.next) Refusal (before r.value answer)
  of_before cell (of_given rest) = of_given (more cell rest)
  of_before cell (of_refused h) = of_refused h

  -- the words of the nodes are in order, or are refused at a place where a word can stand
  pub cells_law : registers ≤ 64 → nodes ≤ 2050 → (first : ℕ) → first ≤ 5 → (left i kind at : ℕ) → i + left ≡ 6 * nodes → Here first i kind at →
      Of (λ c. InOrder bytes registers nodes left i kind at c.words c.next) Refusal (cells_from bytes (own registers nodes) left i kind at)
  unfolding cells_from
  cells_law few fewer first early zero i kind at count h = of_given none
  cells_law few fewer first early (suc left) i kind at count h =
      let short : used kind (i % 6) ≤ reach (role_at kind (i % 6)) = used_role kind (i % 6) (omega arith) in
      of_then _ (cell_law bytes registers nodes few fewer (role_at kind (i % 6)) at (omega arith)) λ r e cell.
      let next = here_next first i kind at r.value r.next h cell.short in
      of_before cell (cells_law few fewer first early left (i + 1) (kind_after (i % 6) r.value kind) r.next (omega arith) next)

  -- no node is longer than 12 bytes
  pub in_order_end : (first : ℕ) {left i kind at next : ℕ} {words : List ℕ} → i + left ≡ 6 * nodes → Here first i kind at →
      InOrder bytes registers nodes left i kind at words next → next ≤ first + 12 * nodes
  in_order_end first {i = i} {kind = kind} count h none =
      let z : i % 6 ≡ 0 = omega arith in
      omega (arith, rw z at h, used_one kind)
  in_order_end first {i = i} {kind = kind} {at = at} count h (more {r = r} cell rest) =
      in_order_end first (omega arith) (here_next first i kind at r.value r.next h cell.short) rest

  pub in_order_length : {left i kind at next : ℕ} {words : List ℕ} → InOrder bytes registers nodes left i kind at words next → length words ≡ left
  in_order_length none = refl
  in_order_length (more cell rest) = ap suc (in_order_length rest)

  taken_cell_lem : (role : Role) (at : ℕ) {r : Reading} → cond (stands role) (number_at bytes at) (reading 0 at) ≡ given r →
      taken_cell bytes role at ≡ r
  unfolding taken_cell
  taken_cell_lem role at {r} e = by (stands role) e
    where
      by : (test : Bool) → cond test (number_at bytes at) (reading 0 at) ≡ given r →
          cond test (taken_at bytes at) (record { value = 0; next = at }) ≡ r
      by true e = ap (λ (a : Answer Reading). taken_of a at) e
      by false e = ap (λ (a : Answer Reading). taken_of a at) e

  -- the second pass takes the words that the first one checked
  pub in_order_taken : {left i kind at next : ℕ} {words : List ℕ} → InOrder bytes registers nodes left i kind at words next →
      taken_from bytes left i kind at ≡ words
  unfolding taken_from
  in_order_taken none = refl
  in_order_taken {i = i} {kind = kind} {at = at} (more {left = left} {r = r} cell rest) =
      ap (λ (t : Reading). t.value ∷ taken_from bytes left (i + 1) (kind_after (i % 6) t.value kind) t.next)
      (taken_cell_lem (role_at kind (i % 6)) at cell.is)
      ∙ ap (λ (ws : List ℕ). r.value ∷ ws) (in_order_taken rest)
