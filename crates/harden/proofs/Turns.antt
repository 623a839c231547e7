-- One turn of each pass over the nodes of a source: one row, one group more; and all of them together.
-- Assumes nothing.
use Prim.Native.Nat.{ℕ, ◌+◌}
use native.Mathlib.Numerals.{add-one}
use native.Mathlib.Omega.{arith}
use mathlib.Core.Path.{◌≡◌, refl, ap, ◌∙◌}
use mathlib.Core.Bool.{Bool}
use mathlib.Core.List.{List, [], ◌∷◌, ◌++◌, append_assoc}
use lib.ListN.{length-append}
use Rattle.graph.specs.Nodes.{Node, go, branch, ret, stop}
use Rattle.harden.specs.Hardened.{Source, own_row, own_at, group_from, group_at, source_rows, group_rows, first_row, hardened_rows}
use Rattle.harden.specs.Passes.{aimed, first_to, put_rows}
use Rattle.harden.proofs.Count.{source_rows_length, group_rows_length}
use Rattle.harden.proofs.Writes.{more_rows}

-- the own row is the node aimed at its first edge's goal and at e + 1
pub own-aimed : (e : ℕ) (crossed : Bool) (node : Node) → aimed (first_to e crossed node) (e + 1) node ≡ own_row e crossed node
own-aimed e crossed (go action next) = refl
own-aimed e crossed (branch c a b t f) = refl
own-aimed e crossed (ret a) = refl
own-aimed e crossed stop = refl

module _ (s : Source) (n : ℕ) where
  pub source-next : (l₀ : List ℕ) {l l' : List ℕ} →
      l ≡ put_rows l₀ 0 (source_rows s n) → l' ≡ put_rows l n (own_at s (group_at s n) n ∷ []) → l' ≡ put_rows l₀ 0 (source_rows s (n + 1))
  unfolding source_rows
  source-next l₀ p q =
      rw add-one
      (more_rows l₀ 0 n (source_rows s n) (own_at s (group_at s n) n ∷ []) p q
      (omega (arith, source_rows_length s n)))

  pub groups-next : (l₀ : List ℕ) {l l' : List ℕ} →
      l ≡ put_rows l₀ (s.nodes + 2) (group_rows s n) → l' ≡ put_rows l (group_at s n) (group_from s (group_at s n) n) →
      l' ≡ put_rows l₀ (s.nodes + 2) (group_rows s (n + 1))
  unfolding group_rows group_at
  groups-next l₀ p q =
      rw add-one
      (more_rows l₀ (s.nodes + 2) (group_at s n) (group_rows s n) (group_from s (group_at s n) n) p q
      (omega (arith, group_rows_length s n)))

-- source nodes, node N and the catch, groups
pub all_written : (s : Source) (l : List ℕ) {l₁ l₂ l₃ : List ℕ} →
    l₁ ≡ put_rows l 0 (source_rows s s.nodes) → l₂ ≡ put_rows l₁ s.nodes (first_row s ∷ stop ∷ []) → l₃ ≡ put_rows l₂ (s.nodes + 2) (group_rows s s.nodes) →
    l₃ ≡ put_rows l 0 (hardened_rows s)
unfolding hardened_rows
all_written s l p q r =
    let sources = source_rows s s.nodes in
    let begun = first_row s ∷ stop ∷ [] in
    more_rows l 0 (s.nodes + 2) (sources ++ begun) (group_rows s s.nodes)
    (more_rows l 0 s.nodes sources begun p q (omega (arith, source_rows_length s s.nodes)))
    r
    (rw length-append (omega (arith, source_rows_length s s.nodes)))
    ∙ ap (put_rows l 0) (append_assoc sources begun (group_rows s s.nodes))
