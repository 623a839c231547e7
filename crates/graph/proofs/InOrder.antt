-- Six words in order in their roles are the words of a node whose registers and targets are in range; so is each row of
-- an accepted table.
-- Assumes nothing.
use mathlib.Core.Path.{◌≡◌, refl}
use mathlib.Core.Bool.{Bool, true, false, cond}
use mathlib.Core.List.{List, [], ◌∷◌}
use Prim.Native.Nat.{ℕ, zero, suc, ◌+◌, ◌*◌, ◌/◌, ◌%◌, ◌≤◌, ◌<◌}
use native.Mathlib.Nat.{add-zero}
use native.Mathlib.Omega.{arith}
use borrow.Author.Tests.{ltb-true, eqb-true}
use lib.ListN.{get_or}
use lib.Dec.{eqb, ltb}
use Rattle.graph.specs.declared.Limits.{Limits}
use Rattle.graph.specs.declared.Role.TheVariants.{Kind, Operator, Comparison, Port, Register, Target, Spare}
use Rattle.graph.specs.Kinds.{layouts, role_at, fault, in_range}
use Rattle.graph.specs.Nodes.{node_of, node_at, words_of}
use Rattle.graph.specs.Accepted.{NodeIn, NoCatch}
use Rattle.graph.specs.Checks.{fault_at}
use Rattle.graph.proofs.Ranges.{in_range_lem}
use Rattle.graph.proofs.Passed.{Passed}

-- a test whose failure has a number did not fail
passed : (b : Bool) (number : ℕ) → 0 < number → cond b 0 number ≡ 0 → b ≡ true
passed true number some e = refl
passed false number some e = absurd (omega arith)

-- the fields of a node of this kind are in order
pub record Fields (kinds registers nodes kind v w x y z : ℕ) : Type 0 where
  pub field1 : fault kinds registers nodes (role_at kind 1) v ≡ 0
  pub field2 : fault kinds registers nodes (role_at kind 2) w ≡ 0
  pub field3 : fault kinds registers nodes (role_at kind 3) x ≡ 0
  pub field4 : fault kinds registers nodes (role_at kind 4) y ≡ 0
  pub field5 : fault kinds registers nodes (role_at kind 5) z ≡ 0

-- what is known of a node in order
pub record Row (kinds registers nodes kind v w x y z : ℕ) : Type 0 where
  pub node_in : NodeIn registers nodes (node_of kind v w x y z)
  pub no_catch : kinds ≤ 7 → NoCatch (node_of kind v w x y z)
  pub words : words_of (node_of kind v w x y z) ≡ kind ∷ v ∷ w ∷ x ∷ y ∷ z ∷ []

-- what a word in order in its role is
module _ (kinds registers nodes : ℕ) where
  pub kind_in : (w : ℕ) → fault kinds registers nodes Kind w ≡ 0 → (1 ≤ w) × (w ≤ kinds)
  kind_in w e = in_range_lem 1 kinds w (passed (in_range 1 kinds w) 5 (omega arith) e)

  pub operator_in : (w : ℕ) → fault kinds registers nodes Operator w ≡ 0 → w < 7
  operator_in w e = ltb-true w 7 (passed (ltb w 7) 5 (omega arith) e)

  pub comparison_in : (w : ℕ) → fault kinds registers nodes Comparison w ≡ 0 → w < 6
  comparison_in w e = ltb-true w 6 (passed (ltb w 6) 5 (omega arith) e)

  pub port_in : (w : ℕ) → fault kinds registers nodes Port w ≡ 0 → w < 256
  port_in w e = ltb-true w 256 (passed (ltb w 256) 5 (omega arith) e)

  pub register_in : (w : ℕ) → fault kinds registers nodes Register w ≡ 0 → w < registers
  register_in w e = ltb-true w registers (passed (ltb w registers) 6 (omega arith) e)

  pub target_in : (w : ℕ) → fault kinds registers nodes Target w ≡ 0 → w < nodes
  target_in w e = ltb-true w nodes (passed (ltb w nodes) 7 (omega arith) e)

  pub spare_in : (w : ℕ) → fault kinds registers nodes Spare w ≡ 0 → w ≡ 0
  spare_in w e = eqb-true w 0 (passed (eqb w 0) 8 (omega arith) e)

  -- the node of six words in order
  pub row_in : (v w x y z kind : ℕ) → 1 ≤ kind → kind ≤ kinds → kinds ≤ 8 → Fields kinds registers nodes kind v w x y z → Row kinds registers nodes kind v w x y z
  unfolding layouts role_at node_of
  row_in v w x y z zero low high few f = absurd (omega arith)
  row_in v w x y z (suc zero) low high few f =
      record { node_in = (register_in v f.field1, target_in x f.field3); no_catch = λ _. tt; words = rw (spare_in y f.field4, spare_in z f.field5) }
  row_in v w x y z (suc (suc zero)) low high few f =
      record { node_in = ((operator_in v f.field1, register_in w f.field2, register_in x f.field3, register_in y f.field4), target_in z f.field5); no_catch = λ _. tt; words = refl }
  row_in v w x y z (suc (suc (suc zero))) low high few f =
      record { node_in = (comparison_in v f.field1, register_in w f.field2, register_in x f.field3, target_in y f.field4, target_in z f.field5); no_catch = λ _. tt; words = refl }
  row_in v w x y z (suc (suc (suc (suc zero)))) low high few f =
      record { node_in = (comparison_in v f.field1, register_in w f.field2, tt, target_in y f.field4, target_in z f.field5); no_catch = λ _. tt; words = refl }
  row_in v w x y z (suc (suc (suc (suc (suc zero))))) low high few f =
      record { node_in = (register_in v f.field1, target_in w f.field2); no_catch = λ _. tt; words = rw (spare_in x f.field3, spare_in y f.field4, spare_in z f.field5) }
  row_in v w x y z (suc (suc (suc (suc (suc (suc zero)))))) low high few f =
      record { node_in = ((port_in v f.field1, register_in w f.field2), target_in x f.field3); no_catch = λ _. tt; words = rw (spare_in y f.field4, spare_in z f.field5) }
  row_in v w x y z (suc (suc (suc (suc (suc (suc (suc zero))))))) low high few f =
      record { node_in = register_in v f.field1; no_catch = λ _. tt; words = rw (spare_in w f.field2, spare_in x f.field3, spare_in y f.field4, spare_in z f.field5) }
  row_in v w x y z (suc (suc (suc (suc (suc (suc (suc (suc zero)))))))) low high few f =
      record { node_in = tt; no_catch = λ no_stop. absurd (omega arith); words = rw (spare_in v f.field1, spare_in w f.field2, spare_in x f.field3, spare_in y f.field4, spare_in z f.field5) }
  row_in v w x y z (suc (suc (suc (suc (suc (suc (suc (suc (suc kind))))))))) low high few f = absurd (omega arith)

module _ (limits : Limits) (registers nodes entry : ℕ) (table : List ℕ) (p : Passed limits registers nodes entry table) where
  -- each word of a node is in order in its role
  pub word_in : (n j : ℕ) → n < nodes → j < 6
      → fault limits.kinds registers nodes (role_at (get_or table (6 * n) 0) j) (get_or table (6 * n + j) 0) ≡ 0
  unfolding fault_at
  word_in n j inside word =
      let first : (6 * n + j) / 6 * 6 ≡ 6 * n = omega arith in
      let column : (6 * n + j) % 6 ≡ j = omega arith in
      rw (first, column) at (p.in_order (6 * n + j) (omega arith))

  pub node_row : (n : ℕ) → n < nodes → limits.kinds ≤ 8
      → Row limits.kinds registers nodes (get_or table (6 * n) 0) (get_or table (6 * n + 1) 0) (get_or table (6 * n + 2) 0) (get_or table (6 * n + 3) 0) (get_or table (6 * n + 4) 0) (get_or table (6 * n + 5) 0)
  unfolding role_at
  node_row n inside few =
      let known = kind_in limits.kinds registers nodes (get_or table (6 * n) 0) (rw add-zero at (word_in n 0 inside (omega arith))) in
      row_in limits.kinds registers nodes _ _ _ _ _ (get_or table (6 * n) 0) known.0 known.1 few
      (record {
        field1 = word_in n 1 inside (omega arith);
        field2 = word_in n 2 inside (omega arith);
        field3 = word_in n 3 inside (omega arith);
        field4 = word_in n 4 inside (omega arith);
        field5 = word_in n 5 inside (omega arith);
      })

  pub table_node_in : limits.kinds ≤ 8 → (n : ℕ) → n < nodes → NodeIn registers nodes (node_at table n)
  unfolding node_at
  table_node_in few n inside = (node_row n inside few).node_in

  pub table_no_catch : limits.kinds ≤ 7 → (n : ℕ) → n < nodes → NoCatch (node_at table n)
  unfolding node_at
  table_no_catch none n inside = (node_row n inside (omega arith)).no_catch none
