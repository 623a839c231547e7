-- What a kind's number settles: the role of each word, and where the node's edges lead.
-- Assumes nothing.
use mathlib.Core.Path.{◌≡◌, refl, sym, ap, ◌∙◌}
use Prim.Native.Nat.{ℕ, ◌+◌, ◌*◌, ◌≤◌}
use mathlib.Core.List.{List, [], ◌∷◌}
use lib.ListN.{length, get_or, get_or-eq_default}
use native.Mathlib.Omega.{arith}
use Rattle.graph.specs.declared.Role.{Role}
use Rattle.graph.specs.declared.Role.TheVariants.{Kind, Spare}
use Rattle.graph.specs.Kinds.{layouts, role_at}
use Rattle.graph.specs.Nodes.{Node, stop, node_of, node_at, targets}

-- a kind past the last has no fields
pub role_unknown : (kind word : ℕ) → 9 ≤ kind → get_or (Kind ∷ []) word Spare ≡ role_at kind word
unfolding layouts role_at
role_unknown kind word h =
    let past : length layouts ≤ kind = omega arith in
    ap (λ (fields : List Role). get_or (Kind ∷ fields) word Spare) (sym (get_or-eq_default layouts [] past))

module _ (table : List ℕ) (n : ℕ) where
  -- node n by a kind, with the words of its row
  abbrev pub row_as : ℕ → Node
  row_as kind =
      node_of kind (get_or table (6 * n + 1) 0) (get_or table (6 * n + 2) 0) (get_or table (6 * n + 3) 0) (get_or table (6 * n + 4) 0) (get_or table (6 * n + 5) 0)

  -- the node of a table whose kind is known
  pub node_kind : (kind : ℕ) → get_or table (6 * n) 0 ≡ kind → node_at table n ≡ row_as kind
  unfolding node_at
  node_kind kind e = ap row_as e

  pub row_unknown : (kind : ℕ) → 8 ≤ kind → row_as kind ≡ stop
  unfolding node_of
  row_unknown kind h = get_or-eq_default (_ ∷ _ ∷ _ ∷ _ ∷ _ ∷ _ ∷ _ ∷ _ ∷ []) stop h

  pub targets_kind : {w : ℕ} (kind : ℕ) → w ≡ get_or table (6 * n) 0 → w ≡ kind → targets (node_at table n) ≡ targets (row_as kind)
  targets_kind kind read known = ap targets (node_kind kind (sym read ∙ known))

  pub targets_unknown : {w : ℕ} → w ≡ get_or table (6 * n) 0 → 9 ≤ w → targets (node_at table n) ≡ []
  targets_unknown {w} read h =
      let past : 8 ≤ w = omega arith in
      targets_kind w read refl ∙ ap targets (row_unknown w past)

  -- past the end every word is 0
  pub targets_past : length table ≤ n → targets (node_at table n) ≡ []
  unfolding node_of
  targets_past h =
      let past : length table ≤ 6 * n = omega arith in
      targets_kind 0 refl (get_or-eq_default table 0 past)
