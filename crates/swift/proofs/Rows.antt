-- The rows of the hardened graph as it is run: the source's own, node N, the catch, and the groups of extra nodes.
-- Assumes nothing.
use mathlib.Core.Path.{◌≡◌, ◌∙◌}
use Prim.Native.Nat.{ℕ, ◌+◌, ◌<◌}
use native.Mathlib.Omega.{arith}
use lib.ListN.{get_or}
use Rattle.graph.specs.Nodes.{stop}
use Rattle.harden.specs.Hardened.{Source, extra, crossing, group_at, first_row, row_at, hardened_count}
use Rattle.harden.proofs.Rows.{own, group, group_in, source_in_lem, row_own, row_first, row_catch, row_group, hardened_node}
use Rattle.swift.specs.Trials.{Trial, hardened_graph}

abbrev pub extra_of : Source → ℕ → ℕ
extra_of s n = extra (crossing s n) (s.graph n)

module _ (t : Trial) where
  abbrev s : Source
  s = t.source

  row_at_lem : (i : ℕ) → i < hardened_count s → hardened_graph t i ≡ row_at s i
  unfolding hardened_graph
  row_at_lem i h = hardened_node s t.behind i h

  pub own_row_lem : (n : ℕ) → n < s.nodes → hardened_graph t n ≡ own s n
  own_row_lem n h = row_at_lem n (omega (arith, source_in_lem s)) ∙ row_own s n h

  pub first_row_lem : hardened_graph t s.nodes ≡ first_row s
  first_row_lem = row_at_lem s.nodes (omega (arith, source_in_lem s)) ∙ row_first s

  pub catch_row : hardened_graph t (s.nodes + 1) ≡ stop
  catch_row = row_at_lem (s.nodes + 1) (omega (arith, source_in_lem s)) ∙ row_catch s

  pub extra_row : (n j : ℕ) → n < s.nodes → j < extra_of s n → hardened_graph t (group_at s n + j) ≡ get_or (group s n) j stop
  extra_row n j h k = row_at_lem (group_at s n + j) (omega (arith, group_in s n h)) ∙ row_group s n j h k
