-- The kind by which a node's words are looked at: carried along from word to word, as the reader and the writer do, it is the
-- one that the check of a table finds.
-- Assumes nothing.
use mathlib.Core.Path.{◌≡◌}
use mathlib.Core.List.{List}
use Prim.Native.Nat.{ℕ, ◌+◌, ◌*◌, ◌/◌, ◌%◌}
use native.Mathlib.Decide.{ℕ_discrete}
use native.Mathlib.Omega.{arith}
use lib.ListN.{get_or}
use borrow.Author.Tests.{eq-eqb, ne_eqb}
use Rattle.graph.specs.Kinds.{role_at, fault}
use Rattle.graph.specs.Checks.{fault_at}
use Rattle.file.specs.Reading.{kind_after}

-- past its word 0, the node of word i has this kind
abbrev pub KindOf : List ℕ → ℕ → ℕ → Type 0
KindOf table i kind = (i % 6 ≡ 0 → ⊥) → get_or table (i / 6 * 6) 0 ≡ kind

-- and after word i the node of the next word has the kind that is carried along
pub kind_next : (table : List ℕ) (i kind : ℕ) → KindOf table i kind → KindOf table (i + 1) (kind_after (i % 6) (get_or table i 0) kind)
kind_next table i kind k n = by (ℕ_discrete (i % 6) 0)
  where
    by : Dec (i % 6 ≡ 0) → get_or table ((i + 1) / 6 * 6) 0 ≡ kind_after (i % 6) (get_or table i 0) kind
    by (yes z) = let e : (i + 1) / 6 * 6 ≡ i = omega arith in rw (eq-eqb (i % 6) 0 z, e)
    by (no z) = let e : (i + 1) / 6 ≡ i / 6 = omega arith in rw (ne_eqb (i % 6) 0 z, e) (k z)

-- a word's fault in the table is its fault in the role that this kind gives it
pub fault-same : (registers nodes : ℕ) (table : List ℕ) (i kind : ℕ) → KindOf table i kind →
    fault_at 8 registers nodes table i ≡ fault 8 registers nodes (role_at kind (i % 6)) (get_or table i 0)
unfolding fault_at role_at
fault-same registers nodes table i kind k = by (ℕ_discrete (i % 6) 0)
  where
    by : Dec (i % 6 ≡ 0) →
        fault 8 registers nodes (role_at (get_or table (i / 6 * 6) 0) (i % 6)) (get_or table i 0)
        ≡ fault 8 registers nodes (role_at kind (i % 6)) (get_or table i 0)
    by (yes z) = rw z
    by (no z) = rw (k z)
