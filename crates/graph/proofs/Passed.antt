-- What an accepted table has passed, test by test, and that a table which passes them is accepted.
-- Assumes nothing.
use mathlib.Core.Path.{◌≡◌, refl}
use mathlib.Core.Bool.{Bool, true, false, cond}
use mathlib.Core.List.{List}
use Prim.Native.Nat.{ℕ, zero, suc, ◌+◌, ◌*◌, ◌≤◌, ◌<◌}
use native.Mathlib.Nat.{eq-or-lt_of_le}
use native.Mathlib.Omega.{arith}
use mathlib.Core.Logic.{⊎_elim}
use borrow.Author.Tests.{leb-true, ltb-true, eqb-true, le-leb, lt-ltb}
use lib.ListN.{length}
use lib.Dec.{eqb, leb, ltb}
use Rattle.words.specs.Answer.{Answer, given, refused, demand}
use Rattle.graph.specs.declared.Limits.{Limits}
use Rattle.graph.specs.Kinds.{in_range}
use Rattle.graph.specs.Checks.{fault_at, words_from, table_check}
use Rattle.graph.proofs.Ranges.{in_range_lem, range_in}

-- what an accepted table has passed
pub record Passed (limits : Limits) (registers nodes entry : ℕ) (table : List ℕ) : Type 0 where
  pub some_registers : 1 ≤ registers
  pub few_registers : registers ≤ limits.registers
  pub some_nodes : 1 ≤ nodes
  pub few_nodes : nodes ≤ limits.nodes
  pub room : 6 * nodes ≤ length table
  pub entry_in : entry < nodes
  pub in_order : (i : ℕ) → i < 6 * nodes → fault_at limits.kinds registers nodes table i ≡ 0

-- a demand that is no refusal was met
pub demand_given : {A : Type 0} {a : A} (b : Bool) (number place : ℕ) (next : Answer A)
    → demand b number place next ≡ given a → (b ≡ true) × (next ≡ given a)
demand_given true number place next e = (refl, e)
demand_given false number place next e = (cc, cc)

choice_given : {A : Type 0} {a : A} (b : Bool) (number place : ℕ) (next : Answer A)
    → cond b next (refused number place) ≡ given a → (b ≡ true) × (next ≡ given a)
choice_given true number place next e = (refl, e)
choice_given false number place next e = (cc, cc)

module _ (kinds registers nodes : ℕ) (table : List ℕ) where
  words_passed : (left i : ℕ) → words_from kinds registers nodes table left i ≡ given tt
      → (j : ℕ) → i ≤ j → j < i + left → fault_at kinds registers nodes table j ≡ 0
  unfolding words_from
  words_passed zero i e j low high = absurd (omega arith)
  words_passed (suc left) i e j low high =
      ⊎_elim
      (λ (here : i ≡ j). rw (← here) (eqb-true _ 0 first.0))
      (λ (later : i < j). words_passed left (i + 1) first.1 j (omega arith) (omega arith))
      (eq-or-lt_of_le low)
    where
      first : (eqb (fault_at kinds registers nodes table i) 0 ≡ true) × (words_from kinds registers nodes table left (i + 1) ≡ given tt)
      first = choice_given _ (fault_at kinds registers nodes table i) i _ e

  pub words_given : (left i : ℕ) → ((j : ℕ) → i ≤ j → j < i + left → fault_at kinds registers nodes table j ≡ 0)
      → words_from kinds registers nodes table left i ≡ given tt
  unfolding words_from
  words_given zero i right = refl
  words_given (suc left) i right =
      rw (right i (omega arith) (omega arith))
      (words_given left (i + 1) (λ j low high. right j (omega arith) (omega arith)))

module _ (limits : Limits) (registers nodes entry : ℕ) (table : List ℕ) where
  pub table-passed : table_check limits registers nodes entry table ≡ given tt → Passed limits registers nodes entry table
  unfolding table_check
  table-passed e =
      let r = demand_given (in_range 1 limits.registers registers) 3 0 _ e in
      let n = demand_given (in_range 1 limits.nodes nodes) 3 0 _ r.1 in
      let room = demand_given (leb (6 * nodes) (length table)) 4 (6 * nodes) _ n.1 in
      let inside = demand_given (ltb entry nodes) 7 0 _ room.1 in
      record {
        some_registers = (in_range_lem 1 limits.registers registers r.0).0;
        few_registers = (in_range_lem 1 limits.registers registers r.0).1;
        some_nodes = (in_range_lem 1 limits.nodes nodes n.0).0;
        few_nodes = (in_range_lem 1 limits.nodes nodes n.0).1;
        room = leb-true (6 * nodes) (length table) room.0;
        entry_in = ltb-true entry nodes inside.0;
        in_order = λ i h. words_passed limits.kinds registers nodes table (6 * nodes) 0 inside.1 i (omega arith) (omega arith);
      }

  pub table_given : Passed limits registers nodes entry table → table_check limits registers nodes entry table ≡ given tt
  unfolding table_check
  table_given p =
      rw (range_in 1 limits.registers registers p.some_registers p.few_registers, range_in 1 limits.nodes nodes p.some_nodes p.few_nodes, le-leb (6 * nodes) (length table) p.room, lt-ltb entry nodes p.entry_in)
      (words_given limits.kinds registers nodes table (6 * nodes) 0 (λ i low high. p.in_order i (omega arith)))
