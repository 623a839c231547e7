-- Every refusal of a check of a graph: its number is one of document 01's, and its place has a bound.
-- Assumes nothing.
use mathlib.Core.Path.{◌≡◌, refl, sym}
use mathlib.Core.Bool.{Bool, true, false, cond}
use mathlib.Core.Logic.{◌⊎◌, inl, inr, ⊎_elim}
use mathlib.Core.List.{List}
use Prim.Native.Nat.{ℕ, zero, suc, ◌+◌, ◌*◌, ◌/◌, ◌%◌, ◌≤◌, ◌<◌}
use native.Mathlib.Omega.{arith}
use borrow.Author.Tests.{eqb-false}
use lib.ListN.{length, get_or}
use lib.Dec.{eqb, leb, ltb}
use Rattle.words.specs.Answer.{Answer, given, refused, demand, and_then}
use Rattle.graph.specs.declared.Limits.{Limits}
use Rattle.graph.specs.declared.Role.{Role}
use Rattle.graph.specs.declared.Role.TheVariants.{Kind, Operator, Comparison, Port, Register, Target, Free, Spare}
use Rattle.graph.specs.Limits.{runnable, source}
use Rattle.graph.specs.Kinds.{role_at, fault, in_range}
use Rattle.graph.specs.Nodes.{node_at}
use Rattle.graph.specs.Paths.{reached}
use Rattle.graph.specs.Checks.{fault_at, words_from, table_check, reach_check, runnable_check, source_check}
use Rattle.graph.proofs.Ranges.{in_range_lem}
use Rattle.graph.proofs.Passed.{table-passed}
use Rattle.graph.proofs.Unmarked.{unmarked_lowest}

-- a demand's refusal is its own, or that of what follows
pub demand_refused : {A : Type 0} (P : ℕ → ℕ → Type 0) (b : Bool) (number place : ℕ) (next : Answer A) {n p : ℕ}
    → demand b number place next ≡ refused n p
    → P number place → (b ≡ true → next ≡ refused n p → P n p) → P n p
demand_refused P true number place next e own later = later refl e
demand_refused P false number place next {n} {p} e own later =
    let same_number : number ≡ n = cc in
    let same_place : place ≡ p = cc in
    rw (← same_number, ← same_place) own

-- the number and the place of a word's refusal
pub record WordRefused (kinds registers nodes : ℕ) (table : List ℕ) (left i number place : ℕ) : Type 0 where
  pub from : i ≤ place
  pub below : place < i + left
  pub some : 0 < number
  pub its_fault : number ≡ fault_at kinds registers nodes table place

module _ (kinds registers nodes : ℕ) where
  numbered : (b : Bool) (number : ℕ) → 5 ≤ number → number ≤ 8 → 0 < cond b 0 number → (5 ≤ cond b 0 number) × (cond b 0 number ≤ 8)
  numbered true number low high some = absurd (omega arith)
  numbered false number low high some = (low, high)

  -- a fault is 5, 6, 7 or 8
  pub fault_number : (role : Role) (w : ℕ) → 0 < fault kinds registers nodes role w
      → (5 ≤ fault kinds registers nodes role w) × (fault kinds registers nodes role w ≤ 8)
  fault_number Kind w some = numbered (in_range 1 kinds w) 5 (omega arith) (omega arith) some
  fault_number Operator w some = numbered (ltb w 7) 5 (omega arith) (omega arith) some
  fault_number Comparison w some = numbered (ltb w 6) 5 (omega arith) (omega arith) some
  fault_number Port w some = numbered (ltb w 256) 5 (omega arith) (omega arith) some
  fault_number Register w some = numbered (ltb w registers) 6 (omega arith) (omega arith) some
  fault_number Target w some = numbered (ltb w nodes) 7 (omega arith) (omega arith) some
  fault_number Free w some = absurd (omega arith)
  fault_number Spare w some = numbered (eqb w 0) 8 (omega arith) (omega arith) some

  fault-at_number : (table : List ℕ) (i : ℕ) → 0 < fault_at kinds registers nodes table i
      → (5 ≤ fault_at kinds registers nodes table i) × (fault_at kinds registers nodes table i ≤ 8)
  unfolding fault_at
  fault-at_number table i some = fault_number (role_at (get_or table (i / 6 * 6) 0) (i % 6)) (get_or table i 0) some

  pub words_refused : (table : List ℕ) (left i number place : ℕ) → words_from kinds registers nodes table left i ≡ refused number place
      → WordRefused kinds registers nodes table left i number place
  unfolding words_from
  words_refused table zero i number place e = absurd (let z : ◌≡◌ {A = ℕ} 0 1 = cc in omega arith)
  words_refused table (suc left) i number place e =
      by (eqb (fault_at kinds registers nodes table i) 0) refl e (words_refused table left (i + 1) number place)
    where
      by : (b : Bool) → eqb (fault_at kinds registers nodes table i) 0 ≡ b
          → cond b (words_from kinds registers nodes table left (i + 1)) (refused (fault_at kinds registers nodes table i) i) ≡ refused number place
          → (words_from kinds registers nodes table left (i + 1) ≡ refused number place → WordRefused kinds registers nodes table left (i + 1) number place)
          → WordRefused kinds registers nodes table (suc left) i number place
      by true is f rest =
          let r = rest f in record { from = omega arith; below = omega arith; some = r.some; its_fault = r.its_fault }
      by false is f rest =
          let here : fault_at kinds registers nodes table i ≡ number = cc in
          let there : i ≡ place = cc in
          let fails : (fault_at kinds registers nodes table i ≡ 0 → ⊥) = eqb-false (fault_at kinds registers nodes table i) 0 is in
          record { from = omega arith; below = omega arith; some = omega arith; its_fault = rw (← there) (sym here) }

-- a refusal of a table: 3 to 8, and no place past 6N at the largest N
pub table_refusal : (limits : Limits) (registers nodes entry : ℕ) (table : List ℕ) {number place : ℕ}
    → table_check limits registers nodes entry table ≡ refused number place
    → (3 ≤ number) × (number ≤ 8) × (place ≤ 6 * limits.nodes)
unfolding table_check
table_refusal limits registers nodes entry table e =
    demand_refused Bounded (in_range 1 limits.registers registers) 3 0 _ e (omega arith) λ r e₁.
    demand_refused Bounded (in_range 1 limits.nodes nodes) 3 0 _ e₁ (omega arith) λ n e₂.
    let few : nodes ≤ limits.nodes = (in_range_lem 1 limits.nodes nodes n).1 in
    demand_refused Bounded (leb (6 * nodes) (length table)) 4 (6 * nodes) _ e₂ (omega arith) λ room e₃.
    demand_refused Bounded (ltb entry nodes) 7 0 _ e₃ (omega arith) λ inside e₄.
    let w = words_refused limits.kinds registers nodes table (6 * nodes) 0 _ _ e₄ in
    let five = fault-at_number limits.kinds registers nodes table _ (rw w.its_fault at w.some) in
    (omega arith, omega arith, omega arith)
  where
    Bounded : ℕ → ℕ → Type 0
    Bounded number place = (3 ≤ number) × (number ≤ 8) × (place ≤ 6 * limits.nodes)

-- a refusal of checks in a row is that of the first, or the first passed and it is that of the second
pub and_refused : {A B : Type 0} {number place : ℕ} (answer : Answer A) (next : A → Answer B)
    → and_then answer next ≡ refused number place
    → (answer ≡ refused number place) ⊎ ((a : A) × (answer ≡ given a) × (next a ≡ refused number place))
and_refused (given a) next e = inr (a, refl, e)
and_refused (refused number place) next e = inl cc

module _ (registers nodes entry : ℕ) (table : List ℕ) {number place : ℕ} where
  -- of a runnable graph: 3 to 8, and no place past 12,300
  pub runnable_refusal : runnable_check registers nodes entry table ≡ refused number place → (3 ≤ number) × (number ≤ 8) × (place ≤ 12300)
  unfolding runnable_check
  runnable_refusal e = table_refusal runnable registers nodes entry table e

  -- of a source: the table's, or 9 at a node
  pub source_refusal : source_check registers nodes entry table ≡ refused number place → (3 ≤ number) × (number ≤ 9) × (place ≤ 1536)
  unfolding source_check reach_check
  source_refusal e =
      ⊎_elim
      (λ (first : table_check source registers nodes entry table ≡ refused number place).
      let r = table_refusal source registers nodes entry table first in (omega arith, omega arith, omega arith))
      (λ (then : (a : Unit) × (table_check source registers nodes entry table ≡ given a) × (reach_check nodes entry table ≡ refused number place)).
      let l = unmarked_lowest (reached (node_at table) nodes entry) nodes 0 number place then.2 in
      let p = table-passed source registers nodes entry table then.1 in
      (omega arith, omega arith, omega arith))
      (and_refused (table_check source registers nodes entry table) _ e)
