-- The hardened table of an accepted source passes the check of a runnable graph, by any plan and whatever words stand behind it.
-- Assumes nothing.
use Prim.Native.Nat.{ℕ, zero, suc, ◌+◌, ◌*◌, ◌/◌, ◌%◌, ◌≤◌, ◌<◌}
use native.Mathlib.Nat.{le_of_suc-le-suc, not-suc-le-zero}
use native.Mathlib.Omega.{arith}
use mathlib.Core.Path.{◌≡◌, refl, ap, ◌∙◌}
use mathlib.Core.Bool.{Bool, true, false}
use mathlib.Core.List.{List, [], ◌∷◌, ◌++◌}
use lib.ListN.{length, get_or, drop, length-append}
use lib.Dec.{leb}
use borrow.Author.Tests.{lt-ltb}
use Rattle.words.specs.Answer.{given}
use Rattle.words.specs.Buffer.{over}
use Rattle.words.proofs.Answers.{given_same}
use Rattle.graph.specs.declared.Header.{Header}
use Rattle.graph.specs.Limits.{runnable}
use Rattle.graph.specs.Kinds.{layouts, role_at, fault}
use Rattle.graph.specs.Nodes.{Node, go, branch, ret, stop, Action, const, op, input, output, Operand, register, constant, words_of}
use Rattle.graph.specs.Accepted.{ActionIn, OperandIn, NodeIn, SourceGraph}
use Rattle.graph.specs.Checks.{fault_at, source_check, runnable_check}
use Rattle.graph.proofs.Facts.{and_given, source_facts}
use Rattle.graph.proofs.Passed.{demand_given, table_given}
use Rattle.harden.specs.Hardened.{Source, extra, prepare, update, check, group_of, own_row, sign, crossing, group_at, source_rows, group_rows, first_row, hardened_rows, hardened_count, table_of, hardened_table, source_of, harden_answer, harden_output}
use Rattle.harden.proofs.Count.{count_bound, rows_length, hardened-length}
use Rattle.harden.proofs.Rows.{own, group, word_at, group_in, source_in_lem}

-- ---- the six words of a node in order

six : (P : ℕ → Type 0) → P 0 → P 1 → P 2 → P 3 → P 4 → P 5 → (j : ℕ) → j < 6 → P j
six P a b c d e f zero h = a
six P a b c d e f (suc zero) h = b
six P a b c d e f (suc (suc zero)) h = c
six P a b c d e f (suc (suc (suc zero))) h = d
six P a b c d e f (suc (suc (suc (suc zero)))) h = e
six P a b c d e f (suc (suc (suc (suc (suc zero))))) h = f
six P a b c d e f (suc (suc (suc (suc (suc (suc j)))))) h = absurd (omega arith)

module _ (registers nodes : ℕ) where
  abbrev InOrder : Node → ℕ → Type 0
  InOrder row j = fault 8 registers nodes (role_at (get_or (words_of row) 0 0) j) (get_or (words_of row) j 0) ≡ 0

  row_order : (row : Node) → NodeIn registers nodes row → (j : ℕ) → j < 6 → InOrder row j
  unfolding layouts role_at
  row_order (go (const d k) next) (d<, next<) =
      six (InOrder (go (const d k) next)) refl (rw (lt-ltb d registers d<)) refl (rw (lt-ltb next nodes next<)) refl refl
  row_order (go (op o d a b) next) ((o<, d<, a<, b<), next<) =
      six (InOrder (go (op o d a b) next)) refl
      (rw (lt-ltb o 7 o<)) (rw (lt-ltb d registers d<)) (rw (lt-ltb a registers a<)) (rw (lt-ltb b registers b<)) (rw (lt-ltb next nodes next<))
  row_order (go (input d) next) (d<, next<) =
      six (InOrder (go (input d) next)) refl (rw (lt-ltb d registers d<)) (rw (lt-ltb next nodes next<)) refl refl refl
  row_order (go (output port a) next) ((port<, a<), next<) =
      six (InOrder (go (output port a) next)) refl (rw (lt-ltb port 256 port<)) (rw (lt-ltb a registers a<)) (rw (lt-ltb next nodes next<)) refl refl
  row_order (branch c a (register b) t f) (c<, a<, b<, t<, f<) =
      six (InOrder (branch c a (register b) t f)) refl
      (rw (lt-ltb c 6 c<)) (rw (lt-ltb a registers a<)) (rw (lt-ltb b registers b<)) (rw (lt-ltb t nodes t<)) (rw (lt-ltb f nodes f<))
  row_order (branch c a (constant k) t f) (c<, a<, k<, t<, f<) =
      six (InOrder (branch c a (constant k) t f)) refl
      (rw (lt-ltb c 6 c<)) (rw (lt-ltb a registers a<)) refl (rw (lt-ltb t nodes t<)) (rw (lt-ltb f nodes f<))
  row_order (ret a) a< = six (InOrder (ret a)) refl (rw (lt-ltb a registers a<)) refl refl refl refl
  row_order stop h = six (InOrder stop) refl refl refl refl refl refl

  -- rows in order
  abbrev AllIn : List Node → Type 0
  AllIn [] = Unit {0}
  AllIn (row ∷ rows) = NodeIn registers nodes row × AllIn rows

  all_append : (rows more : List Node) → AllIn rows → AllIn more → AllIn (rows ++ more)
  all_append [] more a b = b
  all_append (row ∷ rows) more (r, a) b = (r, all_append rows more a b)

  all_at : (rows : List Node) (i : ℕ) → AllIn rows → i < length rows → NodeIn registers nodes (get_or rows i stop)
  all_at [] i a h = absurd (not-suc-le-zero h)
  all_at (row ∷ rows) zero (r, a) h = r
  all_at (row ∷ rows) (suc i) (r, a) h = all_at rows i a (le_of_suc-le-suc h)

  table_order : (rows : List Node) (rest : List ℕ) → AllIn rows → (i : ℕ) → i < 6 * length rows → fault_at 8 registers nodes (table_of rows ++ rest) i ≡ 0
  unfolding fault_at
  table_order rows rest a i h =
      let n = i / 6 in
      let word : (j k : ℕ) → k ≡ 6 * n + j → j < 6 → get_or (table_of rows ++ rest) k 0 ≡ get_or (words_of (get_or rows n stop)) j 0 =
      λ j k e j<. ap (λ (i : ℕ). get_or (table_of rows ++ rest) i 0) e ∙ word_at rows rest n j (omega arith) j< in
      rw (word 0 (i / 6 * 6) (omega arith) (omega arith), word (i % 6) i (omega arith) (omega arith))
      (row_order (get_or rows n stop) (all_at rows n a (omega arith)) (i % 6) (omega arith))

-- ---- the rows of a hardened graph

module _ (s : Source) (ok : SourceGraph s.registers s.nodes s.entry s.graph) where
  abbrev R : ℕ
  R = s.registers

  abbrev H : ℕ
  H = hardened_count s

  abbrev RowIn : Node → Type 0
  RowIn row = NodeIn (R + 2) H row

  action_in : (action : Action) → ActionIn R action → ActionIn (R + 2) action
  action_in (const d k) h = omega arith
  action_in (op o d a b) (o<, d<, a<, b<) = (o<, omega arith, omega arith, omega arith)
  action_in (input d) h = omega arith
  action_in (output port a) (port<, a<) = (port<, omega arith)

  operand_in : (b : Operand) → OperandIn R b → OperandIn (R + 2) b
  operand_in (register b) h = omega arith
  operand_in (constant k) h = tt

  -- constants may be any words, so 0 stands here for every signature
  prepare_in : (next : ℕ) → next < H → RowIn (prepare R 0 0 next)
  prepare_in next h = (omega arith, h)

  update_in : (next : ℕ) → next < H → RowIn (update R next)
  update_in next h = ((omega arith, omega arith, omega arith, omega arith), h)

  check_in : (target : ℕ) → target < s.nodes → RowIn (check R 0 (s.nodes + 1) target)
  check_in target h = (omega arith, omega arith, tt, omega (arith, source_in_lem s), omega (arith, source_in_lem s))

  own_in : (n : ℕ) (node : Node) (crossed : Bool) → NodeIn R s.nodes node → group_at s n + extra crossed node ≤ H → RowIn (own_row (group_at s n) crossed node)
  own_in n (go action next) true (a, next<) fits = (action_in action a, omega arith)
  own_in n (go action next) false (a, next<) fits = (action_in action a, omega (arith, source_in_lem s))
  own_in n (branch c a b t f) crossed (c<, a<, b<, t<, f<) fits = (c<, omega arith, operand_in b b<, omega arith, omega arith)
  own_in n (ret a) crossed h fits = omega arith
  own_in n stop crossed h fits = tt

  group_rows_in : (n : ℕ) (node : Node) (crossed : Bool) → NodeIn R s.nodes node → group_at s n + extra crossed node ≤ H
      → AllIn (R + 2) H (group_of R (s.nodes + 1) (group_at s n) (sign s) crossed n node)
  group_rows_in n (go action l) true (a, l<) fits =
      (prepare_in _ (omega arith), (update_in _ (omega arith), (check_in l l<, tt)))
  group_rows_in n (go action l) false h fits = tt
  group_rows_in n (branch c a b t f) crossed (c<, a<, b<, t<, f<) fits = (
    prepare_in _ (omega arith),
    (
      prepare_in _ (omega arith),
      (
        (c<, omega arith, operand_in b b<, omega arith, omega arith),
        (update_in _ (omega arith), (check_in t t<, (update_in _ (omega arith), (check_in f f<, tt)))),
      ),
    ),
  )
  group_rows_in n (ret a) crossed h fits = tt
  group_rows_in n stop crossed h fits = tt

  sources_in : (k : ℕ) → k ≤ s.nodes → AllIn (R + 2) H (source_rows s k)
  unfolding source_rows
  sources_in zero h = tt
  sources_in (suc k) h =
      all_append (R + 2) H (source_rows s k) (own s k ∷ []) (sources_in k (omega arith))
      (own_in k (s.graph k) (crossing s k) (ok.node_in k h) (group_in s k h), tt)

  groups_in : (k : ℕ) → k ≤ s.nodes → AllIn (R + 2) H (group_rows s k)
  unfolding group_rows
  groups_in zero h = tt
  groups_in (suc k) h =
      all_append (R + 2) H (group_rows s k) (group s k) (groups_in k (omega arith))
      (group_rows_in k (s.graph k) (crossing s k) (ok.node_in k h) (group_in s k h))

  rows_in : AllIn (R + 2) H (hardened_rows s)
  unfolding hardened_rows first_row
  rows_in =
      all_append (R + 2) H (source_rows s s.nodes) (first_row s ∷ stop ∷ group_rows s s.nodes) (sources_in s.nodes (omega arith))
      ((omega arith, omega (arith, ok.entry_in, source_in_lem s)), (tt, groups_in s.nodes (omega arith)))

  -- the hardened graph is runnable
  pub hardened-runnable : (rest : List ℕ) → runnable_check (R + 2) H s.nodes (hardened_table s ++ rest) ≡ given tt
  unfolding runnable_check hardened_table
  hardened-runnable rest =
      let words : length (table_of (hardened_rows s) ++ rest) ≡ 6 * H + length rest =
      length-append (table_of (hardened_rows s)) rest ∙ ap (◌+ length rest) (hardened-length s) in
      table_given runnable (R + 2) H s.nodes (table_of (hardened_rows s) ++ rest)
      (record {
        some_registers = omega arith;
        few_registers = omega (arith, ok.few_registers);
        some_nodes = omega (arith, source_in_lem s);
        few_nodes = count_bound s ok.few_nodes;
        room = omega arith;
        entry_in = omega (arith, source_in_lem s);
        in_order = λ i h. table_order (R + 2) H (hardened_rows s) rest rows_in i (rw rows_length h);
      })

-- the same of a table that `check_source` accepts
pub accepted_runnable : (registers nodes entry : ℕ) (table rest : List ℕ) → source_check registers nodes entry table ≡ given tt
    → runnable_check (registers + 2) (hardened_count (source_of registers nodes entry table)) nodes
    (hardened_table (source_of registers nodes entry table) ++ rest)
    ≡ given tt
unfolding source_of
accepted_runnable registers nodes entry table rest accepted =
    hardened-runnable (source_of registers nodes entry table) (source_facts registers nodes entry table accepted) rest

-- and of what `harden` answers and leaves in the output
pub output_runnable : (registers nodes entry : ℕ) (table out : List ℕ) (k : Header) → harden_answer registers nodes entry table (length out) ≡ given k
    → runnable_check k.registers k.nodes k.entry (harden_output registers nodes entry table out) ≡ given tt
unfolding harden_answer harden_output over
output_runnable registers nodes entry table out k e =
    let h : ℕ = hardened_count (source_of registers nodes entry table) in
    let words : List ℕ = hardened_table (source_of registers nodes entry table) in
    let parts = and_given (source_check registers nodes entry table) _ e in
    let room = demand_given {A = Header} (leb (6 * h) (length out)) 11 (6 * h) _ parts.2 in
    let same : record { registers = registers + 2; nodes = h; entry = nodes } ≡ k = given_same room.1 in
    rw (← same, parts.1, room.0) (accepted_runnable registers nodes entry table (drop (length words) out) parts.1)
