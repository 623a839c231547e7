-- What the checks establish of an accepted graph, node by node; that an accepted source is runnable; and that a row of an
-- accepted table holds just its node's words. Assumes nothing.
use mathlib.Core.Path.{◌≡◌, refl, sym, ap, ◌∙◌}
use mathlib.Core.Bool.{true}
use mathlib.Core.List.{List, [], ◌∷◌}
use Prim.Native.Nat.{ℕ, suc, ◌+◌, ◌*◌, ◌/◌, ◌%◌, ◌≤◌, ◌<◌}
use native.Mathlib.Numerals.{add-one}
use native.Mathlib.Omega.{arith}
use lib.ListN.{length, get_or, take, drop}
use lib.Seq.{drop-cons, get_or-take, get_or-drop}
use Rattle.words.specs.Answer.{Answer, given, refused, and_then}
use Rattle.graph.specs.declared.Role.{Role}
use Rattle.graph.specs.declared.Role.TheVariants.{Kind, Operator, Comparison, Port, Register, Target, Free, Spare}
use Rattle.graph.specs.Limits.{runnable, source}
use Rattle.graph.specs.Kinds.{role_at, fault}
use Rattle.graph.specs.Nodes.{node_at, words_of}
use Rattle.graph.specs.Paths.{PathIn, marked, reached}
use Rattle.graph.specs.Accepted.{RunnableGraph, SourceGraph}
use Rattle.graph.specs.Checks.{fault_at, table_check, reach_check, runnable_check, source_check}
use Rattle.graph.proofs.Ranges.{range_in}
use Rattle.graph.proofs.Passed.{Passed, table-passed, table_given}
use Rattle.graph.proofs.InOrder.{kind_in, node_row, table_node_in, table_no_catch}
use Rattle.graph.proofs.Unmarked.{unmarked_none}
use Rattle.graph.proofs.Reached.{marked_short, path_of}

-- what a check that is handed on has passed
pub and_given : {A B : Type 0} {b : B} (answer : Answer A) (next : A → Answer B)
    → and_then answer next ≡ given b → (a : A) × (answer ≡ given a) × (next a ≡ given b)
and_given (given a) next e = (a, refl, e)
and_given (refused number place) next e = absurd (let z : ◌≡◌ {A = ℕ} 0 1 = cc in omega arith)

-- a word in order stays so where more kinds are known
fault_more : (kinds more registers nodes : ℕ) → kinds ≤ more → (role : Role) (w : ℕ)
    → fault kinds registers nodes role w ≡ 0 → fault more registers nodes role w ≡ 0
fault_more kinds more registers nodes h Kind w e =
    let known = kind_in kinds registers nodes w e in rw (range_in 1 more w known.0 (omega arith))
fault_more kinds more registers nodes h Operator w e = e
fault_more kinds more registers nodes h Comparison w e = e
fault_more kinds more registers nodes h Port w e = e
fault_more kinds more registers nodes h Register w e = e
fault_more kinds more registers nodes h Target w e = e
fault_more kinds more registers nodes h Free w e = e
fault_more kinds more registers nodes h Spare w e = e

fault-at_more : (kinds more registers nodes : ℕ) → kinds ≤ more → (table : List ℕ) (i : ℕ)
    → fault_at kinds registers nodes table i ≡ 0 → fault_at more registers nodes table i ≡ 0
unfolding fault_at
fault-at_more kinds more registers nodes h table i e =
    fault_more kinds more registers nodes h (role_at (get_or table (i / 6 * 6) 0) (i % 6)) (get_or table i 0) e

word_next : (l : List ℕ) (i j k : ℕ) → j ≡ i + 1 → i < length l → take (suc k) (drop i l) ≡ get_or l i 0 ∷ take k (drop j l)
word_next l i j k e h = rw (e, add-one, drop-cons l i 0)

six_words : (l : List ℕ) (i : ℕ) → i + 6 ≤ length l
    → take 6 (drop i l) ≡ get_or l i 0 ∷ get_or l (i + 1) 0 ∷ get_or l (i + 2) 0 ∷ get_or l (i + 3) 0 ∷ get_or l (i + 4) 0 ∷ get_or l (i + 5) 0 ∷ []
six_words l i h =
    word_next l i (i + 1) 5 refl (omega arith)
    ∙ ap (λ (rest : List ℕ). get_or l i 0 ∷ rest)
    (word_next l (i + 1) (i + 2) 4 (omega arith) (omega arith)
    ∙ ap (λ (rest : List ℕ). get_or l (i + 1) 0 ∷ rest)
    (word_next l (i + 2) (i + 3) 3 (omega arith) (omega arith)
    ∙ ap (λ (rest : List ℕ). get_or l (i + 2) 0 ∷ rest)
    (word_next l (i + 3) (i + 4) 2 (omega arith) (omega arith)
    ∙ ap (λ (rest : List ℕ). get_or l (i + 3) 0 ∷ rest)
    (word_next l (i + 4) (i + 5) 1 (omega arith) (omega arith)
    ∙ ap (λ (rest : List ℕ). get_or l (i + 4) 0 ∷ rest)
    (word_next l (i + 5) (i + 6) 0 (omega arith) (omega arith))))))

module _ (registers nodes entry : ℕ) (table : List ℕ) where
  pub runnable-passed : runnable_check registers nodes entry table ≡ given tt → Passed runnable registers nodes entry table
  unfolding runnable_check
  runnable-passed e = table-passed runnable registers nodes entry table e

  source_parts : source_check registers nodes entry table ≡ given tt
      → (table_check source registers nodes entry table ≡ given tt) × (reach_check nodes entry table ≡ given tt)
  unfolding source_check
  source_parts e = let parts = and_given (table_check source registers nodes entry table) _ e in (parts.1, parts.2)

  pub source-passed : source_check registers nodes entry table ≡ given tt → Passed source registers nodes entry table
  source-passed e = table-passed source registers nodes entry table (source_parts e).0

  -- an accepted source is runnable
  pub source-runnable : source_check registers nodes entry table ≡ given tt → runnable_check registers nodes entry table ≡ given tt
  unfolding runnable_check
  source-runnable e =
      let p = source-passed e in
      table_given runnable registers nodes entry table
      (record {
        some_registers = p.some_registers;
        few_registers = omega arith;
        some_nodes = p.some_nodes;
        few_nodes = omega arith;
        room = p.room;
        entry_in = p.entry_in;
        in_order = λ i h. fault-at_more 7 8 registers nodes (omega arith) table i (p.in_order i h);
      })

  pub runnable_facts : runnable_check registers nodes entry table ≡ given tt → RunnableGraph registers nodes entry (node_at table)
  runnable_facts e =
      let p = runnable-passed e in
      record {
        some_registers = p.some_registers;
        few_registers = p.few_registers;
        few_nodes = p.few_nodes;
        entry_in = p.entry_in;
        node_in = table_node_in runnable registers nodes entry table p (omega arith);
      }

  pub runnable_room : runnable_check registers nodes entry table ≡ given tt → 6 * nodes ≤ length table
  runnable_room e = (runnable-passed e).room

  -- the row of a node holds just the node's words
  pub row_words : runnable_check registers nodes entry table ≡ given tt → (n : ℕ) → n < nodes → words_of (node_at table n) ≡ take 6 (drop (6 * n) table)
  unfolding node_at
  row_words e n inside =
      let p = runnable-passed e in
      (node_row runnable registers nodes entry table p n inside (omega arith)).words ∙ sym (six_words table (6 * n) (omega arith))

  -- the same, word by word
  pub row_word : runnable_check registers nodes entry table ≡ given tt → (n j : ℕ) → n < nodes → j < 6 → get_or table (6 * n + j) 0 ≡ get_or (words_of (node_at table n)) j 0
  row_word e n j inside word = rw (row_words e n inside, get_or-take, get_or-drop)

  source-marked : source_check registers nodes entry table ≡ given tt → (n : ℕ) → n < nodes → marked (reached (node_at table) nodes entry) n ≡ true
  unfolding reach_check
  source-marked e n inside = unmarked_none (reached (node_at table) nodes entry) nodes 0 (source_parts e).1 n (omega arith) (omega arith)

  -- every node of a source is reached by a path with no more edges than there are nodes
  pub path_short : source_check registers nodes entry table ≡ given tt → (n : ℕ) → n < nodes
      → (edges : ℕ) × (edges ≤ nodes) × PathIn (node_at table) entry edges n
  path_short e n inside = marked_short (node_at table) nodes entry n (source-marked e n inside)

  pub source_facts : source_check registers nodes entry table ≡ given tt → SourceGraph registers nodes entry (node_at table)
  source_facts e =
      let p = source-passed e in
      record {
        some_registers = p.some_registers;
        few_registers = p.few_registers;
        few_nodes = p.few_nodes;
        entry_in = p.entry_in;
        node_in = table_node_in source registers nodes entry table p (omega arith);
        no_catch = table_no_catch source registers nodes entry table p (omega arith);
        path = λ n inside. path_of (path_short e n inside).2;
      }

  pub source_room : source_check registers nodes entry table ≡ given tt → 6 * nodes ≤ length table
  source_room e = (source-passed e).room
