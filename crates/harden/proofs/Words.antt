-- Every word of a hardened table is a 32-bit word, where those of the source are and the plan's are.
-- Assumes nothing.
use mathlib.Core.Path.{◌≡◌, refl}
use mathlib.Core.Bool.{Bool, true, false, cond}
use mathlib.Core.List.{List, [], ◌∷◌}
use Prim.Native.Nat.{ℕ, zero, suc, ◌+◌, ◌*◌, ◌^◌, ◌≤◌, ◌<◌}
use native.Mathlib.Omega.{arith}
use lib.Bits.{xor_lt}
use lib.ListN.{length, drop}
use Rattle.words.specs.Answer.{Answer, given, refused, written}
use Rattle.words.specs.Buffer.{over}
use Rattle.words.proofs.AllWords.{AllWords, words_append, words_take, words_drop}
use Rattle.graph.specs.Nodes.{Node, go, branch, ret, stop, const, op, input, output, register, constant, words_of}
use Rattle.graph.specs.Accepted.{NodeIn, SourceGraph}
use Rattle.graph.specs.Checks.{source_check}
use Rattle.graph.specs.declared.Header.{Header}
use Rattle.graph.proofs.Facts.{and_given, source_facts, source-runnable, row_words}
use Rattle.harden.specs.Blocks.{signature, block_head, rank}
use Rattle.harden.specs.Hardened.{Source, prepare, update, check, branch_group, crossing_group, group_of, own_row, sign, crossing, group_at, source_rows, group_rows, first_row, hardened_rows, hardened_table, table_of, source_of, harden_answer, harden_output}
use Rattle.harden.specs.Passes.{aimed}
use Rattle.harden.proofs.Count.{group_bound}
use Rattle.harden.proofs.Writes.{table-append}
use Rattle.harden.proofs.Ranks.{rank_bound}
use Rattle.harden.proofs.Signatures.{head_in_lem}

-- rows of words make a table of words
abbrev AllRows : List Node → Type 0
AllRows [] = Unit {0}
AllRows (row ∷ rows) = AllWords (words_of row) × AllRows rows

rows_words : (rows : List Node) → AllRows rows → AllWords (table_of rows)
rows_words [] all = tt
rows_words (row ∷ rows) (a, all) = words_append (words_of row) (table_of rows) a (rows_words rows all)

either_word : (test : Bool) (a b : ℕ) → a < 2 ^ 32 → b < 2 ^ 32 → cond test a b < 2 ^ 32
either_word true a b h k = h
either_word false a b h k = k

-- a node with other targets
aimed_words : (first second : ℕ) (node : Node) → first < 2 ^ 32 → second < 2 ^ 32 → AllWords (words_of node) → AllWords (words_of (aimed first second node))
aimed_words first second (go (const d k) next) h k< (p, (q, (r, (t, u)))) = (p, (q, (r, (h, u))))
aimed_words first second (go (op o d a b) next) h k< (p, (q, (r, (s, (t, (u, v)))))) = (p, (q, (r, (s, (t, (h, v))))))
aimed_words first second (go (input d) next) h k< (p, (q, (r, u))) = (p, (q, (h, u)))
aimed_words first second (go (output port a) next) h k< (p, (q, (r, (t, u)))) = (p, (q, (r, (h, u))))
aimed_words first second (branch c a (register b) t f) h k< (p, (q, (r, (s, (u, (v, w)))))) = (p, (q, (r, (s, (h, (k<, w))))))
aimed_words first second (branch c a (constant k) t f) h k< (p, (q, (r, (s, (u, (v, w)))))) = (p, (q, (r, (s, (h, (k<, w))))))
aimed_words first second (ret a) h k< all = all
aimed_words first second stop h k< all = all

own_words : (registers nodes e : ℕ) (crossed : Bool) (node : Node) → e < 4096 → nodes ≤ 256 → NodeIn registers nodes node → AllWords (words_of node)
    → AllWords (words_of (own_row e crossed node))
own_words registers nodes e crossed (go action next) h few (a, next<) all =
    aimed_words (cond crossed e next) 0 (go action next) (either_word crossed e next (omega arith) (omega arith)) (omega arith) all
own_words registers nodes e crossed (branch c a b t f) h few inside all = aimed_words e (e + 1) (branch c a b t f) (omega arith) (omega arith) all
own_words registers nodes e crossed (ret a) h few inside all = all
own_words registers nodes e crossed stop h few inside all = all

module _ (s : Source) (ok : SourceGraph s.registers s.nodes s.entry s.graph)
    (small : (r : ℕ) → r < 256 → s.plan r < 2 ^ 32) (held : (n : ℕ) → n < s.nodes → AllWords (words_of (s.graph n))) where
  sign_word : (n : ℕ) → n < s.nodes → sign s n < 2 ^ 32
  unfolding sign signature block_head
  sign_word n h =
      let head = block_head s.graph s.nodes s.entry n in
      let low : head < s.nodes = head_in_lem s.graph s.nodes s.entry (omega arith) s.nodes n h in
      small (rank s.graph s.nodes s.entry head) (omega (arith, ok.few_nodes, rank_bound s.graph s.nodes s.entry head))

  prepare_words : (from to next : ℕ) → from < 2 ^ 32 → to < 2 ^ 32 → next < 4096 → AllWords (words_of (prepare s.registers from to next))
  prepare_words from to next a b h = omega (arith, ok.few_registers, xor_lt 32 from to a b)

  update_words : (next : ℕ) → next < 4096 → AllWords (words_of (update s.registers next))
  update_words next h = omega (arith, ok.few_registers)

  check_words : (word target : ℕ) → word < 2 ^ 32 → target < s.nodes → AllWords (words_of (check s.registers word (s.nodes + 1) target))
  check_words word target a h = omega (arith, ok.few_registers, ok.few_nodes)

  group_words : (n e : ℕ) (crossed : Bool) (node : Node) → n < s.nodes → e < 4000 → NodeIn s.registers s.nodes node → AllWords (words_of node)
      → AllWords (table_of (group_of s.registers (s.nodes + 1) e (sign s) crossed n node))
  group_words n e crossed (branch c a b t f) n< e< (c<, a<, b<, t<, f<) all =
      let here = sign_word n n< in
      let there = sign_word t t< in
      let other = sign_word f f< in
      rows_words (branch_group s.registers (s.nodes + 1) e (sign s n) c a b t f (sign s t) (sign s f)) (
        prepare_words _ _ _ here there (omega arith),
        (
          prepare_words _ _ _ here other (omega arith),
          (
            aimed_words (e + 3) (e + 5) (branch c a b t f) (omega arith) (omega arith) all,
            (update_words _ (omega arith), (check_words _ _ there t<, (update_words _ (omega arith), (check_words _ _ other f<, tt)))),
          ),
        ),
      )
  group_words n e true (go action l) n< e< (a, l<) all =
      let here = sign_word n n< in
      let there = sign_word l l< in
      rows_words (crossing_group s.registers (s.nodes + 1) e (sign s n) l (sign s l))
      (prepare_words _ _ _ here there (omega arith), (update_words _ (omega arith), (check_words _ _ there l<, tt)))
  group_words n e false (go action l) n< e< inside all = tt
  group_words n e crossed (ret a) n< e< inside all = tt
  group_words n e crossed stop n< e< inside all = tt

  source_rows_words : (n : ℕ) → n ≤ s.nodes → AllWords (table_of (source_rows s n))
  unfolding source_rows
  source_rows_words zero h = tt
  source_rows_words (suc n) h =
      let row = own_row (group_at s n) (crossing s n) (s.graph n) in
      let small-group : group_at s n < 4096 = omega (arith, ok.few_nodes, group_bound s n) in
      rw (table-append (source_rows s n) (row ∷ []))
      (words_append (table_of (source_rows s n)) (table_of (row ∷ [])) (source_rows_words n (omega arith))
      (rows_words (row ∷ [])
      (own_words s.registers s.nodes (group_at s n) (crossing s n) (s.graph n) small-group ok.few_nodes (ok.node_in n h) (held n h), tt)))

  group_rows_words : (n : ℕ) → n ≤ s.nodes → AllWords (table_of (group_rows s n))
  unfolding group_rows
  group_rows_words zero h = tt
  group_rows_words (suc n) h =
      let group = group_of s.registers (s.nodes + 1) (group_at s n) (sign s) (crossing s n) n (s.graph n) in
      rw (table-append (group_rows s n) group)
      (words_append (table_of (group_rows s n)) (table_of group) (group_rows_words n (omega arith))
      (group_words n (group_at s n) (crossing s n) (s.graph n) h (omega (arith, ok.few_nodes, group_bound s n)) (ok.node_in n h) (held n h)))

  -- all rows
  pub table_words_lem : AllWords (hardened_table s)
  unfolding hardened_table hardened_rows first_row
  table_words_lem =
      let nodes = s.nodes in
      let first = go (const s.registers (sign s s.entry)) s.entry in
      rw (table-append (source_rows s nodes) (first ∷ stop ∷ group_rows s nodes))
      (words_append (table_of (source_rows s nodes)) (table_of (first ∷ stop ∷ group_rows s nodes)) (source_rows_words nodes (omega arith))
      (words_append (words_of first) (table_of (stop ∷ group_rows s nodes))
      (omega (arith, ok.few_registers, sign_word s.entry ok.entry_in, ok.entry_in, ok.few_nodes))
      (words_append (words_of stop) (table_of (group_rows s nodes)) (omega arith) (group_rows_words nodes (omega arith)))))

-- what `harden` leaves in an output of words is words
module _ (registers nodes entry : ℕ) (table out : List ℕ) (words : AllWords table) where
  accepted_words : source_check registers nodes entry table ≡ given tt → AllWords (hardened_table (source_of registers nodes entry table))
  unfolding source_of
  accepted_words accepted =
      table_words_lem (source_of registers nodes entry table) (source_facts registers nodes entry table accepted) (λ r h. omega arith)
      (λ n h. rw (row_words registers nodes entry table (source-runnable registers nodes entry table accepted) n h)
      (words_take 6 (drop (6 * n) table) (words_drop (6 * n) table words)))

  pub harden_words : AllWords out → AllWords (harden_output registers nodes entry table out)
  unfolding harden_output harden_answer over
  harden_words before = by (harden_answer registers nodes entry table (length out)) refl
    where
      new : List ℕ
      new = hardened_table (source_of registers nodes entry table)

      by : (a : Answer Header) → harden_answer registers nodes entry table (length out) ≡ a → AllWords (written a (λ _. over new out) out)
      by (given k) e =
          words_append new (drop (length new) out) (accepted_words (and_given (source_check registers nodes entry table) _ e).1)
          (words_drop (length new) out before)
      by (refused number place) e = before
