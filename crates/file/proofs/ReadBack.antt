-- What the writer writes is read: the words of a runnable graph, one by one, and then the file, whole.
-- Assumes nothing.
use mathlib.Core.Path.{◌≡◌, refl, sym, ap, ◌∙◌}
use mathlib.Core.List.{List, [], ◌∷◌, ◌++◌, append_assoc, append-nil}
use Prim.Native.Nat.{ℕ, zero, suc, ◌+◌, ◌*◌, ◌%◌, ◌^◌, ◌≤◌, ◌<◌}
use native.Mathlib.Nat.{add-zero}
use native.Mathlib.Numerals.{add-one}
use native.Mathlib.Omega.{arith}
use lib.ListN.{length, get_or, take, drop, length-append}
use lib.Seq.{drop-cons, drop-drop, drop-append_seam, length-take-le}
use lib.Dec.{eqb}
use borrow.Author.Tests.{le-leb, lt-ltb, eqb-true}
use Rattle.words.specs.Answer.{given}
use Rattle.words.specs.Number.{reading, number_of}
use Rattle.words.proofs.AllWords.{AllWords, word_at}
use Rattle.words.proofs.Forms.{number_read}
use Rattle.graph.specs.declared.Role.{Role}
use Rattle.graph.specs.declared.Role.TheVariants.{Kind, Operator, Comparison, Port, Register, Target, Free, Spare}
use Rattle.graph.specs.Limits.{runnable}
use Rattle.graph.specs.Kinds.{role_at, fault}
use Rattle.graph.specs.Checks.{runnable_check}
use Rattle.graph.proofs.Ranges.{range_in}
use Rattle.graph.proofs.Passed.{Passed}
use Rattle.graph.proofs.Facts.{runnable-passed}
use Rattle.file.specs.Reading.{Contents, kind_after, count_at, field_at, cell_at, before, cells_from, body_of, contents_of, own}
use Rattle.file.specs.Writing.{cell_of, cells_of, header_of, file_of}
use Rattle.file.proofs.Refusals.{cond_zero}
use Rattle.file.proofs.Carried.{KindOf, kind_next, fault-same}

-- the bytes after those that stand first
after : (bytes xs ys : List ℕ) (at : ℕ) → drop at bytes ≡ xs ++ ys → drop (at + length xs) bytes ≡ ys
after bytes xs ys at e = sym (drop-drop (length xs) at bytes) ∙ rw e (drop-append_seam xs ys)

module _ (registers nodes : ℕ) where
  -- words in order from index i on, in a node of this kind
  abbrev Fit : List ℕ → ℕ → ℕ → Type 0
  Fit [] i kind = Unit {0}
  Fit (w ∷ words) i kind = (fault 8 registers nodes (role_at kind (i % 6)) w ≡ 0) × (w < 2 ^ 32) × Fit words (i + 1) (kind_after (i % 6) w kind)

  module _ (bytes : List ℕ) where
    field_read : (role : Role) (w at : ℕ) (post : List ℕ) → fault 8 registers nodes role w ≡ 0 → w < 2 ^ 32 → drop at bytes ≡ number_of w ++ post →
        field_at bytes (own registers nodes) role at ≡ reading w (at + length (number_of w))
    unfolding field_at
    field_read role w at post order small e = rw (number_read bytes post at w small e, order)

    cell_read : (role : Role) (w at : ℕ) (post : List ℕ) → fault 8 registers nodes role w ≡ 0 → w < 2 ^ 32 → drop at bytes ≡ cell_of role w ++ post →
        cell_at bytes (own registers nodes) role at ≡ reading w (at + length (cell_of role w))
    unfolding cell_at cell_of
    cell_read Kind w at post order small e = field_read Kind w at post order small e
    cell_read Operator w at post order small e = field_read Operator w at post order small e
    cell_read Comparison w at post order small e = field_read Comparison w at post order small e
    cell_read Port w at post order small e = field_read Port w at post order small e
    cell_read Register w at post order small e = field_read Register w at post order small e
    cell_read Target w at post order small e = field_read Target w at post order small e
    cell_read Free w at post order small e = field_read Free w at post order small e
    cell_read Spare w at post order small e = rw (eqb-true w 0 (cond_zero (eqb w 0) 7 order), add-zero)

    cells_read : (words : List ℕ) (i kind at : ℕ) (post : List ℕ) → Fit words i kind → drop at bytes ≡ cells_of words i kind ++ post →
        cells_from bytes (own registers nodes) (length words) i kind at ≡ given (record { words = words; next = at + length (cells_of words i kind) })
    unfolding cells_from cells_of
    cells_read [] i kind at post fit e = rw add-zero
    cells_read (w ∷ words) i kind at post (order, small, fit) e =
        let role : Role = role_at kind (i % 6) in
        let here : List ℕ = cell_of role w in
        let rest : List ℕ = cells_of words (i + 1) (kind_after (i % 6) w kind) in
        let e' : drop at bytes ≡ here ++ (rest ++ post) = e ∙ append_assoc here rest post in
        let end : at + length here + length rest ≡ at + length (here ++ rest) = omega (arith, length-append here rest) in
        rw (cell_read role w at (rest ++ post) order small e')
        (ap (before w) (cells_read words (i + 1) (kind_after (i % 6) w kind) (at + length here) post fit (after bytes here (rest ++ post) at e'))
        ∙ ap (λ (k : ℕ). given (record { words = w ∷ words; next = k })) end)

module _ (registers nodes entry : ℕ) (table : List ℕ) (ok : runnable_check registers nodes entry table ≡ given tt) (all : AllWords table) where
  passed : Passed runnable registers nodes entry table
  passed = runnable-passed registers nodes entry table ok

  in_order : (i kind : ℕ) → i < 6 * nodes → KindOf table i kind → fault 8 registers nodes (role_at kind (i % 6)) (get_or table i 0) ≡ 0
  in_order i kind l k = sym (fault-same registers nodes table i kind k) ∙ passed.in_order i l

  fit : (left i kind : ℕ) → i + left ≡ 6 * nodes → KindOf table i kind → Fit registers nodes (take left (drop i table)) i kind
  fit zero i kind count k = tt
  fit (suc left) i kind count k =
      let l : i < length table = omega (arith, passed.room) in
      rw (drop-cons table i 0 l, ← add-one i) (
        in_order i kind (omega arith) k,
        word_at table i all,
        fit left (i + 1) (kind_after (i % 6) (get_or table i 0) kind) (omega arith) (kind_next table i kind k),
      )

  abbrev bytes : List ℕ
  bytes = file_of registers nodes entry table

  abbrev cells : List ℕ
  cells = cells_of (take (6 * nodes) table) 0 0

  -- where N, the entry and the words begin
  abbrev at_nodes : ℕ
  at_nodes = 0 + length (number_of registers)

  abbrev at_entry : ℕ
  at_entry = at_nodes + length (number_of nodes)

  abbrev first : ℕ
  first = at_entry + length (number_of entry)

  registers_there : drop 0 bytes ≡ number_of registers ++ (number_of nodes ++ (number_of entry ++ cells))
  unfolding file_of header_of
  registers_there =
      append_assoc (number_of registers ++ number_of nodes) (number_of entry) cells
      ∙ append_assoc (number_of registers) (number_of nodes) (number_of entry ++ cells)

  nodes_there : drop at_nodes bytes ≡ number_of nodes ++ (number_of entry ++ cells)
  nodes_there = after bytes (number_of registers) (number_of nodes ++ (number_of entry ++ cells)) 0 registers_there

  entry_there : drop at_entry bytes ≡ number_of entry ++ cells
  entry_there = after bytes (number_of nodes) (number_of entry ++ cells) at_nodes nodes_there

  cells_there : drop first bytes ≡ cells ++ []
  cells_there = after bytes (number_of entry) cells at_entry entry_there ∙ sym (append-nil cells)

  -- the words end where the file does
  end : first + length cells ≡ length bytes
  unfolding file_of header_of
  end =
      let whole : length bytes ≡ length (number_of registers ++ number_of nodes ++ number_of entry) + length cells =
      length-append (number_of registers ++ number_of nodes ++ number_of entry) cells in
      omega (arith, whole, length-append (number_of registers ++ number_of nodes) (number_of entry), length-append (number_of registers) (number_of nodes))

  abbrev contents : Contents
  contents = record { header = record { registers = registers; nodes = nodes; entry = entry }; words = take (6 * nodes) table }

  body_read : body_of bytes (own registers nodes) at_entry ≡ given contents
  unfolding body_of
  body_read =
      let small : entry < 2 ^ 32 = omega (arith, passed.entry_in, passed.few_nodes) in
      let e = field_read registers nodes bytes Target entry at_entry cells (rw (lt-ltb entry nodes passed.entry_in)) small entry_there in
      let c = cells_read registers nodes bytes (take (6 * nodes) table) 0 0 first [] (fit (6 * nodes) 0 0 (omega arith) (λ n. absurd (n refl))) cells_there in
      let count : length (take (6 * nodes) table) ≡ 6 * nodes = length-take-le (6 * nodes) table passed.room in
      let whole : length bytes ≤ first + length cells = omega (arith, end) in
      rw (e, rw count at c, le-leb (length bytes) (first + length cells) whole)

  -- the file, read into a table with room
  pub file_contents : (room : ℕ) → 6 * nodes ≤ room →
      contents_of (file_of registers nodes entry table) room
      ≡ given (record { header = record { registers = registers; nodes = nodes; entry = entry }; words = take (6 * nodes) table })
  unfolding contents_of count_at
  file_contents room fits =
      let r = number_read bytes (number_of nodes ++ (number_of entry ++ cells)) 0 registers (omega (arith, passed.few_registers)) registers_there in
      let n = number_read bytes (number_of entry ++ cells) at_nodes nodes (omega (arith, passed.few_nodes)) nodes_there in
      let few_registers = range_in 1 64 registers passed.some_registers passed.few_registers in
      let few_nodes = range_in 1 2050 nodes passed.some_nodes passed.few_nodes in
      rw (r, few_registers, n, few_nodes, le-leb (6 * nodes) room fits) body_read
