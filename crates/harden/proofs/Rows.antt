-- What stands in each row of the hardened table: the source nodes' rows, node N, the catch, and each row of a group.
-- Assumes nothing.
use Prim.Native.Nat.{ℕ, zero, suc, ◌+◌, ◌*◌, ◌≤◌, ◌<◌}
use native.Mathlib.Nat.{add-zero, zero-add, eq-or-lt_of_le, le_of_suc-le-suc, not-suc-le-zero}
use native.Mathlib.Omega.{arith}
use mathlib.Core.Path.{◌≡◌, refl, ap, ◌∙◌}
use mathlib.Core.Bool.{Bool, true, false, cond}
use mathlib.Core.Logic.{⊎_elim}
use mathlib.Core.List.{List, [], ◌∷◌, ◌++◌, append_assoc, append-nil}
use lib.ListN.{length, get_or, get_or-append}
use lib.Seq.{get_or-append-add, get_or_at}
use Rattle.graph.specs.Nodes.{Node, go, branch, ret, stop, Action, const, op, input, output, Operand, register, constant, node_of, node_at, words_of}
use Rattle.harden.specs.Blocks.{crosses}
use Rattle.harden.specs.Hardened.{Source, is_leader, sign, crossing, extra, prepare, update, check, group_of, own_row, own_at, group_from, extra_below, group_at, source_rows, group_rows, first_row, hardened_rows, row_at, hardened_count, table_of, hardened_table}
use Rattle.harden.proofs.Count.{source_rows_length, group_rows_length, rows_length, words_length}

-- a source node's own row, and its group
abbrev pub own : Source → ℕ → Node
own s n = own_at s (group_at s n) n

abbrev pub group : Source → ℕ → List Node
group s n = group_from s (group_at s n) n

-- an element of a list that is longer at the end by one
before : (xs ys : List Node) (n i : ℕ) → length xs ≡ n → i < n → get_or (xs ++ ys) i stop ≡ get_or xs i stop
before xs ys n i e h = get_or-append xs ys stop i (rw e h)

after : (xs ys : List Node) (n j : ℕ) → length xs ≡ n → get_or (xs ++ ys) (n + j) stop ≡ get_or ys j stop
after xs ys n j e = rw e at (get_or-append-add xs ys j stop)

source_row : (s : Source) (m n : ℕ) → n < m → get_or (source_rows s m) n stop ≡ own s n
unfolding source_rows
source_row s zero n h = absurd (not-suc-le-zero h)
source_row s (suc m) n h =
    ⊎_elim
    (λ e. rw e (get_or_at (source_rows s m) (own s m) [] stop m (source_rows_length s m)))
    (λ l. before (source_rows s m) (own s m ∷ []) m n (source_rows_length s m) l ∙ source_row s m n l)
    (eq-or-lt_of_le (le_of_suc-le-suc h))

-- the groups of the nodes below n lie before n's
group-before : (s : Source) (m n : ℕ) → n < m → extra_below s n + extra (crossing s n) (s.graph n) ≤ extra_below s m
unfolding extra_below
group-before s zero n h = absurd (not-suc-le-zero h)
group-before s (suc m) n h =
    ⊎_elim (λ e. rw e (omega arith)) (λ l. omega (arith, group-before s m n l)) (eq-or-lt_of_le (le_of_suc-le-suc h))

group_row : (s : Source) (m n j : ℕ) → n < m → j < extra (crossing s n) (s.graph n) →
    get_or (group_rows s m) (extra_below s n + j) stop ≡ get_or (group s n) j stop
unfolding group_rows
group_row s zero n j h k = absurd (not-suc-le-zero h)
group_row s (suc m) n j h k =
    ⊎_elim
    (λ e. rw e (after (group_rows s m) (group s m) (extra_below s m) j (group_rows_length s m)))
    (λ l.
    before (group_rows s m) (group s m) (extra_below s m) (extra_below s n + j) (group_rows_length s m)
    (omega (arith, group-before s m n l))
    ∙ group_row s m n j l k)
    (eq-or-lt_of_le (le_of_suc-le-suc h))

-- the groups stand behind the catch, one behind another, and fill the rest
pub group_order : (s : Source) (n m : ℕ) → n < m → group_at s n + extra (crossing s n) (s.graph n) ≤ group_at s m
unfolding group_at
group_order s n m h = omega (arith, group-before s m n h)

pub group_above : (s : Source) (n : ℕ) → s.nodes + 2 ≤ group_at s n
unfolding group_at
group_above s n = omega arith

pub group_in : (s : Source) (n : ℕ) → n < s.nodes → group_at s n + extra (crossing s n) (s.graph n) ≤ hardened_count s
unfolding hardened_count
group_in s n h = group_order s n s.nodes h

pub source_in_lem : (s : Source) → s.nodes + 2 ≤ hardened_count s
unfolding hardened_count
source_in_lem s = group_above s s.nodes

-- source nodes keep their numbers
pub row_own : (s : Source) (n : ℕ) → n < s.nodes → row_at s n ≡ own s n
unfolding row_at hardened_rows
row_own s n h =
    before (source_rows s s.nodes) (first_row s ∷ stop ∷ group_rows s s.nodes) s.nodes n (source_rows_length s s.nodes) h ∙ source_row s s.nodes n h

-- row N + j is the j-th after the source nodes
row_after : (s : Source) (j : ℕ) → row_at s (s.nodes + j) ≡ get_or (first_row s ∷ stop ∷ group_rows s s.nodes) j stop
unfolding row_at hardened_rows
row_after s j = after (source_rows s s.nodes) (first_row s ∷ stop ∷ group_rows s s.nodes) s.nodes j (source_rows_length s s.nodes)

pub row_first : (s : Source) → row_at s s.nodes ≡ first_row s
row_first s = rw add-zero at (row_after s 0)

pub row_catch : (s : Source) → row_at s (s.nodes + 1) ≡ stop
row_catch s = row_after s 1

-- the rows of node n's group from its first extra node on
pub row_group : (s : Source) (n j : ℕ) → n < s.nodes → j < extra (crossing s n) (s.graph n) →
    row_at s (group_at s n + j) ≡ get_or (group s n) j stop
unfolding group_at
row_group s n j h k =
    ap (row_at s) (place s.nodes (extra_below s n) j)
    ∙ row_after s (suc (suc (extra_below s n + j)))
    ∙ group_row s s.nodes n j h k
  where
    place : (a b c : ℕ) → a + 2 + b + c ≡ a + suc (suc (b + c))
    place a b c = omega arith

-- a branch with targets t and f: its own row, and each row of its group; e is the first extra node
pub record BranchRows (s : Source) (n c a : ℕ) (b : Operand) (t f : ℕ) : Type 0 where
  pub own_row_lem : row_at s n ≡ branch c a b (group_at s n) (group_at s n + 1)
  pub row_0 : row_at s (group_at s n) ≡ prepare s.registers (sign s n) (sign s t) (group_at s n + 2)
  pub row_1 : row_at s (group_at s n + 1) ≡ prepare s.registers (sign s n) (sign s f) (group_at s n + 2)
  pub row_2 : row_at s (group_at s n + 2) ≡ branch c a b (group_at s n + 3) (group_at s n + 5)
  pub row_3 : row_at s (group_at s n + 3) ≡ update s.registers (group_at s n + 4)
  pub row_4 : row_at s (group_at s n + 4) ≡ check s.registers (sign s t) (s.nodes + 1) t
  pub row_5 : row_at s (group_at s n + 5) ≡ update s.registers (group_at s n + 6)
  pub row_6 : row_at s (group_at s n + 6) ≡ check s.registers (sign s f) (s.nodes + 1) f

pub branch_rows : (s : Source) (n c a : ℕ) (b : Operand) (t f : ℕ) → n < s.nodes → s.graph n ≡ branch c a b t f → BranchRows s n c a b t f
branch_rows s n c a b t f h e =
    record {
      own_row_lem = row_own s n h ∙ ap (own_row (group_at s n) (crossing s n)) e;
      row_0 = rw add-zero at (row 0 (omega arith));
      row_1 = row 1 (omega arith);
      row_2 = row 2 (omega arith);
      row_3 = row 3 (omega arith);
      row_4 = row 4 (omega arith);
      row_5 = row 5 (omega arith);
      row_6 = row 6 (omega arith);
    }
  where
    row : (j : ℕ) → j < 7
        → row_at s (group_at s n + j) ≡ get_or (group_of s.registers (s.nodes + 1) (group_at s n) (sign s) (crossing s n) n (branch c a b t f)) j stop
    row j k =
        rw e at (row_group s n j h (rw e k))

-- the edge of a node that is no branch crosses just where it leads to a leader
pub crossing_edge : (s : Source) (n : ℕ) (action : Action) (next : ℕ) → s.graph n ≡ go action next → crossing s n ≡ is_leader s next
unfolding crossing
crossing_edge s n action next e = ap (crosses (is_leader s)) e

-- an edge that crosses to the leader l
pub record CrossingRows (s : Source) (n : ℕ) (action : Action) (l : ℕ) : Type 0 where
  pub own_row_lem : row_at s n ≡ go action (group_at s n)
  pub row_0 : row_at s (group_at s n) ≡ prepare s.registers (sign s n) (sign s l) (group_at s n + 1)
  pub row_1 : row_at s (group_at s n + 1) ≡ update s.registers (group_at s n + 2)
  pub row_2 : row_at s (group_at s n + 2) ≡ check s.registers (sign s l) (s.nodes + 1) l

pub crossing_rows : (s : Source) (n : ℕ) (action : Action) (l : ℕ) → n < s.nodes → s.graph n ≡ go action l → is_leader s l ≡ true → CrossingRows s n action l
crossing_rows s n action l h e led =
    record {
      own_row_lem = row_own s n h ∙ ap (own_row (group_at s n) (crossing s n)) e ∙ ap (λ (b : Bool). go action (cond b (group_at s n) l)) crossed;
      row_0 = rw add-zero at (row 0 (omega arith));
      row_1 = row 1 (omega arith);
      row_2 = row 2 (omega arith);
    }
  where
    crossed : crossing s n ≡ true
    crossed = crossing_edge s n action l e ∙ led

    row : (j : ℕ) → j < 3 → row_at s (group_at s n + j) ≡ get_or (group_of s.registers (s.nodes + 1) (group_at s n) (sign s) true n (go action l)) j stop
    row j k = rw (e, crossed) at (row_group s n j h (rw (e, crossed) k))

-- all other rows are the source's
pub inside_row : (s : Source) (n : ℕ) (action : Action) (next : ℕ) → n < s.nodes → s.graph n ≡ go action next → is_leader s next ≡ false
    → row_at s n ≡ go action next
inside_row s n action next h e plain =
    row_own s n h
    ∙ ap (own_row (group_at s n) (crossing s n)) e
    ∙ ap (λ (b : Bool). go action (cond b (group_at s n) next)) (crossing_edge s n action next e ∙ plain)

pub ret_row : (s : Source) (n a : ℕ) → n < s.nodes → s.graph n ≡ ret a → row_at s n ≡ ret a
ret_row s n a h e = row_own s n h ∙ ap (own_row (group_at s n) (crossing s n)) e

-- word j of row n of a table
pub word_at : (rows : List Node) (rest : List ℕ) (n j : ℕ) → n < length rows → j < 6 →
    get_or (table_of rows ++ rest) (6 * n + j) 0 ≡ get_or (words_of (get_or rows n stop)) j 0
word_at [] rest n j h k = absurd (not-suc-le-zero h)
word_at (row ∷ rows) rest zero j h k =
    ap (λ (l : List ℕ). get_or l (0 + j) 0) (append_assoc (words_of row) (table_of rows) rest)
    ∙ ap (λ (i : ℕ). get_or (words_of row ++ (table_of rows ++ rest)) i 0) (zero-add j)
    ∙ get_or-append (words_of row) (table_of rows ++ rest) 0 j (rw words_length k)
word_at (row ∷ rows) rest (suc n) j h k =
    ap (λ (l : List ℕ). get_or l (6 * suc n + j) 0) (append_assoc (words_of row) (table_of rows) rest)
    ∙ ap (λ (i : ℕ). get_or (words_of row ++ (table_of rows ++ rest)) i 0) place
    ∙ get_or-append-add (words_of row) (table_of rows ++ rest) (6 * n + j) 0
    ∙ word_at rows rest n j (le_of_suc-le-suc h) k
  where
    place : 6 * suc n + j ≡ length (words_of row) + (6 * n + j)
    place = rw words_length (omega arith)

-- the node that a node's six words are
decoded : (node : Node) →
    node_of (get_or (words_of node) 0 0) (get_or (words_of node) 1 0) (get_or (words_of node) 2 0)
    (get_or (words_of node) 3 0) (get_or (words_of node) 4 0) (get_or (words_of node) 5 0) ≡ node
unfolding node_of
decoded (go (const d k) next) = refl
decoded (go (op o d a b) next) = refl
decoded (go (input d) next) = refl
decoded (go (output port a) next) = refl
decoded (branch c a (register b) t f) = refl
decoded (branch c a (constant k) t f) = refl
decoded (ret a) = refl
decoded stop = refl

pub node_of_table : (rows : List Node) (rest : List ℕ) (n : ℕ) → n < length rows → node_at (table_of rows ++ rest) n ≡ get_or rows n stop
unfolding node_at
node_of_table rows rest n h =
    rw (first, word 1 (omega arith), word 2 (omega arith), word 3 (omega arith), word 4 (omega arith), word 5 (omega arith)) (decoded (get_or rows n stop))
  where
    word : (j : ℕ) → j < 6 → get_or (table_of rows ++ rest) (6 * n + j) 0 ≡ get_or (words_of (get_or rows n stop)) j 0
    word j k = word_at rows rest n j h k

    first : get_or (table_of rows ++ rest) (6 * n) 0 ≡ get_or (words_of (get_or rows n stop)) 0 0
    first = rw add-zero at (word 0 (omega arith))

-- node i of the hardened table, whatever follows it, is row i
pub hardened_node : (s : Source) (rest : List ℕ) (i : ℕ) → i < hardened_count s → node_at (hardened_table s ++ rest) i ≡ row_at s i
unfolding hardened_table row_at
hardened_node s rest i h = node_of_table (hardened_rows s) rest i (rw rows_length h)

pub table_node : (s : Source) (i : ℕ) → i < hardened_count s → node_at (hardened_table s) i ≡ row_at s i
table_node s i h = rw append-nil at (hardened_node s [] i h)
