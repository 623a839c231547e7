-- H = N + 2 + 7B + 3X; a source of at most 256 nodes has H at most 2,050, and has it where all 256 are branches.
-- Assumes nothing.
use Prim.Native.Nat.{ℕ, zero, suc, ◌+◌, ◌*◌, ◌≤◌, ◌<◌}
use native.Mathlib.Omega.{arith}
use mathlib.Core.Path.{◌≡◌, refl}
use mathlib.Core.Bool.{Bool, true, false, cond}
use mathlib.Core.List.{List, [], ◌∷◌}
use lib.ListN.{length, length-append}
use Rattle.graph.specs.Nodes.{Node, go, branch, ret, stop, words_of, const, op, input, output, register, constant}
use Rattle.harden.specs.Hardened.{Source, crossing, extra, is_branch, branch_count, crossing_count, extra_below, group_of, group_at, group_rows, source_rows, hardened_rows, hardened_count, hardened_table, table_of, sign}

-- a node's extra nodes: seven where it is a branch, three where its edge crosses
extra_of_lem : (s : Source) (n : ℕ) (node : Node) → s.graph n ≡ node → extra (crossing s n) node ≡ 7 * cond (is_branch node) 1 0 + 3 * cond (crossing s n) 1 0
unfolding crossing
extra_of_lem s n (branch c a b t f) is = rw is
extra_of_lem s n (go action next) is = by (crossing s n)
  where
    by : (crossed : Bool) → cond crossed 3 0 ≡ 7 * 0 + 3 * cond crossed 1 0
    by true = refl
    by false = refl
extra_of_lem s n (ret a) is = rw is
extra_of_lem s n stop is = rw is

pub at_most_seven : (crossed : Bool) (node : Node) → extra crossed node ≤ 7
at_most_seven crossed (branch c a b t f) = omega arith
at_most_seven true (go action next) = omega arith
at_most_seven false (go action next) = omega arith
at_most_seven crossed (ret a) = omega arith
at_most_seven crossed stop = omega arith

pub extra-counted : (s : Source) (n : ℕ) → extra_below s n ≡ 7 * branch_count s n + 3 * crossing_count s n
unfolding extra_below branch_count crossing_count
extra-counted s zero = refl
extra-counted s (suc n) = omega (arith, extra-counted s n, extra_of_lem s n (s.graph n) refl)

pub extra_bound : (s : Source) (n : ℕ) → extra_below s n ≤ 7 * n
unfolding extra_below
extra_bound s zero = omega arith
extra_bound s (suc n) = omega (arith, extra_bound s n, at_most_seven (crossing s n) (s.graph n))

-- H = N + 2 + 7B + 3X
pub counted : (s : Source) → hardened_count s ≡ s.nodes + 2 + 7 * branch_count s s.nodes + 3 * crossing_count s s.nodes
unfolding hardened_count group_at
counted s = omega (arith, extra-counted s s.nodes)

pub group_bound : (s : Source) (n : ℕ) → group_at s n ≤ s.nodes + 2 + 7 * n
unfolding group_at
group_bound s n = omega (arith, extra_bound s n)

pub count_bound : (s : Source) → s.nodes ≤ 256 → hardened_count s ≤ 2050
unfolding hardened_count
count_bound s few = omega (arith, group_bound s s.nodes)

-- a branch has no crossing edge
branch_crosses : (s : Source) (n : ℕ) (node : Node) → s.graph n ≡ node → is_branch node ≡ true → crossing s n ≡ false
unfolding crossing
branch_crosses s n (branch c a b t f) is h = rw is
branch_crosses s n (go action next) is h = cc
branch_crosses s n (ret a) is h = rw is
branch_crosses s n stop is h = rw is

module _ (s : Source) where
  all_branches : (n : ℕ) → ((k : ℕ) → k < n → is_branch (s.graph k) ≡ true) → (branch_count s n ≡ n) × (crossing_count s n ≡ 0)
  unfolding branch_count crossing_count
  all_branches zero h = (refl, refl)
  all_branches (suc n) h =
      let below : (branch_count s n ≡ n) × (crossing_count s n ≡ 0) = all_branches n (λ k l. h k (omega arith)) in
      let at : is_branch (s.graph n) ≡ true = h n (omega arith) in
      (rw at (omega arith), rw (branch_crosses s n (s.graph n) refl at) (omega arith))

-- 256 nodes, all branches
pub largest : (s : Source) → s.nodes ≡ 256 → ((k : ℕ) → k < s.nodes → is_branch (s.graph k) ≡ true) → hardened_count s ≡ 2050
largest s e h =
    let both : (branch_count s s.nodes ≡ s.nodes) × (crossing_count s s.nodes ≡ 0) = all_branches s s.nodes h in
    omega (arith, counted s)

-- how many rows and words there are
pub group-length : (registers catch e : ℕ) (sign : ℕ → ℕ) (crossed : Bool) (n : ℕ) (node : Node) →
    length (group_of registers catch e sign crossed n node) ≡ extra crossed node
group-length registers catch e sign crossed n (branch c a b t f) = refl
group-length registers catch e sign true n (go action next) = refl
group-length registers catch e sign false n (go action next) = refl
group-length registers catch e sign crossed n (ret a) = refl
group-length registers catch e sign crossed n stop = refl

pub source_rows_length : (s : Source) (n : ℕ) → length (source_rows s n) ≡ n
unfolding source_rows
source_rows_length s zero = refl
source_rows_length s (suc n) = rw length-append (omega (arith, source_rows_length s n))

pub group_rows_length : (s : Source) (n : ℕ) → length (group_rows s n) ≡ extra_below s n
unfolding group_rows extra_below
group_rows_length s zero = refl
group_rows_length s (suc n) =
    rw (length-append, group_rows_length s n, group-length)

pub rows_length : (s : Source) → length (hardened_rows s) ≡ hardened_count s
unfolding hardened_rows hardened_count group_at
rows_length s =
    simp (length-append, source_rows_length, group_rows_length) (omega arith)

pub words_length : (node : Node) → length (words_of node) ≡ 6
words_length (go (const d k) next) = refl
words_length (go (op o d a b) next) = refl
words_length (go (input d) next) = refl
words_length (go (output port a) next) = refl
words_length (branch c a (register b) t f) = refl
words_length (branch c a (constant k) t f) = refl
words_length (ret a) = refl
words_length stop = refl

pub table-length : (rows : List Node) → length (table_of rows) ≡ 6 * length rows
table-length [] = refl
table-length (row ∷ rows) = rw (length-append, words_length) (omega (arith, table-length rows))

pub hardened-length : (s : Source) → length (hardened_table s) ≡ 6 * hardened_count s
unfolding hardened_table
hardened-length s = rw (table-length, rows_length)
