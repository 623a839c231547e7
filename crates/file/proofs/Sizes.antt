-- How many bytes a number may take by its role, and where in a file a word of a node stands at the latest.
-- Assumes nothing.
use mathlib.Core.Path.{◌≡◌, refl}
use Prim.Native.Nat.{ℕ, zero, suc, ◌+◌, ◌*◌, ◌/◌, ◌%◌, ◌≤◌}
use native.Mathlib.Decide.{ℕ_discrete}
use native.Mathlib.Omega.{arith}
use borrow.Author.Tests.{eq-eqb, ne_eqb}
use Rattle.graph.specs.declared.Role.{Role}
use Rattle.graph.specs.declared.Role.TheVariants.{Kind, Operator, Comparison, Port, Register, Target, Free, Spare}
use Rattle.graph.specs.Kinds.{layouts, role_at}
use Rattle.file.specs.Reading.{kind_after}

-- the most bytes that a word takes in a role
abbrev pub size : Role → ℕ
size Kind = 1
size Operator = 1
size Comparison = 1
size Port = 2
size Register = 1
size Target = 2
size Free = 5
size Spare = 0

-- the most bytes that the words of a node take before a word
unfoldable pub used : ℕ → ℕ → ℕ
used kind zero = 0
used kind (suc word) = used kind word + size (role_at kind word)

used-suc : (kind word : ℕ) → used kind (suc word) ≡ used kind word + size (role_at kind word)
unfolding used
used-suc kind word = refl

-- the kind is one byte
pub used_one : (kind : ℕ) → (used kind 0 ≡ 0) × (used kind 1 ≡ 1)
unfolding role_at used
used_one kind = (refl, refl)

-- how far into its node a word in a role begins at the latest
abbrev pub reach : Role → ℕ
reach Kind = 0
reach Operator = 1
reach Comparison = 1
reach Port = 1
reach Register = 4
reach Target = 10
reach Free = 3
reach Spare = 10

-- the words 1 to 5 of a node, and its end: the longest is a branch of kind 4, with 1 + 1 + 1 + 5 + 2 + 2 bytes
abbrev Row : ℕ → Type 0
Row kind =
    (used kind 1 ≤ reach (role_at kind 1))
    × (used kind 2 ≤ reach (role_at kind 2))
    × (used kind 3 ≤ reach (role_at kind 3))
    × (used kind 4 ≤ reach (role_at kind 4))
    × (used kind 5 ≤ reach (role_at kind 5))
    × (used kind 6 ≤ 12)

used_row : (kind : ℕ) → Row kind
unfolding layouts role_at used
used_row zero = omega arith
used_row (suc zero) = omega arith
used_row (suc (suc zero)) = omega arith
used_row (suc (suc (suc zero))) = omega arith
used_row (suc (suc (suc (suc zero)))) = omega arith
used_row (suc (suc (suc (suc (suc zero))))) = omega arith
used_row (suc (suc (suc (suc (suc (suc zero)))))) = omega arith
used_row (suc (suc (suc (suc (suc (suc (suc zero))))))) = omega arith
used_row (suc (suc (suc (suc (suc (suc (suc (suc kind)))))))) = omega arith

pub used_role : (kind word : ℕ) → word ≤ 5 → used kind word ≤ reach (role_at kind word)
used_role kind zero h = omega (arith, used_one kind)
used_role kind (suc zero) h = (used_row kind).0
used_role kind (suc (suc zero)) h = (used_row kind).1
used_role kind (suc (suc (suc zero))) h = (used_row kind).2
used_role kind (suc (suc (suc (suc zero)))) h = (used_row kind).3
used_role kind (suc (suc (suc (suc (suc zero))))) h = (used_row kind).4
used_role kind (suc (suc (suc (suc (suc (suc word)))))) h = absurd (omega arith)

pub reach_most : (role : Role) → reach role ≤ 10
reach_most Kind = omega arith
reach_most Operator = omega arith
reach_most Comparison = omega arith
reach_most Port = omega arith
reach_most Register = omega arith
reach_most Target = omega arith
reach_most Free = omega arith
reach_most Spare = omega arith

-- word i of a table stands here at the latest, when the first stands at `first`
abbrev pub Here : ℕ → ℕ → ℕ → ℕ → Type 0
Here first i kind at = at ≤ first + 12 * (i / 6) + used kind (i % 6)

pub here_first : (first : ℕ) → Here first 0 0 first
unfolding used
here_first first = omega arith

-- so does the word after it
pub here_next : (first i kind at v next : ℕ) → Here first i kind at → next ≤ at + size (role_at kind (i % 6)) →
    Here first (i + 1) (kind_after (i % 6) v kind) next
here_next first i kind at v next h n = by (ℕ_discrete (i % 6) 0) (ℕ_discrete (i % 6) 5)
  where
    by : Dec (i % 6 ≡ 0) → Dec (i % 6 ≡ 5) → Here first (i + 1) (kind_after (i % 6) v kind) next
    by (yes z) f =
        let word : (i + 1) % 6 ≡ 1 = omega arith in
        let node : (i + 1) / 6 ≡ i / 6 = omega arith in
        rw (word, node, eq-eqb (i % 6) 0 z) (omega (arith, rw z at h, rw z at n, used_one v, used_one kind, used-suc kind 0))
    by (no z) (yes f) =
        let word : (i + 1) % 6 ≡ 0 = omega arith in
        let node : (i + 1) / 6 ≡ i / 6 + 1 = omega arith in
        rw (word, node, ne_eqb (i % 6) 0 z) (omega (arith, rw f at h, rw f at n, used-suc kind 5, used_row kind))
    by (no z) (no f) =
        let word : (i + 1) % 6 ≡ suc (i % 6) = omega arith in
        let node : (i + 1) / 6 ≡ i / 6 = omega arith in
        rw (word, node, ne_eqb (i % 6) 0 z) (omega (arith, used-suc kind (i % 6)))
