-- The roles in which a hardened machine can stand on its way to the next source node. `σ` is the source's machine that the
-- hardened machine `m` stands beside, or is on its way to.
-- Assumes nothing.
use mathlib.Core.Path.{◌≡◌}
use mathlib.Core.Bool.{Bool, true, false, cond}
use Prim.Native.Nat.{ℕ, ◌+◌, ◌≤◌, ◌<◌}
use lib.ListN.{length, take}
use lib.Bits.{bit_xor}
use Rattle.graph.specs.Nodes.{Node, branch, Operand}
use Rattle.graph.specs.Paths.{PathIn}
use Rattle.graph.specs.Accepted.{SourceGraph}
use Rattle.harden.specs.Hardened.{Source, sign, crossing, group_at, prepare, update, check}
use Rattle.harden.specs.Edges.{Distinct}
use Rattle.bench.specs.Words.{compare}
use Rattle.bench.specs.Steps.{Machine, going, ended, Progress, at, get, operand_of, counted}
use Rattle.bench.specs.Runs.{next}
use Rattle.bench.specs.declared.Fault.TheVariants.{Undisturbed}
use Rattle.bench.specs.declared.Outcome.{Outcome}
use Rattle.bench.specs.declared.Outcome.TheVariants.{Returned}
use Rattle.swift.specs.Demand.{stopping}
use Rattle.swift.specs.Trials.{Trial, plain, hardened, hardened_graph}

-- what the theorems suppose of a source: accepted, so that a path of no more than N edges reaches each node, and a plan with
-- distinct signatures
pub record Accepted (s : Source) : Type 0 where
  pub in_order : SourceGraph s.registers s.nodes s.entry s.graph
  pub path_short : (n : ℕ) → n < s.nodes → (edges : ℕ) × (edges ≤ s.nodes) × PathIn s.graph s.entry edges n
  pub distinct : Distinct s.plan

-- the signature registers
abbrev pub gsr : Trial → Machine → ℕ
gsr t m = get m t.source.registers

abbrev pub rts : Trial → Machine → ℕ
rts t m = get m (t.source.registers + 1)

abbrev pub sign_of : Trial → ℕ → ℕ
sign_of t n = sign t.source n

-- the check before a source node
abbrev pub check_for : Trial → ℕ → Node
check_for t n = check t.source.registers (sign_of t n) (t.source.nodes + 1) n

-- the same source registers, reads and events, and room for the signature registers
pub record Along (t : Trial) (σ m : Machine) : Type 0 where
  pub registers : take t.source.registers m.registers ≡ take t.source.registers σ.registers
  pub reads : m.reads ≡ σ.reads
  pub events : m.events ≡ σ.events
  pub full : length m.registers ≡ 64

-- at a source node
pub record AtSource (t : Trial) (σ m : Machine) : Type 0 where
  pub along : Along t σ m
  pub inside : σ.node < t.source.nodes
  pub node : m.node ≡ σ.node
  pub signed : gsr t m ≡ sign_of t σ.node

-- at the check before a source node
pub record Checking (t : Trial) (σ m : Machine) : Type 0 where
  pub along : Along t σ m
  pub inside : σ.node < t.source.nodes
  pub row : hardened_graph t m.node ≡ check_for t σ.node
  pub signed : gsr t m ≡ sign_of t σ.node

-- at the update before that check
pub record Updating (t : Trial) (σ m : Machine) : Type 0 where
  pub along : Along t σ m
  pub inside : σ.node < t.source.nodes
  pub from : ℕ
  pub check-at : ℕ
  pub row : hardened_graph t m.node ≡ update t.source.registers check-at
  pub check_row : hardened_graph t check-at ≡ check_for t σ.node
  pub signed : gsr t m ≡ from
  pub prepared : rts t m ≡ bit_xor from (sign_of t σ.node)

-- at the first extra node of a crossing edge
pub record Preparing (t : Trial) (σ m : Machine) : Type 0 where
  pub along : Along t σ m
  pub inside : σ.node < t.source.nodes
  pub from : ℕ
  pub update-at : ℕ
  pub check-at : ℕ
  pub row : hardened_graph t m.node ≡ prepare t.source.registers from (sign_of t σ.node) update-at
  pub update_row : hardened_graph t update-at ≡ update t.source.registers check-at
  pub check_row : hardened_graph t check-at ≡ check_for t σ.node
  pub signed : gsr t m ≡ from

-- a branch of the source
pub record BranchAt (t : Trial) (n : ℕ) : Type 0 where
  pub here : n < t.source.nodes
  pub comparison : ℕ
  pub left : ℕ
  pub right : Operand
  pub then : ℕ
  pub else : ℕ
  pub is_branch : t.source.graph n ≡ branch comparison left right then else

-- its target for an outcome of the test
abbrev pub side : {t : Trial} {n : ℕ} → BranchAt t n → Bool → ℕ
side b w = cond w b.then b.else

-- the way that it is left
pub record Way (t : Trial) (n : ℕ) (w : Bool) (σ : Machine) : Type 0 where
  pub from : BranchAt t n
  pub outcome : compare from.comparison (get σ from.left) (operand_of σ from.right) ≡ w
  pub target : σ.node ≡ side from w

-- after the first test
pub record Tested (t : Trial) (σ m : Machine) : Type 0 where
  pub along : Along t σ m
  pub inside : σ.node < t.source.nodes
  pub n : ℕ
  pub w : Bool
  pub way : Way t n w σ
  pub place : m.node ≡ group_at t.source n + cond w 0 1
  pub signed : gsr t m ≡ sign_of t n

-- at the doubled test
pub record Doubling (t : Trial) (σ m : Machine) : Type 0 where
  pub along : Along t σ m
  pub inside : σ.node < t.source.nodes
  pub n : ℕ
  pub w : Bool
  pub way : Way t n w σ
  pub place : m.node ≡ group_at t.source n + 2
  pub signed : gsr t m ≡ sign_of t n
  pub prepared : rts t m ≡ bit_xor (sign_of t n) (sign_of t σ.node)

-- one round of the source, and of the hardened run
abbrev pub SourceStep : Trial → Machine → Progress → Type 0
SourceStep t σ p = next (plain t) Undisturbed (at σ going) ≡ p

abbrev pub HardenedStep : Trial → Machine → Progress → Type 0
HardenedStep t m p = next (hardened t) Undisturbed (at m going) ≡ p

-- the counts after a source step: one step more, so many branches, and whether the jump crosses
pub record Moved (t : Trial) (σ σ' : Machine) (branches : ℕ) (crosses : Bool) : Type 0 where
  pub one_step : σ'.steps ≡ σ.steps + 1
  pub some_branches : σ'.branches ≡ σ.branches + branches
  pub crossed : crossing t.source σ.node ≡ crosses

-- what one round makes of a source node: the next one, a crossing edge, a first test, an end in a step, or a stop before one
pub data Departs (t : Trial) (σ m : Machine) : Type 0 where
  walks : (σ' m' : Machine) → SourceStep t σ (at σ' going) → HardenedStep t m (at m' going) → Moved t σ σ' 0 false → AtSource t σ' m' → Departs t σ m
  jumps : (σ' m' : Machine) → SourceStep t σ (at σ' going) → HardenedStep t m (at m' going) → Moved t σ σ' 0 true → Preparing t σ' m' → Departs t σ m
  tests : (σ' m' : Machine) → SourceStep t σ (at σ' going) → HardenedStep t m (at m' going) → Moved t σ σ' 1 false → Tested t σ' m' → Departs t σ m
  ends : (value : ℕ) → SourceStep t σ (at (counted σ) (ended (Returned value))) → HardenedStep t m (at (counted m) (ended (Returned value)))
      → crossing t.source σ.node ≡ false → Departs t σ m
  stops : (o : Outcome) → SourceStep t σ (at σ (ended o)) → HardenedStep t m (at m (ended o)) → stopping o ≡ 1 → Departs t σ m

-- one step of the hardened run, to a machine in the next role
abbrev pub Onward : Trial → Machine → (Machine → Type 0) → Type 0
Onward t m Role = (m' : Machine) × HardenedStep t m (at m' going) × Role m'
