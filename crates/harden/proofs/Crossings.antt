-- A crossing edge is one from a node that is no branch to a leader, even back to the head of its own block; and what blocks say of the
-- signatures of a source with any plan.
-- Assumes nothing.
use Prim.Native.Nat.{ℕ, ◌≤◌, ◌<◌}
use native.Mathlib.Omega.{arith}
use mathlib.Core.Path.{◌≡◌, refl, sym, ap, ◌∙◌}
use mathlib.Core.Logic.{◌↔◌}
use mathlib.Core.Bool.{true, false}
use lib.ListN.{length, get_or}
use Rattle.graph.specs.Nodes.{Node, go, branch, ret, stop, Action, Operand, targets}
use Rattle.graph.specs.Accepted.{SourceGraph}
use Rattle.graph.specs.Paths.{PathIn}
use Rattle.harden.specs.Blocks.{block_head, crosses, signature}
use Rattle.harden.specs.Hardened.{Source, is_leader, sign, crossing, is_branch}
use Rattle.harden.specs.Edges.{branch_target, CrossingEdge, Distinct}
use Rattle.harden.proofs.Edges.{absurd_bool}
use Rattle.harden.proofs.Leaders.{leader_means, inside_block, head_leads}
use Rattle.harden.proofs.Ranks.{signature_apart}
use Rattle.harden.proofs.Rows.{crossing_edge}

-- a node that is no branch has one slot at most, so it has one crossing edge at most
pub plain_slot : (node : Node) (j : ℕ) → is_branch node ≡ false → j < length (targets node) → j ≡ 0
plain_slot (go action next) j plain h = omega arith
plain_slot (branch c a b t f) j plain h = absurd_bool (sym plain)
plain_slot (ret a) j plain h = absurd (omega arith)
plain_slot stop j plain h = absurd (omega arith)

module _ (s : Source) (m : ℕ) where
  crosses_edge : (node : Node) → s.graph m ≡ node → m < s.nodes → crosses (is_leader s) node ≡ true → (l : ℕ) × CrossingEdge s.graph s.nodes s.entry m l
  unfolding is_leader
  crosses_edge (go action next) is h led = (
    next,
    record {
      no_branch = rw is;
      edge = record { inside = h; slot = rw is (omega arith); leads = rw is };
      to = (leader_means s.graph s.nodes s.entry next).0 led;
    },
  )
  crosses_edge (branch c a b t f) is h led = absurd_bool led
  crosses_edge (ret a) is h led = absurd_bool led
  crosses_edge stop is h led = absurd_bool led

  edge_crosses : (node : Node) {l : ℕ} → is_branch node ≡ false → 0 < length (targets node) → get_or (targets node) 0 0 ≡ l
      → is_leader s l ≡ true → crosses (is_leader s) node ≡ true
  edge_crosses (go action next) plain slot leads led = rw leads led
  edge_crosses (branch c a b t f) plain slot leads led = absurd_bool (sym plain)
  edge_crosses (ret a) plain slot leads led = absurd (omega arith)
  edge_crosses stop plain slot leads led = absurd (omega arith)

  -- the test and the crossing edge
  pub crossing_means : m < s.nodes → (crossing s m ≡ true) ↔ ((l : ℕ) × CrossingEdge s.graph s.nodes s.entry m l)
  unfolding crossing is_leader
  crossing_means h = (
    crosses_edge (s.graph m) refl h,
    λ (l, c). edge_crosses (s.graph m) c.no_branch c.edge.slot c.edge.leads ((leader_means s.graph s.nodes s.entry l).1 c.to),
  )

module _ (s : Source) where
  -- both targets of a branch are leaders
  pub targets_lead : (n c a t f : ℕ) (b : Operand) → n < s.nodes → s.graph n ≡ branch c a b t f → (is_leader s t ≡ true) × (is_leader s f ≡ true)
  unfolding is_leader
  targets_lead n c a t f b h is = (
    (leader_means s.graph s.nodes s.entry t).1 (branch_target n 0 (rw is) (record { inside = h; slot = rw is (omega arith); leads = rw is })),
    (leader_means s.graph s.nodes s.entry f).1 (branch_target n 1 (rw is) (record { inside = h; slot = rw is (omega arith); leads = rw is })),
  )

  -- leaders with one signature are one
  pub sign_apart : Distinct s.plan → s.nodes ≤ 256 → (t f : ℕ) → t < s.nodes → f < s.nodes → is_leader s t ≡ true → is_leader s f ≡ true
      → sign s t ≡ sign s f → t ≡ f
  unfolding is_leader sign
  sign_apart = signature_apart s.graph s.nodes s.entry s.plan

  module _ (ok : SourceGraph s.registers s.nodes s.entry s.graph)
      (short : (n : ℕ) → n < s.nodes → (edges : ℕ) × (edges ≤ s.nodes) × PathIn s.graph s.entry edges n) where
    -- a node that is no leader has the signature of the node before it
    pub same_sign : (m n : ℕ) (action : Action) → s.graph m ≡ go action n → m < s.nodes → is_leader s n ≡ false → sign s n ≡ sign s m
    unfolding is_leader sign
    same_sign m n action is h led =
        let n< : n < s.nodes = (rw is at (ok.node_in m h)).1 in
        let i = inside_block s.registers s.nodes s.entry s.graph ok short n n< led in
        let same : m ≡ i.from = i.only m 0 (record { inside = h; slot = rw is (omega arith); leads = rw is }) in
        i.signed s.plan ∙ ap (signature s.plan s.graph s.nodes s.entry) (sym same)

    -- an edge back to the head of its own block crosses
    pub own_head_crosses : (m : ℕ) (action : Action) → m < s.nodes → s.graph m ≡ go action (block_head s.graph s.nodes s.entry m) → crossing s m ≡ true
    unfolding is_leader
    own_head_crosses m action h is =
        crossing_edge s m action (block_head s.graph s.nodes s.entry m) is
        ∙ head_leads s.registers s.nodes s.entry s.graph ok short m h
