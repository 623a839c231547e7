-- The one step that leads from each role between two source nodes to the next, and the rows that the machine passes there.
-- Assumes nothing.
use mathlib.Core.Path.{◌≡◌, refl, sym, ap, ap₂, ◌∙◌}
use mathlib.Core.Bool.{Bool, true, false, cond}
use Prim.Native.Nat.{ℕ, ◌+◌, ◌≤◌, ◌<◌}
use native.Mathlib.Nat.{add-zero}
use native.Mathlib.Omega.{arith}
use lib.ListN.{length, get_or, length-set}
use lib.Seq.{take-set-le, get_or-take, get_or-set_same, get_or-set_other}
use lib.Bits.{bit_xor}
use borrow.Author.Tests.{eq-eqb}
use Rattle.graph.specs.Nodes.{branch, stop, Operand, register, constant}
use Rattle.graph.specs.Accepted.{OperandIn, NodeIn}
use Rattle.harden.specs.Hardened.{Source, group_at, prepare, update, branch_group}
use Rattle.bench.specs.Words.{operate, compare}
use Rattle.bench.specs.Steps.{Machine, going, at, get, operand_of, setting, branch_to}
use Rattle.bench.specs.Runs.{next}
use Rattle.bench.specs.declared.Fault.TheVariants.{Undisturbed}
use Rattle.swift.specs.Trials.{Trial, hardened, hardened_graph}
use Rattle.swift.proofs.Xor.{xor_cancel}
use Rattle.swift.proofs.Rows.{own_row_lem, extra_row, extra_of}
use Rattle.swift.proofs.Rounds.{step-at}
use Rattle.swift.proofs.Roles.{Accepted, gsr, rts, sign_of, check_for, Along, AtSource, Checking, Updating, Preparing, BranchAt, side, Way, Tested, Doubling, HardenedStep, Onward}

-- e or e + 1
pub fork : (e : ℕ) (w : Bool) → cond w e (e + 1) ≡ e + cond w 0 1
fork e true = sym (add-zero e)
fork e false = refl

module _ (t : Trial) (ok : Accepted t.source) where
  abbrev s : Source
  s = t.source

  abbrev R : ℕ
  R = s.registers

  few : R ≤ 62
  few = ok.in_order.few_registers

  -- ---- registers

  pub get-along : {σ m : Machine} → Along t σ m → (a : ℕ) → a < R → get m a ≡ get σ a
  get-along {σ} {m} along a h =
      sym (get_or-take R m.registers a 0 h) ∙ ap (λ l. get_or l a 0) along.registers ∙ get_or-take R σ.registers a 0 h

  pub operand_along : {σ m : Machine} → Along t σ m → (b : Operand) → OperandIn R b → operand_of m b ≡ operand_of σ b
  operand_along along (register b) h = get-along along b h
  operand_along along (constant k) h = refl

  pub test_along : {σ m : Machine} → Along t σ m → (c a : ℕ) (b : Operand) → a < R → OperandIn R b
      → compare c (get m a) (operand_of m b) ≡ compare c (get σ a) (operand_of σ b)
  test_along along c a b h k = ap₂ (compare c) (get-along along a h) (operand_along along b k)

  pub branch_operand : (m : Machine) (n : ℕ) (b : Operand) → operand_of (branch_to m n) b ≡ operand_of m b
  branch_operand m n (register b) = refl
  branch_operand m n (constant k) = refl

  -- a signature register is set, and the machine goes to another node
  pub set-along : {σ m : Machine} → Along t σ m → (d v next : ℕ) → R ≤ d → Along t σ (setting m d v next)
  set-along {σ} {m} along d v next h = record {
    registers = take-set-le R m.registers d v h ∙ along.registers;
    reads = along.reads;
    events = along.events;
    full = length-set m.registers d v ∙ along.full;
  }

  pub branch_along : {σ m : Machine} → Along t σ m → (n : ℕ) → Along t σ (branch_to m n)
  branch_along along n = record { registers = along.registers; reads = along.reads; events = along.events; full = along.full }

  pub both_along : {σ m : Machine} → Along t σ m → (k n : ℕ) → Along t (branch_to σ k) (branch_to m n)
  both_along along k n = record { registers = along.registers; reads = along.reads; events = along.events; full = along.full }

  pub set_same : {σ m : Machine} → Along t σ m → (d v next : ℕ) → d < 64 → get (setting m d v next) d ≡ v
  set_same {σ} {m} along d v next h = get_or-set_same m.registers d v 0 (rw along.full h)

  pub gsr_kept : (m : Machine) (v next : ℕ) → gsr t (setting m (R + 1) v next) ≡ gsr t m
  gsr_kept m v next = get_or-set_other m.registers (R + 1) R v 0 (λ e. omega arith)

  -- ---- one step from each role

  -- a check of the signature that is in GSR goes on
  pub check_goes : (m : Machine) (n : ℕ) → hardened_graph t m.node ≡ check_for t n → gsr t m ≡ sign_of t n
      → HardenedStep t m (at (branch_to m n) going)
  unfolding compare
  check_goes m n row signed =
      step-at (hardened t) Undisturbed m (check_for t n) row ∙ rw (eq-eqb (gsr t m) (sign_of t n) signed)

  pub check-step : {σ m : Machine} → Checking t σ m → Onward t m (AtSource t σ)
  check-step {σ} {m} c = (
    branch_to m σ.node,
    check_goes m σ.node c.row c.signed,
    record { along = branch_along c.along σ.node; inside = c.inside; node = refl; signed = c.signed },
  )

  -- an update puts the signature into GSR that RTS was prepared for
  pub update_goes : (m : Machine) (check-at g v : ℕ) → length m.registers ≡ 64 → hardened_graph t m.node ≡ update R check-at → gsr t m ≡ g
      → rts t m ≡ bit_xor g v
      → HardenedStep t m (at (setting m R v check-at) going) × (gsr t (setting m R v check-at) ≡ v)
  unfolding operate
  update_goes m check-at g v full row signed prepared =
      let value : operate 4 (gsr t m) (rts t m) ≡ v = ap₂ (λ a b. operate 4 a b) signed prepared ∙ xor_cancel g v in (
        step-at (hardened t) Undisturbed m (update R check-at) row ∙ ap (λ x. at (setting m R x check-at) going) value,
        get_or-set_same m.registers R v 0 (rw full (omega (arith, few))),
      )

  pub update-step : {σ m : Machine} → Updating t σ m → Onward t m (Checking t σ)
  update-step {σ} {m} u =
      let v = sign_of t σ.node in
      let (goes, new) = update_goes m u.check-at u.from v u.along.full u.row u.signed u.prepared in (
        setting m R v u.check-at,
        goes,
        record { along = set-along u.along R v u.check-at (omega arith); inside = u.inside; row = u.check_row; signed = new },
      )

  pub prepare-step : {σ m : Machine} → Preparing t σ m → Onward t m (Updating t σ)
  prepare-step {σ} {m} p =
      let v = bit_xor p.from (sign_of t σ.node) in (
        setting m (R + 1) v p.update-at,
        step-at (hardened t) Undisturbed m (prepare R p.from (sign_of t σ.node) p.update-at) p.row,
        record {
          along = set-along p.along (R + 1) v p.update-at (omega arith);
          inside = p.inside;
          from = p.from;
          check-at = p.check-at;
          row = p.update_row;
          check_row = p.check_row;
          signed = gsr_kept m v p.update-at ∙ p.signed;
          prepared = set_same p.along (R + 1) v p.update-at (omega (arith, few));
        },
      )

  -- ---- the groups of extra nodes

  module _ {n : ℕ} (b : BranchAt t n) where
    abbrev e : ℕ
    e = group_at s n

    pub branch_in : NodeIn R s.nodes (branch b.comparison b.left b.right b.then b.else)
    branch_in = rw b.is_branch at (ok.in_order.node_in n b.here)

    -- the branch's own row, and those of its group
    pub branch_row : hardened_graph t n ≡ branch b.comparison b.left b.right e (e + 1)
    branch_row = own_row_lem t n b.here ∙ rw b.is_branch

    group_row : (j : ℕ) → j < 7
        → hardened_graph t (e + j) ≡ get_or (branch_group R (s.nodes + 1) e (sign_of t n) b.comparison b.left b.right b.then b.else (sign_of t b.then) (sign_of t b.else)) j stop
    group_row j h =
        let inside : j < extra_of s n = rw b.is_branch h in
        rw b.is_branch at (extra_row t n j b.here inside)

    pub prepare_row : (w : Bool) → hardened_graph t (e + cond w 0 1) ≡ prepare R (sign_of t n) (sign_of t (side b w)) (e + 2)
    prepare_row true = group_row 0 (omega arith)
    prepare_row false = group_row 1 (omega arith)

    pub doubled_row : hardened_graph t (e + 2) ≡ branch b.comparison b.left b.right (e + 3) (e + 5)
    doubled_row = group_row 2 (omega arith)

    pub update_row : (w : Bool) → hardened_graph t (cond w (e + 3) (e + 5)) ≡ update R (cond w (e + 4) (e + 6))
    update_row true = group_row 3 (omega arith)
    update_row false = group_row 5 (omega arith)

    pub check_row : (w : Bool) → hardened_graph t (cond w (e + 4) (e + 6)) ≡ check_for t (side b w)
    check_row true = group_row 4 (omega arith)
    check_row false = group_row 6 (omega arith)

  -- a test beside the source goes the source's way
  pub way_along : {σ m : Machine} {n : ℕ} {w : Bool} (way : Way t n w σ) → Along t σ m
      → compare way.from.comparison (get m way.from.left) (operand_of m way.from.right) ≡ w
  way_along way along =
      let inside = branch_in way.from in
      test_along along way.from.comparison way.from.left way.from.right inside.1 inside.2 ∙ way.outcome

  -- the way that a machine at a branch is about to leave it
  abbrev pub way_from : (σ : Machine) {n : ℕ} (b : BranchAt t n) (w : Bool) → compare b.comparison (get σ b.left) (operand_of σ b.right) ≡ w
      → Way t n w (branch_to σ (side b w))
  way_from σ b w h = record { from = b; outcome = ap (compare b.comparison (get σ b.left)) (branch_operand σ (side b w) b.right) ∙ h; target = refl }

  -- after the first test RTS is prepared for the target that it chose
  pub prepare_goes : (m : Machine) {n : ℕ} (b : BranchAt t n) (w : Bool) → m.node ≡ group_at s n + cond w 0 1
      → HardenedStep t m (at (setting m (R + 1) (bit_xor (sign_of t n) (sign_of t (side b w))) (group_at s n + 2)) going)
  prepare_goes m {n} b w place =
      step-at (hardened t) Undisturbed m (prepare R (sign_of t n) (sign_of t (side b w)) (group_at s n + 2)) (ap (hardened_graph t) place ∙ prepare_row b w)

  -- the doubled test goes the source's way
  pub double_goes : {σ m : Machine} {n : ℕ} {w : Bool} → Way t n w σ → Along t σ m → m.node ≡ group_at s n + 2
      → HardenedStep t m (at (branch_to m (cond w (group_at s n + 3) (group_at s n + 5))) going)
  double_goes {σ} {m} {n} {w} way along place =
      let b = way.from in
      let e = group_at s n in
      step-at (hardened t) Undisturbed m (branch b.comparison b.left b.right (e + 3) (e + 5)) (ap (hardened_graph t) place ∙ doubled_row b)
      ∙ rw (way_along way along)

  pub tested_step : {σ m : Machine} → Tested t σ m → Onward t m (Doubling t σ)
  tested_step {σ} {m} q =
      let n = q.n in
      let b = q.way.from in
      let v = bit_xor (sign_of t n) (sign_of t (side b q.w)) in (
        setting m (R + 1) v (group_at s n + 2),
        prepare_goes m b q.w q.place,
        record {
          along = set-along q.along (R + 1) v (group_at s n + 2) (omega arith);
          inside = q.inside;
          n = n;
          w = q.w;
          way = q.way;
          place = refl;
          signed = gsr_kept m v (group_at s n + 2) ∙ q.signed;
          prepared = set_same q.along (R + 1) v (group_at s n + 2) (omega (arith, few)) ∙ ap (λ k. bit_xor (sign_of t n) (sign_of t k)) (sym q.way.target);
        },
      )

  pub doubling_step : {σ m : Machine} → Doubling t σ m → Onward t m (Updating t σ)
  doubling_step {σ} {m} d =
      let e = group_at s d.n in
      let b = d.way.from in (
        branch_to m (cond d.w (e + 3) (e + 5)),
        double_goes d.way d.along d.place,
        record {
          along = branch_along d.along (cond d.w (e + 3) (e + 5));
          inside = d.inside;
          from = sign_of t d.n;
          check-at = cond d.w (e + 4) (e + 6);
          row = update_row b d.w;
          check_row = check_row b d.w ∙ ap (check_for t) (sym d.way.target);
          signed = d.signed;
          prepared = d.prepared;
        },
      )
