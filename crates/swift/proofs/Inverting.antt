-- The second half of demand 3: an inverted branch is caught within five further steps with no read or event in between, but
-- for a doubled test whose two targets are one node, where two steps later the run is exactly the undisturbed one.
-- Assumes nothing.
use mathlib.Core.Path.{◌≡◌, refl, sym, ap, ◌∙◌, subst}
use mathlib.Core.Logic.{◌⊎◌, inl, inr}
use mathlib.Core.Bool.{Bool, true, false, cond, not}
use Prim.Native.Nat.{ℕ, suc, ◌+◌, ◌-◌, ◌≤◌, ◌<◌}
use native.Mathlib.Decide.{ℕ_discrete, dec_lt}
use native.Mathlib.Omega.{arith}
use lib.ListN.{length}
use lib.Bits.{bit_xor}
use borrow.Author.Tests.{eq-eqb, ne_eqb}
use Rattle.graph.specs.Nodes.{Node, go, branch, ret, stop}
use Rattle.harden.specs.Hardened.{Source, is_branch, group_at, update, first_row}
use Rattle.bench.specs.Words.{compare}
use Rattle.bench.specs.Steps.{Machine, going, ended, Progress, at, start, get, operand_of, setting, branch_to, counted}
use Rattle.bench.specs.Runs.{next, after, run_of}
use Rattle.bench.specs.declared.Fault.TheVariants.{Undisturbed, Inverted}
use Rattle.bench.specs.declared.Outcome.TheVariants.{Caught}
use Rattle.harden.proofs.Rows.{own, group_order, group_above}
use Rattle.harden.proofs.Crossings.{sign_apart, targets_lead}
use Rattle.bench.proofs.Rounds.{after-add, after_more, after_front, ended_stays}
use Rattle.bench.proofs.Faults.{unreached_after}
use Rattle.swift.specs.Demand.{soon, TestOf, first, again, OneTarget}
use Rattle.swift.specs.Trials.{Trial, hardened, hardened_graph, hardened_run, AtBranch, Quiet, CaughtAfter, Unchanged, Decided}
use Rattle.swift.proofs.Rows.{own_row_lem, first_row_lem, catch_row, extra_of}
use Rattle.swift.proofs.Rounds.{step-at, between, past_place, inverted_step}
use Rattle.swift.proofs.Roles.{Accepted, gsr, rts, sign_of, check_for, AtSource, Checking, Doubling, BranchAt, side, HardenedStep}
use Rattle.swift.proofs.Stepping.{branch_in, branch_row, prepare_row, update_row, check_row, doubled_row, way_along, test_along, set-along, both_along, set_same, gsr_kept, fork, way_from, check_goes, update_goes, prepare_goes, double_goes}
use Rattle.swift.proofs.Standing.{Standing, starting, at_source, tested, doubling, preparing, updating, checking, standing}

module _ (t : Trial) (ok : Accepted t.source) where
  abbrev s : Source
  s = t.source

  abbrev R : ℕ
  R = s.registers

  -- the hardened run from a machine, undisturbed
  abbrev from : Machine → ℕ → Progress
  from m rounds = after (hardened t) Undisturbed (at m going) rounds

  after-step : (m n : Machine) (rounds : ℕ) → HardenedStep t m (at n going) → from m (suc rounds) ≡ from n rounds
  after-step m n rounds e = after_front (hardened t) Undisturbed (at m going) rounds ∙ ap (λ p. after (hardened t) Undisturbed p rounds) e

  -- ---- to the catch, or past the check

  catches : (m : Machine) → m.node ≡ s.nodes + 1 → from m 1 ≡ at (counted m) (ended Caught)
  unfolding after
  catches m e = step-at (hardened t) Undisturbed m stop (ap (hardened_graph t) e ∙ catch_row t)

  -- an update prepared for another signature than the check's
  wrong_update : (m : Machine) (then n g v : ℕ) → length m.registers ≡ 64 → hardened_graph t m.node ≡ update R then
      → hardened_graph t then ≡ check_for t n
      → gsr t m ≡ g → rts t m ≡ bit_xor g v → (v ≡ sign_of t n → ⊥)
      → from m 3 ≡ at (counted (branch_to (setting m R v then) (s.nodes + 1))) (ended Caught)
  unfolding compare
  wrong_update m then n g v full row then-row signed prepared other =
      let m' = setting m R v then in
      let (goes, new) = update_goes t ok m then g v full row signed prepared in
      let fails : HardenedStep t m' (at (branch_to m' (s.nodes + 1)) going) =
      step-at (hardened t) Undisturbed m' (check_for t n) then-row ∙ rw (ne_eqb (gsr t m') (sign_of t n) (λ e. other (sym new ∙ e))) in
      after-step m m' 2 goes ∙ after-step m' (branch_to m' (s.nodes + 1)) 1 fails ∙ catches (branch_to m' (s.nodes + 1)) refl

  -- an update prepared for the check's signature
  passes : (m : Machine) (then n g : ℕ) → length m.registers ≡ 64 → hardened_graph t m.node ≡ update R then → hardened_graph t then ≡ check_for t n
      → gsr t m ≡ g → rts t m ≡ bit_xor g (sign_of t n) → from m 2 ≡ at (branch_to (setting m R (sign_of t n) then) n) going
  unfolding after
  passes m then n g full row then-row signed prepared =
      let m' = setting m R (sign_of t n) then in
      let (goes, new) = update_goes t ok m then g (sign_of t n) full row signed prepared in
      after-step m m' 1 goes ∙ check_goes t ok m' n then-row new

  -- ---- the run with the branch inverted that it executes at this place

  module _ (place rounds : ℕ) (m m' : Machine) (here : hardened_run t Undisturbed rounds ≡ at m going) (at_place : m.branches ≡ place)
      (wrong : next (hardened t) (Inverted place) (at m going) ≡ at m' going) (counts : m'.branches ≡ m.branches + 1) where
    abbrev begin : Progress
    begin = at (start s.nodes) going

    -- up to the branch the run is the undisturbed one, and after the inverted branch it goes on undisturbed
    until_branch : hardened_run t (Inverted place) rounds ≡ at m going
    unfolding hardened_run run_of
    until_branch =
        let reached : (hardened_run t Undisturbed rounds).machine.branches ≡ place = ap (λ p. p.machine.branches) here ∙ at_place in
        unreached_after (hardened t) place begin rounds (omega arith) ∙ here

    inverted_run : (more : ℕ) → hardened_run t (Inverted place) (rounds + 1 + more) ≡ from m' more
    unfolding hardened_run run_of
    inverted_run more =
        let step : after (hardened t) (Inverted place) begin (rounds + 1) ≡ at m' going =
        after_more (hardened t) (Inverted place) begin rounds ∙ ap (next (hardened t) (Inverted place)) until_branch ∙ wrong in
        after-add (hardened t) (Inverted place) begin (rounds + 1) more
        ∙ ap (λ p. after (hardened t) (Inverted place) p more) step
        ∙ past_place (hardened t) place (at m' going) more (omega arith)

    -- where a later round has made no read and no event, none in between has
    quiet : (later : ℕ) → rounds ≤ later → (hardened_run t (Inverted place) later).machine.reads ≡ m.reads
        → (hardened_run t (Inverted place) later).machine.events ≡ m.events
        → Quiet t place rounds later
    unfolding hardened_run run_of
    quiet later h reads events =
        let on : (k : ℕ) → rounds ≤ k → hardened_run t (Inverted place) k ≡ after (hardened t) (Inverted place) (at m going) (k - rounds) =
        λ k low. ap (after (hardened t) (Inverted place) begin) (omega arith) ∙ after-add (hardened t) (Inverted place) begin rounds (k - rounds)
        ∙ ap (λ p. after (hardened t) (Inverted place) p (k - rounds)) until_branch in
        let both : (k : ℕ) → rounds ≤ k → k ≤ later → ((hardened_run t (Inverted place) k).machine.reads ≡ m.reads) × ((hardened_run t (Inverted place) k).machine.events ≡ m.events) =
        λ k low high. rw (on k low) (between (hardened t) (Inverted place) (at m going) (k - rounds) (later - rounds) (omega arith) (rw (on later h) at reads) (rw (on later h) at events)) in
        record { no_read = λ k low high. rw here (both k low high).0; no_event = λ k low high. rw here (both k low high).1 }

    -- what is caught in few enough rounds is caught soon
    caught_soon : (few : ℕ) (m'' : Machine) → few ≤ soon → from m' few ≡ at m'' (ended Caught) → m''.reads ≡ m.reads → m''.events ≡ m.events
        → CaughtAfter t place rounds
    caught_soon few m'' h e reads events =
        let run : hardened_run t (Inverted place) (rounds + 1 + soon) ≡ at m'' (ended Caught) = inverted_run soon ∙ ended_stays (hardened t) Undisturbed (at m' going) m'' Caught few soon h e in
        record { is_caught = rw run; quiet = quiet (rounds + 1 + soon) (omega arith) (rw run reads) (rw run events) }

    unchanged : (m° : Machine) → next (hardened t) Undisturbed (at m going) ≡ at m° going → from m' 2 ≡ from m° 2 → Unchanged t place rounds
    unfolding hardened_run run_of
    unchanged m° right same later h =
        let more = later - (rounds + 1 + 2) in
        let split : later ≡ rounds + 1 + (2 + more) = omega arith in
        let step : after (hardened t) Undisturbed begin (rounds + 1) ≡ at m° going =
        after_more (hardened t) Undisturbed begin rounds ∙ ap (next (hardened t) Undisturbed) here ∙ right in
        let plain-run : hardened_run t Undisturbed (rounds + 1 + (2 + more)) ≡ from m° (2 + more) =
        after-add (hardened t) Undisturbed begin (rounds + 1) (2 + more) ∙ ap (λ p. after (hardened t) Undisturbed p (2 + more)) step in
        let meet : from m' (2 + more) ≡ from m° (2 + more) =
        after-add (hardened t) Undisturbed (at m' going) 2 more
        ∙ ap (λ p. after (hardened t) Undisturbed p more) same
        ∙ sym (after-add (hardened t) Undisturbed (at m° going) 2 more) in
        ap (hardened_run t (Inverted place)) split ∙ inverted_run (2 + more) ∙ meet ∙ sym plain-run ∙ ap (hardened_run t Undisturbed) (sym split)

  -- ---- the three kinds of branches

  -- what demand 3 says of a branch at this node
  abbrev AnsweredAt : ℕ → ℕ → ℕ → Type 0
  AnsweredAt node place rounds = (OneTarget s node × Unchanged t place rounds) ⊎ ((OneTarget s node → ⊥) × CaughtAfter t place rounds)

  test_place : {n i : ℕ} → TestOf s n i → (i ≡ n) ⊎ (i ≡ group_at s n + 2)
  test_place first = inl refl
  test_place again = inr refl

  -- no two branches have one group
  group_apart : {n k : ℕ} → BranchAt t n → BranchAt t k → group_at s n ≡ group_at s k → n ≡ k
  group_apart {n} {k} b c e = omega (arith, by (dec_lt n k) (dec_lt k n))
    where
      wide : {j : ℕ} → BranchAt t j → extra_of s j ≡ 7
      wide b = rw b.is_branch

      by : Dec (n < k) → Dec (k < n) → (k ≤ n) × (n ≤ k)
      by (yes l) d = absurd (omega (arith, group_order s n k l, wide b))
      by (no d) (yes l) = absurd (omega (arith, group_order s k n l, wide c))
      by (no d) (no d') = (omega arith, omega arith)

  abbrev branch_of : {i : ℕ} (o : OneTarget s i) → BranchAt t o.node
  branch_of o = record { here = o.inside; comparison = o.comparison; left = o.left; right = o.right; then = o.then; else = o.else; is_branch = o.is_branch }

  -- a node that makes a source branch's test compares a source register, and a check compares GSR
  no_test : (i n : ℕ) → hardened_graph t i ≡ check_for t n → OneTarget s i → ⊥
  no_test i n row o =
      let left : o.left < R = (branch_in t ok (branch_of o)).1 in
      let e : R ≡ o.left = by (branch_of o) o.test row in
      omega arith
    where
      by : {k j : ℕ} (b : BranchAt t k) → TestOf s k j → hardened_graph t j ≡ check_for t n → R ≡ b.left
      by b first row = cc (branch_row t ok b)
      by b again row = cc (doubled_row t ok b)

  module _ {n : ℕ} (b : BranchAt t n) where
    -- two targets have two signatures
    apart : (w : Bool) → (b.then ≡ b.else → ⊥) → sign_of t (side b (not w)) ≡ sign_of t (side b w) → ⊥
    apart w other = by w
      where
        same : sign_of t b.then ≡ sign_of t b.else → ⊥
        same e =
            let inside = branch_in t ok b in
            let lead = targets_lead s n b.comparison b.left b.then b.else b.right b.here b.is_branch in
            other (sign_apart s ok.distinct ok.in_order.few_nodes b.then b.else inside.3 inside.4 lead.0 lead.1 e)

        by : (w : Bool) → sign_of t (side b (not w)) ≡ sign_of t (side b w) → ⊥
        by true e = same (sym e)
        by false e = same e

    -- one target has one
    together : b.then ≡ b.else → (u v : Bool) → side b u ≡ side b v
    together e true true = refl
    together e true false = e
    together e false true = sym e
    together e false false = refl

    one_target_lem : b.then ≡ b.else → (i : ℕ) → TestOf s n i → OneTarget s i
    one_target_lem e i test = record {
      node = n;
      inside = b.here;
      test = test;
      comparison = b.comparison;
      left = b.left;
      right = b.right;
      then = b.then;
      else = b.else;
      is_branch = b.is_branch;
      one_node = cc;
    }

    -- a test of the branch at n is one of no other branch
    only : (i : ℕ) → TestOf s n i → OneTarget s i → b.then ≡ b.else
    only i test o = by (test_place test) (test_place o.test)
      where
        k : ℕ
        k = o.node

        same : n ≡ k → b.then ≡ b.else
        same e = cc (b.is_branch, ap s.graph e, o.is_branch, o.one_node)

        by : (i ≡ n) ⊎ (i ≡ group_at s n + 2) → (i ≡ k) ⊎ (i ≡ group_at s k + 2) → b.then ≡ b.else
        by (inl e) (inl f) = same (sym e ∙ f)
        by (inl e) (inr f) = absurd (omega (arith, b.here, group_above s k))
        by (inr e) (inl f) = absurd (omega (arith, o.inside, group_above s n))
        by (inr e) (inr f) = same (group_apart b (branch_of o) (omega arith))

  -- by whether the two targets are one
  by_targets : {place rounds n : ℕ} (b : BranchAt t n) (i : ℕ) → TestOf s n i → (b.then ≡ b.else → Unchanged t place rounds)
      → ((b.then ≡ b.else → ⊥) → CaughtAfter t place rounds) → AnsweredAt i place rounds
  by_targets {place} {rounds} b i test same other = by (ℕ_discrete b.then b.else)
    where
      by : Dec (b.then ≡ b.else) → AnsweredAt i place rounds
      by (yes one) = inl (one_target_lem b one i test, same one)
      by (no two) = inr ((λ o. two (only b i test o)), other two)

  module _ (rounds : ℕ) (m : Machine) (here : hardened_run t Undisturbed rounds ≡ at m going) where
    abbrev place : ℕ
    place = m.branches

    -- the check, inverted, goes to the catch
    at-check : (σ : Machine) → Checking t σ m → AnsweredAt m.node place rounds
    unfolding compare
    at-check σ c =
        let m' = branch_to m (s.nodes + 1) in
        let wrong : next (hardened t) (Inverted place) (at m going) ≡ at m' going =
        inverted_step (hardened t) m 1 R (s.nodes + 1) σ.node _ false c.row (rw (eq-eqb (gsr t m) (sign_of t σ.node) c.signed)) in
        inr (no_test m.node σ.node c.row, caught_soon place rounds m m' here refl wrong refl 1 (counted m') (omega arith) (catches m' refl) refl refl)

    -- the doubled test, inverted, meets the other side's check
    module _ (σ : Machine) (d : Doubling t σ m) where
      abbrev bd : BranchAt t d.n
      bd = d.way.from

      abbrev ed : ℕ
      ed = group_at s d.n

      -- the machine after the doubled test, for either outcome
      abbrev doubled : Bool → Machine
      doubled u = branch_to m (cond u (ed + 3) (ed + 5))

      doubled_wrong : next (hardened t) (Inverted place) (at m going) ≡ at (doubled (not d.w)) going
      doubled_wrong =
          inverted_step (hardened t) m bd.comparison bd.left (ed + 3) (ed + 5) bd.right d.w
          (ap (hardened_graph t) d.place ∙ doubled_row t ok bd) (way_along t ok d.way d.along)

      -- with one target both sides come to it alike
      doubled_joins : bd.then ≡ bd.else → (u : Bool)
          → from (doubled u) 2 ≡ at (branch_to (setting (doubled true) R (sign_of t σ.node) 0) σ.node) going
      doubled_joins one u =
          let there : σ.node ≡ side bd u = d.way.target ∙ together bd one d.w u in
          passes (doubled u) (cond u (ed + 4) (ed + 6)) σ.node (sign_of t d.n) d.along.full (update_row t ok bd u)
          (check_row t ok bd u ∙ ap (check_for t) (sym there)) d.signed d.prepared

      doubled_unchanged : bd.then ≡ bd.else → Unchanged t place rounds
      doubled_unchanged one =
          unchanged place rounds m (doubled (not d.w)) here refl doubled_wrong refl (doubled d.w)
          (double_goes t ok d.way d.along d.place) (doubled_joins one (not d.w) ∙ sym (doubled_joins one d.w))

      doubled_caught : (bd.then ≡ bd.else → ⊥) → CaughtAfter t place rounds
      doubled_caught two =
          let w = not d.w in
          let run = wrong_update (doubled w) (cond w (ed + 4) (ed + 6)) (side bd w) (sign_of t d.n) (sign_of t σ.node) d.along.full
          (update_row t ok bd w) (check_row t ok bd w) d.signed d.prepared (λ q. apart bd d.w two (sym q ∙ ap (sign_of t) d.way.target)) in
          caught_soon place rounds m (doubled w) here refl doubled_wrong refl 3 _ (omega arith) run refl refl

      at-doubled : AnsweredAt m.node place rounds
      at-doubled = by_targets bd m.node (subst (TestOf s d.n) (sym d.place) again) doubled_unchanged doubled_caught

    -- the first test, inverted, prepares the other target's signature
    module _ (σ : Machine) (a : AtSource t σ m) (b : BranchAt t σ.node) where
      abbrev e : ℕ
      e = group_at s σ.node

      abbrev w : Bool
      w = compare b.comparison (get σ b.left) (operand_of σ b.right)

      -- the machine after the first test, and after the preparing node, for either outcome
      abbrev parted : Bool → Machine
      parted u = branch_to m (cond u e (e + 1))

      abbrev difference : Bool → ℕ
      difference u = bit_xor (sign_of t σ.node) (sign_of t (side b u))

      abbrev prepared : Bool → Machine
      prepared u = setting (parted u) (R + 1) (difference u) (e + 2)

      goes : compare b.comparison (get m b.left) (operand_of m b.right) ≡ w
      goes = let inside = branch_in t ok b in test_along t ok a.along b.comparison b.left b.right inside.1 inside.2

      row : hardened_graph t m.node ≡ branch b.comparison b.left b.right e (e + 1)
      row = ap (hardened_graph t) a.node ∙ branch_row t ok b

      first_wrong : next (hardened t) (Inverted place) (at m going) ≡ at (parted (not w)) going
      first_wrong = inverted_step (hardened t) m b.comparison b.left e (e + 1) b.right w row goes

      first_right : HardenedStep t m (at (parted w) going)
      first_right = step-at (hardened t) Undisturbed m (branch b.comparison b.left b.right e (e + 1)) row ∙ rw goes

      prepares : (u : Bool) (more : ℕ) → from (parted u) (suc more) ≡ from (prepared u) more
      prepares u more = after-step (parted u) (prepared u) more (prepare_goes t ok (parted u) b u (fork e u))

      -- with one target the preparing nodes do the same
      first_unchanged : b.then ≡ b.else → Unchanged t place rounds
      first_unchanged one =
          let meet : from (parted (not w)) 2 ≡ from (parted w) 2 =
          prepares (not w) 1
          ∙ ap (λ k. from (setting (parted true) (R + 1) (bit_xor (sign_of t σ.node) (sign_of t k)) (e + 2)) 1) (together b one (not w) w)
          ∙ sym (prepares w 1) in
          unchanged place rounds m (parted (not w)) here refl first_wrong refl (parted w) first_right meet

      first_caught : (b.then ≡ b.else → ⊥) → CaughtAfter t place rounds
      first_caught two =
          let u = not w in
          let along = both_along t ok a.along (side b w) (cond u e (e + 1)) in
          let again = branch_to (prepared u) (cond w (e + 3) (e + 5)) in
          let run = prepares u 4
          ∙ after-step (prepared u) again 3 (double_goes t ok (way_from t ok σ b w refl) (set-along t ok along (R + 1) (difference u) (e + 2) (omega arith)) refl)
          ∙ wrong_update again (cond w (e + 4) (e + 6)) (side b w) (sign_of t σ.node) (sign_of t (side b u))
          (set-along t ok along (R + 1) (difference u) (e + 2) (omega arith)).full (update_row t ok b w) (check_row t ok b w)
          (gsr_kept t ok (parted u) (difference u) (e + 2) ∙ a.signed) (set_same t ok along (R + 1) (difference u) (e + 2) (omega (arith, ok.in_order.few_registers)))
          (apart b w two) in
          caught_soon place rounds m (parted u) here refl first_wrong refl 5 _ (omega arith) run refl refl

      at_first : AnsweredAt m.node place rounds
      at_first = by_targets b m.node (subst (TestOf s σ.node) (sym a.node) first) first_unchanged first_caught

    module _ (branching : is_branch (hardened_graph t m.node) ≡ true) where
      no_branch : (node : Node) → hardened_graph t m.node ≡ node → is_branch node ≡ false → AnsweredAt m.node place rounds
      no_branch node e none =
          let z : ◌≡◌ {A = ℕ} 0 1 = cc (ap is_branch e) in
          absurd (omega arith)

      at_node : (σ : Machine) → AtSource t σ m → (node : Node) → s.graph σ.node ≡ node → AnsweredAt m.node place rounds
      at_node σ a node is = by node is
        where
          row : hardened_graph t m.node ≡ own s σ.node
          row = ap (hardened_graph t) a.node ∙ own_row_lem t σ.node a.inside

          by : (node : Node) → s.graph σ.node ≡ node → AnsweredAt m.node place rounds
          by (branch c l r then else) is = at_first σ a (record { here = a.inside; comparison = c; left = l; right = r; then = then; else = else; is_branch = is })
          by (go action next) is = no_branch _ row (rw is)
          by (ret v) is = no_branch _ row (rw is)
          by stop is = no_branch _ row (rw is)

      by_role : Standing t m → AnsweredAt m.node place rounds
      unfolding start first_row
      by_role (starting e) = no_branch (first_row s) (ap (λ n. hardened_graph t n.node) e ∙ first_row_lem t) refl
      by_role (at_source σ a) = at_node σ a (s.graph σ.node) refl
      by_role (tested σ q) = no_branch _ (ap (hardened_graph t) q.place ∙ prepare_row t ok q.way.from q.w) refl
      by_role (doubling σ d) = at-doubled σ d
      by_role (preparing σ p) = no_branch _ p.row refl
      by_role (updating σ u) = no_branch _ u.row refl
      by_role (checking σ c) = at-check σ c

  -- demand 3, with one branch inverted
  pub answered : (place rounds : ℕ) → AtBranch t place rounds → Decided t place rounds
  answered place rounds x =
      let m = (hardened_run t Undisturbed rounds).machine in
      let here : hardened_run t Undisturbed rounds ≡ at m going = ap (at m) x.under_way in
      rw x.this_place at (by_role rounds m here x.at_branch (standing t ok rounds m here))
