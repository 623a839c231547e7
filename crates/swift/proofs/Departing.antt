-- What one round makes of a source node, in the source's run and in the hardened run.
-- Assumes nothing.
use mathlib.Core.Path.{◌≡◌, refl, sym, ap, ap₂, ◌∙◌}
use mathlib.Core.Bool.{Bool, true, false, cond}
use mathlib.Core.List.{[], ◌∷◌, ◌++◌}
use mathlib.Core.Option.{Option, none, some}
use Prim.Native.Nat.{ℕ, ◌+◌, ◌<◌}
use native.Mathlib.Nat.{add-zero}
use native.Mathlib.Omega.{arith}
use lib.ListN.{length, get_or, take, set, length-set}
use lib.Seq.{take-set-lt, get_or-set_other}
use lib.Dec.{leb}
use Rattle.graph.specs.Nodes.{Node, go, branch, ret, stop, Action, const, op, input, output, Operand}
use Rattle.graph.specs.Accepted.{ActionIn, NodeIn, NoCatch}
use Rattle.harden.specs.Hardened.{Source, is_leader, crossing, group_at, prepare, crossing_group}
use Rattle.harden.proofs.Crossings.{same_sign}
use Rattle.bench.specs.Words.{operate, compare}
use Rattle.bench.specs.Steps.{Machine, going, ended, at, get, operand_of, act, branch_to, counted, stopped, unless}
use Rattle.bench.specs.Runs.{next}
use Rattle.bench.specs.declared.Fault.TheVariants.{Undisturbed}
use Rattle.bench.specs.declared.Outcome.{Outcome}
use Rattle.bench.specs.declared.Outcome.TheVariants.{Returned, Full}
use Rattle.swift.specs.Demand.{stopping}
use Rattle.swift.specs.Trials.{Trial, plain, hardened, hardened_graph}
use Rattle.swift.proofs.Rows.{own_row_lem, extra_row, extra_of}
use Rattle.swift.proofs.Rounds.{step-at}
use Rattle.swift.proofs.Roles.{Accepted, gsr, sign_of, check_for, Along, AtSource, BranchAt, SourceStep, HardenedStep, Moved, Departs, walks, jumps, tests, ends, stops}
use Rattle.swift.proofs.Stepping.{fork, get-along, test_along, both_along, branch_row, way_from}

module _ (t : Trial) (ok : Accepted t.source) where
  abbrev s : Source
  s = t.source

  abbrev R : ℕ
  R = s.registers

  -- what a node with one edge does keeps the two machines along, and leaves GSR alone
  act-along : {σ m : Machine} → Along t σ m → (action : Action) (next next' : ℕ) → ActionIn R action
      → Along t (act t.inputs action next σ) (act t.inputs action next' m)
  act-along {σ} {m} along action next next' = by action
    where
      to : (d v v' : ℕ) → v ≡ v' → d < R → take R (set m.registers d v) ≡ take R (set σ.registers d v')
      to d v v' e h =
          take-set-lt R m.registers d v h ∙ ap₂ (λ l x. set l d x) along.registers e ∙ sym (take-set-lt R σ.registers d v' h)

      full : (d v : ℕ) → length (set m.registers d v) ≡ 64
      full d v = length-set m.registers d v ∙ along.full

      by : (action : Action) → ActionIn R action → Along t (act t.inputs action next σ) (act t.inputs action next' m)
      by (const d k) h = record { registers = to d k k refl h; reads = along.reads; events = along.events; full = full d k }
      by (op o d a b) h =
          let v = operate o (get m a) (get m b) in
          let e : v ≡ operate o (get σ a) (get σ b) = ap₂ (operate o) (get-along t ok along a h.2) (get-along t ok along b h.3) in
          record { registers = to d v (operate o (get σ a) (get σ b)) e h.1; reads = along.reads; events = along.events; full = full d v }
      by (input d) h =
          let v = get_or t.inputs m.reads 0 in
          let e : v ≡ get_or t.inputs σ.reads 0 = ap (λ r. get_or t.inputs r 0) along.reads in
          record { registers = to d v (get_or t.inputs σ.reads 0) e h; reads = ap (◌+ 1) along.reads; events = along.events; full = full d v }
      by (output port a) h = record {
        registers = along.registers;
        reads = along.reads;
        events = ap₂ (λ l x. l ++ (port ∷ x ∷ [])) along.events (get-along t ok along a h.1);
        full = along.full;
      }

  act-gsr : (m : Machine) (action : Action) (next : ℕ) → ActionIn R action → gsr t (act t.inputs action next m) ≡ gsr t m
  act-gsr m (const d k) next h = get_or-set_other m.registers d R k 0 (λ e. omega arith)
  act-gsr m (op o d a b) next h = get_or-set_other m.registers d R (operate o (get m a) (get m b)) 0 (λ e. omega (arith, h.1))
  act-gsr m (input d) next h = get_or-set_other m.registers d R (get_or t.inputs m.reads 0) 0 (λ e. omega arith)
  act-gsr m (output port a) next h = refl

  -- what stops the one stops the other, and is seen one round later
  stopped_alike : {σ m : Machine} → Along t σ m → (action : Action) (next next' : ℕ)
      → stopped t.room (go action next') m ≡ stopped t.room (go action next) σ
  stopped_alike along (const d k) next next' = refl
  stopped_alike along (op o d a b) next next' = refl
  stopped_alike along (input d) next next' = refl
  stopped_alike along (output port a) next next' = ap (λ l. cond (leb (length l + 2) t.room) none (some Full)) along.events

  stopped-stopping : (σ : Machine) (action : Action) (next : ℕ) (o : Outcome) → stopped t.room (go action next) σ ≡ some o → stopping o ≡ 1
  stopped-stopping σ (const d k) next o e = cc
  stopped-stopping σ (op p d a b) next o e = cc
  stopped-stopping σ (input d) next o e = cc
  stopped-stopping σ (output port a) next o e = by (leb (length σ.events + 2) t.room) e
    where
      by : (b : Bool) → cond b none (some Full) ≡ some o → stopping o ≡ 1
      by true e = cc
      by false e = let f : o ≡ Full = cc in rw f

  acted : (σ : Machine) (action : Action) (next : ℕ)
      → ((act t.inputs action next σ).node ≡ next) × ((act t.inputs action next σ).steps ≡ σ.steps + 1) × ((act t.inputs action next σ).branches ≡ σ.branches + 0)
  acted σ (const d k) next = (refl, refl, sym (add-zero σ.branches))
  acted σ (op o d a b) next = (refl, refl, sym (add-zero σ.branches))
  acted σ (input d) next = (refl, refl, sym (add-zero σ.branches))
  acted σ (output port a) next = (refl, refl, sym (add-zero σ.branches))

  module _ {σ m : Machine} (here : AtSource t σ m) where
    abbrev n : ℕ
    n = σ.node

    abbrev along : Along t σ m
    along = here.along

    -- the rows of a crossing edge's group
    crossing_row : (action : Action) (l : ℕ) → s.graph n ≡ go action l → crossing s n ≡ true → (j : ℕ) → j < 3
        → hardened_graph t (group_at s n + j) ≡ get_or (crossing_group R (s.nodes + 1) (group_at s n) (sign_of t n) l (sign_of t l)) j stop
    crossing_row action l is c j h =
        let inside : j < extra_of s n = rw (is, c) h in
        rw (is, c) at (extra_row t n j here.inside inside)

    arrive : (action : Action) (l : ℕ) → s.graph n ≡ go action l → l < s.nodes → (b : Bool) → crossing s n ≡ b → (σ' m' : Machine)
        → SourceStep t σ (at σ' going) → HardenedStep t m (at m' going) → Moved t σ σ' 0 b → Along t σ' m'
        → σ'.node ≡ l → m'.node ≡ cond b (group_at s n) l → gsr t m' ≡ sign_of t n → Departs t σ m
    unfolding crossing
    arrive action l is l< false c σ' m' source hard moved to at-l at-l' signed =
        let inner : is_leader s l ≡ false = rw is at c in
        walks σ' m' source hard moved (record {
          along = to;
          inside = rw at-l l<;
          node = at-l' ∙ sym at-l;
          signed = signed ∙ sym (same_sign s ok.in_order ok.path_short n l action is here.inside inner) ∙ ap (sign_of t) (sym at-l);
        })
    arrive action l is l< true c σ' m' source hard moved to at-l at-l' signed =
        let e = group_at s n in
        let first : hardened_graph t e ≡ prepare R (sign_of t n) (sign_of t l) (e + 1) = rw (add-zero e) at (crossing_row action l is c 0 (omega arith)) in
        jumps σ' m' source hard moved (record {
          along = to;
          inside = rw at-l l<;
          from = sign_of t n;
          update-at = e + 1;
          check-at = e + 2;
          row = ap (hardened_graph t) at-l' ∙ first ∙ ap (λ k. prepare R (sign_of t n) (sign_of t k) (e + 1)) (sym at-l);
          update_row = crossing_row action l is c 1 (omega arith);
          check_row = crossing_row action l is c 2 (omega arith) ∙ ap (check_for t) (sym at-l);
          signed = signed;
        })

    leave : (action : Action) (l : ℕ) → s.graph n ≡ go action l → (b : Bool) → crossing s n ≡ b → Departs t σ m
    leave action l is b c = by (stopped t.room (go action l) σ) refl
      where
        inside : ActionIn R action × (l < s.nodes)
        inside = rw is at (ok.in_order.node_in n here.inside)

        l' : ℕ
        l' = cond b (group_at s n) l

        row : hardened_graph t m.node ≡ go action l'
        row = ap (hardened_graph t) here.node ∙ own_row_lem t n here.inside ∙ rw (c, is)

        σ' : Machine
        σ' = act t.inputs action l σ

        m' : Machine
        m' = act t.inputs action l' m

        source : (o : Option Outcome) → stopped t.room (go action l) σ ≡ o → SourceStep t σ (unless o σ (at σ' going))
        source o e = step-at (plain t) Undisturbed σ (go action l) is ∙ ap (λ o. unless o σ (at σ' going)) e

        hard : (o : Option Outcome) → stopped t.room (go action l) σ ≡ o → HardenedStep t m (unless o m (at m' going))
        hard o e = step-at (hardened t) Undisturbed m (go action l') row ∙ ap (λ o. unless o m (at m' going)) (stopped_alike along action l l' ∙ e)

        by : (o : Option Outcome) → stopped t.room (go action l) σ ≡ o → Departs t σ m
        by (some o) e = stops o (source (some o) e) (hard (some o) e) (stopped-stopping σ action l o e)
        by none e =
            let moved : Moved t σ σ' 0 b = record { one_step = (acted σ action l).1; some_branches = (acted σ action l).2; crossed = c } in
            arrive action l is inside.1 b c σ' m' (source none e) (hard none e) moved
            (act-along along action l l' inside.0) (acted σ action l).0 (acted m action l').0 (act-gsr m action l' inside.0 ∙ here.signed)

    part : (c a then else : ℕ) (b : Operand) → s.graph n ≡ branch c a b then else → (w : Bool) → compare c (get σ a) (operand_of σ b) ≡ w
        → Departs t σ m
    unfolding crossing
    part c a then else b is w h =
        let inside : NodeIn R s.nodes (branch c a b then else) = rw is at (ok.in_order.node_in n here.inside) in
        let from : BranchAt t n = record { here = here.inside; comparison = c; left = a; right = b; then = then; else = else; is_branch = is } in
        let row : hardened_graph t m.node ≡ branch c a b (group_at s n) (group_at s n + 1) = ap (hardened_graph t) here.node ∙ branch_row t ok from in
        let target : ℕ = cond w then else in
        let target< : target < s.nodes = elim w as (λ w. cond w then else < s.nodes) [ true ↦ inside.3 | false ↦ inside.4 ] in
        tests (branch_to σ target) (branch_to m (cond w (group_at s n) (group_at s n + 1)))
        (step-at (plain t) Undisturbed σ (branch c a b then else) is ∙ rw h)
        (step-at (hardened t) Undisturbed m (branch c a b (group_at s n) (group_at s n + 1)) row ∙ rw (test_along t ok along c a b inside.1 inside.2 ∙ h))
        (record { one_step = refl; some_branches = refl; crossed = rw is })
        (record {
          along = both_along t ok along target (cond w (group_at s n) (group_at s n + 1));
          inside = target<;
          n = n;
          w = w;
          way = way_from t ok σ from w h;
          place = fork (group_at s n) w;
          signed = here.signed;
        })

    pub depart : Departs t σ m
    unfolding crossing
    depart = by (s.graph n) refl
      where
        by : (node : Node) → s.graph n ≡ node → Departs t σ m
        by (go action l) is = leave action l is (crossing s n) refl
        by (branch c a b then else) is = part c a then else b is (compare c (get σ a) (operand_of σ b)) refl
        by (ret a) is =
            let a< : a < R = rw is at (ok.in_order.node_in n here.inside) in
            let row : hardened_graph t m.node ≡ ret a = ap (hardened_graph t) here.node ∙ own_row_lem t n here.inside ∙ rw is in
            ends (get σ a) (step-at (plain t) Undisturbed σ (ret a) is)
            (step-at (hardened t) Undisturbed m (ret a) row ∙ ap (λ v. at (counted m) (ended (Returned v))) (get-along t ok along a a<)) (rw is)
        by stop is =
            let catchless : NoCatch stop = rw is at (ok.in_order.no_catch n here.inside) in
            absurd catchless
