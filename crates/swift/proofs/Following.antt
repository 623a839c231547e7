-- The first half of demand 3: the undisturbed hardened run stands after 1 + s + 4b + 3x steps as the source after s, and has
-- ended alike if the source has, else not at all.
-- Assumes nothing.
use mathlib.Core.Path.{◌≡◌, refl, sym, ap, ap₂, ◌∙◌}
use mathlib.Core.Bool.{Bool, true, false, cond, ◌&&◌, and-true, and-false}
use Prim.Native.Nat.{ℕ, zero, suc, ◌+◌, ◌*◌, ◌≤◌}
use native.Mathlib.Nat.{add-zero, zero-add}
use native.Mathlib.Omega.{arith}
use lib.ListN.{replicate, length-set, length-replicate}
use lib.Seq.{take-set-le, get_or-set_same}
use lib.Dec.{ltb}
use borrow.Author.Tests.{lt-ltb, le-ltb}
use Rattle.harden.specs.Hardened.{crossing, first_row}
use Rattle.bench.specs.Steps.{Machine, Status, going, ended, Progress, at, start, setting, counted}
use Rattle.bench.specs.Runs.{settled, next, after, run_of}
use Rattle.bench.specs.declared.Fault.{Fault}
use Rattle.bench.specs.declared.Fault.TheVariants.{Undisturbed}
use Rattle.bench.specs.declared.Outcome.{Outcome}
use Rattle.bench.specs.declared.Outcome.TheVariants.{Returned}
use Rattle.swift.specs.Demand.{crossings, when, stopping}
use Rattle.swift.specs.Trials.{Trial, plain, hardened, source_run, hardened_run, crossed, hardened_steps, beside, Agree, Follows}
use Rattle.swift.proofs.Rows.{first_row_lem}
use Rattle.swift.proofs.Rounds.{step-at, next-ended, steps_going}
use Rattle.swift.proofs.Roles.{Accepted, sign_of, AtSource, Updating, SourceStep, HardenedStep, Moved, Departs, walks, jumps, tests, ends, stops}
use Rattle.swift.proofs.Stepping.{check-step, update-step, prepare-step, tested_step, doubling_step}
use Rattle.swift.proofs.Departing.{depart}

-- ---- rounds of the two runs

module _ (t : Trial) where
  source-next : (rounds : ℕ) (p : Progress) → source_run t rounds ≡ p → source_run t (suc rounds) ≡ next (plain t) Undisturbed p
  unfolding source_run run_of after
  source-next rounds p e = ap (next (plain t) Undisturbed) e

  pub hardened-next : (fault : Fault) (rounds : ℕ) (p : Progress) → hardened_run t fault rounds ≡ p
      → hardened_run t fault (suc rounds) ≡ next (hardened t) fault p
  unfolding hardened_run run_of after
  hardened-next fault rounds p e = ap (next (hardened t) fault) e

  -- the hardened run with its next step
  onward : {m : Machine} (rounds : ℕ) (p : Progress) → hardened_run t Undisturbed rounds ≡ at m going → HardenedStep t m p
      → hardened_run t Undisturbed (suc rounds) ≡ p
  onward rounds p e h = hardened-next Undisturbed rounds (at _ going) e ∙ h

  -- ---- counts

  crossings-step : (rounds : ℕ) (p q : Progress) → source_run t rounds ≡ p → source_run t (suc rounds) ≡ q
      → crossed t (suc rounds) ≡ crossed t rounds + cond (crossing t.source p.machine.node && ltb p.machine.steps q.machine.steps) 1 0
  unfolding crossings
  crossings-step rounds p q e f =
      ap₂ (λ a b. crossed t rounds + cond (crossing t.source a.machine.node && ltb a.machine.steps b.machine.steps) 1 0) e f

  steps_are : (rounds : ℕ) (p : Progress) → source_run t rounds ≡ p
      → hardened_steps t rounds ≡ when p.machine.steps p.machine.branches (crossed t rounds)
  unfolding hardened_steps
  steps_are rounds p e = ap (λ a. when a.machine.steps a.machine.branches (crossed t rounds)) e

  -- a source step is answered by 1 + 4 + 3 hardened steps, the 4 for a branch and the 3 for a crossing jump
  steps_more : (rounds : ℕ) (σ σ' : Machine) (status : Status) (branches : ℕ) (crosses : Bool) → source_run t rounds ≡ at σ going
      → source_run t (suc rounds) ≡ at σ' status
      → Moved t σ σ' branches crosses → hardened_steps t (suc rounds) ≡ hardened_steps t rounds + 1 + 4 * branches + 3 * cond crosses 1 0
  steps_more rounds σ σ' status branches crosses e f moved =
      let up : ltb σ.steps σ'.steps ≡ true = lt-ltb σ.steps σ'.steps (omega arith) in
      let x : crossed t (suc rounds) ≡ crossed t rounds + cond crosses 1 0 =
      crossings-step rounds (at σ going) (at σ' status) e f
      ∙ ap₂ (λ c l. crossed t rounds + cond (c && l) 1 0) moved.crossed up
      ∙ ap (λ c. crossed t rounds + cond c 1 0) (and-true crosses) in
      steps_are (suc rounds) (at σ' status) f ∙ omega (arith, steps_are rounds (at σ going) e)

  -- a round that is no step is answered by none
  steps_same : (rounds : ℕ) (p q : Progress) → source_run t rounds ≡ p → source_run t (suc rounds) ≡ q
      → q.machine ≡ p.machine → hardened_steps t (suc rounds) ≡ hardened_steps t rounds
  steps_same rounds p q e f same =
      let still : ltb p.machine.steps q.machine.steps ≡ false = rw same (le-ltb p.machine.steps p.machine.steps (omega arith)) in
      let x : crossed t (suc rounds) ≡ crossed t rounds =
      crossings-step rounds p q e f
      ∙ ap (λ l. crossed t rounds + cond (crossing t.source p.machine.node && l) 1 0) still
      ∙ ap (λ c. crossed t rounds + cond c 1 0) (and-false (crossing t.source p.machine.node))
      ∙ add-zero (crossed t rounds) in
      steps_are (suc rounds) q f ∙ rw (same, x) (sym (steps_are rounds p e))

-- ---- beside the source

-- both runs going, at one source node; or both ended alike
data Beside (t : Trial) (rounds : ℕ) : Type 0 where
  both_going : (σ m : Machine) → source_run t rounds ≡ at σ going → hardened_run t Undisturbed (hardened_steps t rounds) ≡ at m going → AtSource t σ m
      → Beside t rounds
  both_ended : (σ m : Machine) (o : Outcome) → source_run t rounds ≡ at σ (ended o)
      → hardened_run t Undisturbed (hardened_steps t rounds + stopping o) ≡ at m (ended o)
      → Agree t.source.registers m σ → m.steps ≡ hardened_steps t rounds → Beside t rounds

module _ (t : Trial) (ok : Accepted t.source) where
  abbrev R : ℕ
  R = t.source.registers

  agreed : {σ m : Machine} → AtSource t σ m → Agree R m σ
  agreed here = record { same_node = here.node; same_registers = here.along.registers; same_reads = here.along.reads; same_events = here.along.events }

  -- node N
  abbrev pub entered : Machine
  entered = setting (start t.source.nodes) R (sign_of t t.source.entry) t.source.entry

  pub first_step : HardenedStep t (start t.source.nodes) (at entered going)
  unfolding start first_row
  first_step = step-at (hardened t) Undisturbed (start t.source.nodes) (first_row t.source) (first_row_lem t)

  pub first-source : AtSource t (start t.source.entry) entered
  unfolding start
  first-source =
      let few : R ≤ 62 = ok.in_order.few_registers in
      record {
        along = record {
          registers = take-set-le R (replicate 64 0) R (sign_of t t.source.entry) (omega arith);
          reads = refl;
          events = refl;
          full = length-set (replicate 64 0) R (sign_of t t.source.entry) ∙ length-replicate {A = ℕ} 64 0;
        };
        inside = ok.in_order.entry_in;
        node = refl;
        signed = get_or-set_same (replicate 64 0) R (sign_of t t.source.entry) 0 (rw (length-replicate {A = ℕ} 64 0) (omega arith));
      }

  hardened_steps_lem : (rounds : ℕ) (m : Machine) → hardened_run t Undisturbed rounds ≡ at m going → m.steps ≡ rounds
  unfolding hardened_run run_of start
  hardened_steps_lem rounds m e =
      let on : (hardened_run t Undisturbed rounds).status ≡ going = ap (λ p. p.status) e in
      let counted : (hardened_run t Undisturbed rounds).machine.steps ≡ 0 + rounds = steps_going (hardened t) Undisturbed (start t.source.nodes) rounds on in
      sym (ap (λ p. p.machine.steps) e) ∙ counted ∙ zero-add rounds

  begin : Beside t 0
  unfolding hardened_steps crossings source_run hardened_run run_of after start
  begin = both_going (start t.source.entry) entered refl (onward t 0 (at entered going) refl first_step) first-source

  -- from one source node to the next
  module _ (rounds : ℕ) (σ m : Machine) (se : source_run t rounds ≡ at σ going) (he : hardened_run t Undisturbed (hardened_steps t rounds) ≡ at m going) (here : AtSource t σ m) where
    abbrev r : ℕ
    r = hardened_steps t rounds

    source_to : (p : Progress) → SourceStep t σ p → source_run t (suc rounds) ≡ p
    source_to p e = source-next t rounds (at σ going) se ∙ e

    -- the source is a step further, and so is the hardened run after k rounds in all
    arrived : (σ' : Machine) (branches : ℕ) (crosses : Bool) (k : ℕ) → SourceStep t σ (at σ' going) → Moved t σ σ' branches crosses
        → k ≡ r + 1 + 4 * branches + 3 * cond crosses 1 0
        → (m' : Machine) × (hardened_run t Undisturbed k ≡ at m' going) × AtSource t σ' m' → Beside t (suc rounds)
    arrived σ' branches crosses k s moved e (m', h, there) =
        let sn : source_run t (suc rounds) ≡ at σ' going = source_to (at σ' going) s in
        both_going σ' m' sn (ap (hardened_run t Undisturbed) (steps_more t rounds σ σ' going branches crosses se sn moved ∙ sym e) ∙ h) there

    -- the update and the check
    last_two : (σ' n : Machine) (k : ℕ) → hardened_run t Undisturbed k ≡ at n going → Updating t σ' n
        → (m' : Machine) × (hardened_run t Undisturbed (suc (suc k)) ≡ at m' going) × AtSource t σ' m'
    last_two σ' n k h u =
        let (n₁, s₁, c) = update-step t ok u in
        let (n₂, s₂, there) = check-step t ok c in
        (n₂, onward t (suc k) (at n₂ going) (onward t k (at n₁ going) h s₁) s₂, there)

    on : Departs t σ m → Beside t (suc rounds)
    on (walks σ' m₁ s h moved there) = arrived σ' 0 false (suc r) s moved (omega arith) (m₁, onward t r (at m₁ going) he h, there)
    on (jumps σ' m₁ s h moved p) =
        let (m₂, s₂, u) = prepare-step t ok p in
        let h₂ = onward t (suc r) (at m₂ going) (onward t r (at m₁ going) he h) s₂ in
        arrived σ' 0 true (suc (suc (suc (suc r)))) s moved (omega arith) (last_two σ' m₂ (suc (suc r)) h₂ u)
    on (tests σ' m₁ s h moved q) =
        let (m₂, s₂, d) = tested_step t ok q in
        let (m₃, s₃, u) = doubling_step t ok d in
        let h₂ = onward t (suc r) (at m₂ going) (onward t r (at m₁ going) he h) s₂ in
        let h₃ = onward t (suc (suc r)) (at m₃ going) h₂ s₃ in
        arrived σ' 1 false (suc (suc (suc (suc (suc r))))) s moved (omega arith) (last_two σ' m₃ (suc (suc (suc r))) h₃ u)
    on (ends value s h uncrossed) =
        let o = Returned value in
        let moved : Moved t σ (counted σ) 0 false = record { one_step = refl; some_branches = sym (add-zero σ.branches); crossed = uncrossed } in
        let e : hardened_steps t (suc rounds) ≡ suc r = steps_more t rounds σ (counted σ) (ended o) 0 false se (source_to (at (counted σ) (ended o)) s) moved ∙ omega arith in
        both_ended (counted σ) (counted m) o (source_to (at (counted σ) (ended o)) s)
        (ap (hardened_run t Undisturbed) (add-zero (hardened_steps t (suc rounds)) ∙ e) ∙ onward t r (at (counted m) (ended o)) he h)
        (record { same_node = here.node; same_registers = here.along.registers; same_reads = here.along.reads; same_events = here.along.events })
        (omega (arith, hardened_steps_lem r m he))
    on (stops o s h one) =
        let e : hardened_steps t (suc rounds) ≡ r = steps_same t rounds (at σ going) (at σ (ended o)) se (source_to (at σ (ended o)) s) refl in
        let later : hardened_steps t (suc rounds) + stopping o ≡ suc r = omega arith in
        both_ended σ m o (source_to (at σ (ended o)) s) (ap (hardened_run t Undisturbed) later ∙ onward t r (at m (ended o)) he h) (agreed here) (hardened_steps_lem r m he ∙ sym e)

  follow : (rounds : ℕ) → Beside t rounds
  follow zero = begin
  follow (suc rounds) = by (follow rounds)
    where
      by : Beside t rounds → Beside t (suc rounds)
      by (both_going σ m se he here) = on rounds σ m se he here (depart t ok here)
      by (both_ended σ m o se he agree counts) =
          let sn : source_run t (suc rounds) ≡ at σ (ended o) = source-next t rounds (at σ (ended o)) se ∙ next-ended (plain t) Undisturbed σ o in
          let e : hardened_steps t (suc rounds) ≡ hardened_steps t rounds = steps_same t rounds (at σ (ended o)) (at σ (ended o)) se sn refl in
          both_ended σ m o sn (ap (λ k. hardened_run t Undisturbed (k + stopping o)) e ∙ he) agree (counts ∙ sym e)

  -- demand 3, undisturbed
  pub follows : (rounds : ℕ) → Follows t rounds
  unfolding beside
  follows rounds = by (follow rounds)
    where
      at_end : (p : Progress) → source_run t rounds ≡ p → beside t rounds ≡ hardened_run t Undisturbed (hardened_steps t rounds + stopping (settled p.status))
      at_end p e = ap (λ q. hardened_run t Undisturbed (hardened_steps t rounds + stopping (settled q.status))) e

      by : Beside t rounds → Follows t rounds
      by (both_going σ m se he here) =
          let b : beside t rounds ≡ at m going = at_end (at σ going) se ∙ ap (hardened_run t Undisturbed) (add-zero (hardened_steps t rounds)) ∙ he in
          record { steps = rw b (hardened_steps_lem (hardened_steps t rounds) m he); agree = rw (b, se) (agreed here); alike = rw (b, se) }
      by (both_ended σ m o se he agree counts) =
          let b : beside t rounds ≡ at m (ended o) = at_end (at σ (ended o)) se ∙ he in
          record { steps = rw b counts; agree = rw (b, se) agree; alike = rw (b, se) }
