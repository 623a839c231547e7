-- `bench::runner::Runner::walk` meets its contract. Assumes nothing.
use Rattle.std.proofs.Common.{◌≡◌, ◌+◌, ◌<◌, sym, ◌∙◌, arith}
use Rattle.bench.specs.Ready.{Aside}
use Rattle.bench.proofs.Turns.{small, takes, full, on, ends}
use Rattle.bench.proofs.Asides.{aside_set, aside_kept}
use Rattle.bench.proofs.runner.Runner.walk.Goals as goal
use Rattle.bench.proofs.runner.Runner.walk.Goals.{After-outcome, then-inverted+then-effect-eq1, else-inverted, else-inverted-via-then-inverted+else-effect-eq1, else-inverted-via-else-inverted}

-- what is set aside after a step
before : (c : After-outcome) → c.args.place < c.apply.new.self.branches → Aside c.args.self.now c.args.place c.if-inverted.aside
before c h =
    let at = c.loop-at.invariant.0 in
    let few = (small _ _ _ _ at.reached.ready c.step-effect.ensures).counts.branches in
    let past : c.args.place < c.loop-at.at.state.branches + c.step-effect.result.branches = rw c.apply.ensures at h in
    elim c.if-inverted.branch [
      | then-inverted+then-effect-eq1 w ↦ rw w.aside-is (aside_set _ _ _ at.reached w.if-inverted.true)
      | else-inverted w ↦
          let other : c.args.place ≡ c.loop-at.at.state.branches → c.step-effect.result.branches ≡ 1 → ⊥ =
          elim w.else-inverted.branch [
            | else-inverted-via-then-inverted+else-effect-eq1 u ↦ λ _ one. u.if-effect-eq1.false one
            | else-inverted-via-else-inverted u ↦ λ here _. u.if-inverted.false here
          ] in
          rw w.aside-is (aside_kept _ _ _ _ _ c.loop-at.invariant.1 few other past)
    ]

pub apply-requires : goal.apply-requires
apply-requires c = takes _ _ _ _ _ c.loop-at.invariant.0 _ c.step-effect.ensures c.loop-at-test.true (omega arith)

pub returns-in_default : goal.returns-in_default
returns-in_default c =
    record {
      ends = full _ _ _ _ _ c.loop-at.invariant.0 _ c.step-effect.ensures c.loop-at-test.true _ (sym c.write.ensures.value ∙ c.in_default.is)
          c.write.ensures.events_after;
      before = c.loop-at.invariant.1;
    }

pub returns-in-Some-outcome : goal.returns-in-Some-outcome
returns-in-Some-outcome c =
    rw c.apply.ensures
    (record {
      ends = ends _ _ _ _ _ c.loop-at.invariant.0 _ c.step-effect.ensures c.loop-at-test.true _ _ (sym c.write.ensures.value ∙ c.in-Some.is)
          c.write.ensures.events_after _ (sym c.outcome.ensures ∙ c.in-Some-outcome.is);
      before = rw c.apply.ensures at (before (goal.at.returns-in-Some-outcome c).After-outcome);
    })

pub loop-at-preserved : goal.loop-at-preserved
loop-at-preserved c =
    rw c.apply.ensures (
      on _ _ _ _ _ c.loop-at.invariant.0 _ c.step-effect.ensures c.loop-at-test.true _ _ (sym c.write.ensures.value ∙ c.in-Some.is)
          c.write.ensures.events_after (sym c.outcome.ensures ∙ c.in_default-outcome.is),
      rw c.apply.ensures at (before (goal.at.loop-at-preserved c).After-outcome),
    )
