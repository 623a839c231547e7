-- `bench::runner::Runner::score` meets its contract. Assumes nothing.
use Rattle.std.proofs.Common.{◌+◌, ◌^◌, ◌<◌, sym, ◌∙◌, arith, length-take-le}
use Rattle.bench.specs.Steps.{start}
use Rattle.bench.proofs.Turns.{starts}
use Rattle.bench.proofs.Tallies.{zeros_none, score_none, score_more, score_few}
use Rattle.bench.proofs.Asides.{counted}
use Rattle.bench.proofs.runner.Runner.score.Goals as goal

pub loop-place-init : goal.loop-place-init
unfolding start
loop-place-init c =
    record {
      standing = starts _ _ _ _ c.start-at.ensures;
      before = rw c.start-at.ensures (omega arith);
      size = c.requires.room;
      scored = zeros_none _ c.default-score.ensures ∙ score_none _ _ _ _ _;
    }

pub slice_bounds-class-end : goal.slice_bounds-class-end
slice_bounds-class-end c = (counted c.walk-outcome.ensures c.loop-place.invariant.size c.requires.referred c.loop-place-test.true).words

pub slice_bounds-class-end-in-loop-place : goal.slice_bounds-class-end-in-loop-place
slice_bounds-class-end-in-loop-place c =
    let known = counted c.walk-outcome.ensures c.loop-place.invariant.size c.requires.referred c.loop-place-test.true in
    sym (length-take-le _ _ known.words)

pub class-requires : goal.class-requires
class-requires c =
    let known = counted c.walk-outcome.ensures c.loop-place.invariant.size c.requires.referred c.loop-place-test.true in
    record { fits = known.fits; shares = known.shares }

pub count-requires : goal.count-requires
count-requires c =
    let few : c.loop-place.place + 1 < 2 ^ 64 = omega (arith, c.ranges.positions, c.loop-place-test.true) in
    rw c.loop-place.invariant.scored (score_few _ _ _ _ _ _ few)

pub loop-place-preserved : goal.loop-place-preserved
loop-place-preserved c =
    let known = counted c.walk-outcome.ensures c.loop-place.invariant.size c.requires.referred c.loop-place-test.true in
    record {
      standing = known.again;
      before = omega (arith, known.branches);
      size = omega (arith, c.loop-place.invariant.size);
      scored = c.count.ensures ∙ (rw (c.class.ensures ∙ known.class, c.loop-place.invariant.scored)) ∙ sym (score_more _ _ _ _ _ _);
    }
