-- `bench::runner::Runner::one` meets its contract. Assumes nothing.
use Rattle.bench.proofs.Turns.{starts}
use Rattle.bench.proofs.runner.Runner.one.Goals as goal

pub walk-outcome-requires-clause-standing : goal.walk-outcome-requires-clause-standing
walk-outcome-requires-clause-standing c = starts _ _ _ _ c.start-at.ensures
