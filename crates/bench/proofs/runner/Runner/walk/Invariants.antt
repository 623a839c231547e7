-- `bench::runner::Runner::walk` meets its contract: at the head of the loop the point is that of the run with the branch at the place
-- inverted, and what was set aside is the undisturbed run before that branch, once it is passed. Assumes nothing.
use Rattle.std.proofs.Common.{◌-◌, ◌<◌}
use Rattle.bench.specs.Ready.{Standing, Aside}
use Rattle.bench.proofs.runner.Runner.walk.Given as goal

abbrev pub invariant-loop-at : goal.invariant-loop-at
invariant-loop-at l =
    Standing l.self l.place l.initial.events l.at l.events × (l.place < l.at.state.branches → Aside l.self l.place l.aside)

abbrev pub decreases-loop-at : goal.decreases-loop-at
decreases-loop-at l = l.self.budget - l.at.state.steps
