-- `bench::runner::Runner::score` meets its contract: the places below are scored, and the run with the branch at the next one inverted
-- stands where it was set aside. Assumes nothing.
use Rattle.std.proofs.Common.{◌≡◌, ◌≤◌, length}
use Rattle.bench.specs.Classes.{score_to}
use Rattle.bench.specs.Ready.{Standing}
use Rattle.bench.proofs.runner.Runner.score.Given as goal

abbrev pub invariant-loop-place : goal.invariant-loop-place
invariant-loop-place l = record {
  standing : Standing l.self l.place l.events l.at l.events;
  before : l.at.state.branches ≤ l.place;
  size : length l.events ≡ l.self.room;
  scored : l.score ≡ score_to l.self l.reference l.place;
}
