-- `bench::runner::Runner::step` meets its contract. Assumes nothing.
use Rattle.std.proofs.Common.{◌≡◌, ◌≤◌, ◌⊎◌, rules, arith}
use Rattle.bench.specs.Effects.{effect_of}
use Rattle.bench.proofs.Rows.{row, node_row, unknown}
use Rattle.bench.proofs.runner.Runner.step.Goals as goal

pub returns-in-0 : goal.returns-in-0
unfolding effect_of
returns-in-0 c =
    let kind = row c.args.self.now.table.now c.args.state.now.node 0 in
    let other : (kind ≡ 0) ⊎ (9 ≤ kind) = search (rules, arith) in
    rw (c.keeps-in-0.ensures, node_row, unknown _ _ _ _ _ _ other)
