-- `desk::loading::Graph::read` meets its contract.
-- Assumes nothing.
use Rattle.std.proofs.lemmas.Result.{err_from_is_err_and}
use Rattle.desk.proofs.Loaded.{read_as}
use Rattle.desk.proofs.loading.Graph.read.Goals as goal

pub returns-in_err-self : goal.returns-in_err-self
returns-in_err-self c =
    let p = err_from_is_err_and c.from_residual.result c.from_residual.ensures.1 in
    rw (p.1, p.2) (read_as _ _ _ c.requires c.args.bytes.now c.in_err-self.ensures.result_value c.read.ensures.table_after)

pub returns : goal.returns
returns c = read_as _ _ _ c.requires c.args.bytes.now c.in_ok-self.ensures.result_value c.read.ensures.table_after
