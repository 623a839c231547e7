-- `desk::loading::Graph::harden` meets its contract.
-- Assumes nothing.
use Rattle.std.proofs.lemmas.Result.{err_from_is_err_and}
use Rattle.desk.proofs.Loaded.{hardened_as}
use Rattle.desk.proofs.loading.Graph.harden.Goals as goal

pub returns-in_err-self : goal.returns-in_err-self
returns-in_err-self c =
    let p = err_from_is_err_and c.from_residual.result c.from_residual.ensures.1 in
    rw (p.1, p.2) (hardened_as _ _ _ c.requires c.args.source.now c.in_err-self.ensures.answer c.harden.ensures.out_after)

pub returns : goal.returns
returns c = hardened_as _ _ _ c.requires c.args.source.now c.in_ok-self.ensures.answer c.harden.ensures.out_after
