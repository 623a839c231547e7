-- `desk::loading::Graph::load` meets its contract.
-- Assumes nothing.
use Rattle.std.proofs.Common.{ap, ◌∙◌}
use Rattle.std.proofs.lemmas.Result.{err_from_is_err_and}
use Rattle.words.specs.Answer.{Answer, and_then}
use Rattle.desk.specs.declared.loading.Graph.{Graph}
use Rattle.desk.specs.Programs.{graph_in, harden_graph}
use Rattle.desk.proofs.Loaded.{load_refused}
use Rattle.desk.proofs.loading.Graph.load.Goals as goal

pub returns-in_err-read-in-Hardened : goal.returns-in_err-read-in-Hardened
returns-in_err-read-in-Hardened c =
    let p = err_from_is_err_and c.from_residual.result c.from_residual.ensures.1 in
    rw (p.1, p.2) (load_refused _ _ c.args.mode c.args.bytes.now c.in_err-read-in-Hardened.ensures)

pub returns-in-Plain : goal.returns-in-Plain
unfolding graph_in
returns-in-Plain c = rw c.in-Plain.is c.read.ensures

pub returns-in_ok-read-in-Hardened : goal.returns-in_ok-read-in-Hardened
unfolding graph_in
returns-in_ok-read-in-Hardened c =
    rw c.in-Hardened.is (c.harden.ensures ∙ ap (λ (a : Answer Graph). and_then a harden_graph) c.in_ok-read-in-Hardened.ensures)
