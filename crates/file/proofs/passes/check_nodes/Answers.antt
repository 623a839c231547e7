-- `file::passes::check_nodes` meets its contract. The loop's invariant: the nodes from the first on end, or are refused,
-- as those from here on. Assumes nothing.
use mathlib.Core.Path.{◌≡◌, sym, ◌∙◌}
use Rattle.words.specs.Refusals.{answer_of}
use Rattle.file.specs.Reading.{cells_from}
use Rattle.file.specs.Passes.{end_of}
use Rattle.file.proofs.Thens.{left_as}
use Rattle.file.proofs.Checking.{nodes_more, nodes_none}
use Rattle.file.proofs.passes.check_nodes.Goals as goal

pub returns-in_err-kind : goal.returns-in_err-kind
returns-in_err-kind c =
    left_as _ _ c.from_residual.ensures.1 ∙ sym (c.loop.invariant ∙ nodes_more _ _ _ _ _ c.loop-test.true ∙ rw (← c.in_err-kind.ensures))

pub returns-in_err-at : goal.returns-in_err-at
returns-in_err-at c =
    let kind = c.in_ok-kind.kind in
    let fields : answer_of c.check_fields.result ≡ end_of (cells_from c.args.bytes.now c.args.limits 5 1 kind.value kind.next) =
    c.check_fields.ensures in
    left_as _ _ c.from_residual-in_err-at.ensures.1
    ∙ sym (c.loop.invariant ∙ nodes_more _ _ _ _ _ c.loop-test.true ∙ rw (← c.in_ok-kind.ensures, ← (rw c.in_err-at.was at fields)))

pub loop-preserved : goal.loop-preserved
loop-preserved c = c.loop.invariant ∙ nodes_more _ _ _ _ _ c.loop-test.true ∙ rw (← c.in_ok-kind.ensures, ← c.in_ok-at.ensures)

pub returns : goal.returns
returns c = sym (c.loop.invariant ∙ nodes_none _ _ _ _ _ c.loop-test.false)
