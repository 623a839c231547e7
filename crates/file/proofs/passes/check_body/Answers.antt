-- `file::passes::check_body` meets its contract, way by way. Assumes nothing.
use mathlib.Core.Path.{◌≡◌, ◌∙◌}
use borrow.Author.Tests.{le-leb, lt-leb}
use Rattle.words.specs.Refusals.{answer_of}
use Rattle.graph.specs.declared.Role.TheVariants.{Target}
use Rattle.file.specs.Reading.{field_at}
use Rattle.file.proofs.Thens.{left_as}
use Rattle.file.proofs.Passing.{body_passed}
use Rattle.file.proofs.passes.check_body.Goals as goal

pub returns-in_err-entry : goal.returns-in_err-entry
returns-in_err-entry c =
    let entry : answer_of c.field.result ≡ field_at c.args.bytes.now c.args.limits Target c.args.at = c.field.ensures in
    left_as _ _ c.from_residual.ensures.1 ∙ rw (body_passed, ← (rw c.in_err-entry.was at entry))

pub returns-in_err-next : goal.returns-in_err-next
returns-in_err-next c =
    left_as _ _ c.from_residual-in_err-next.ensures.1 ∙ rw (body_passed, ← c.in_ok-entry.ensures, ← c.in_err-next.ensures)

pub returns-then-next-bytes : goal.returns-then-next-bytes
returns-then-next-bytes c =
    rw (c.at.ensures, body_passed, ← c.in_ok-entry.ensures, ← c.in_ok-next.ensures, lt-leb _ _ c.if-next-bytes.true)

pub returns : goal.returns
returns c = rw (body_passed, ← c.in_ok-entry.ensures, ← c.in_ok-next.ensures, le-leb _ _ c.if-next-bytes.false)
