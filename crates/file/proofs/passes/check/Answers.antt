-- `file::passes::check` meets its contract, way by way. Assumes nothing.
use mathlib.Core.Path.{◌∙◌}
use borrow.Author.Tests.{le-leb, lt-leb}
use Rattle.file.specs.Reading.{contents_of}
use Rattle.file.proofs.Thens.{left_as}
use Rattle.file.proofs.passes.check.Goals as goal

pub returns-in_err-registers : goal.returns-in_err-registers
unfolding contents_of
returns-in_err-registers c =
    left_as _ _ c.from_residual.ensures.1 ∙ rw (← rw c.runnable-limits.ensures at c.in_err-registers.ensures)

pub returns-in_err-nodes : goal.returns-in_err-nodes
unfolding contents_of
returns-in_err-nodes c =
    left_as _ _ c.from_residual-in_err-nodes.ensures.1
    ∙ rw (← (rw c.runnable-limits.ensures at c.in_ok-registers.ensures), ← (rw c.runnable-limits.ensures at c.in_err-nodes.ensures))

pub returns-then-room-words : goal.returns-then-room-words
unfolding contents_of
returns-then-room-words c =
    rw (
      c.at.ensures,
      ← (rw c.runnable-limits.ensures at c.in_ok-registers.ensures),
      ← (rw c.runnable-limits.ensures at c.in_ok-nodes.ensures),
      lt-leb _ _ c.if-room-words.true,
    )

pub returns : goal.returns
unfolding contents_of
returns c =
    rw (
      ← (rw c.runnable-limits.ensures at c.in_ok-registers.ensures),
      ← (rw c.runnable-limits.ensures at c.in_ok-nodes.ensures),
      le-leb _ _ c.if-room-words.false,
    ) (rw c.runnable-limits.ensures at c.check_body.ensures)
