-- `table::check` meets its contract: each test passed hands the check on. Assumes nothing.
use mathlib.Core.Path.{sym, ◌∙◌}
use borrow.Author.Tests.{le-leb, lt-leb, lt-ltb, le-ltb}
use Rattle.graph.specs.Checks.{table_check}
use Rattle.graph.proofs.table.check.Goals as goal

pub returns-then-not-in_range : goal.returns-then-not-in_range
unfolding table_check
returns-then-not-in_range c = rw (c.at.ensures, sym c.in_range.ensures ∙ c.if-not-in_range.true)

pub returns-then-not-in_range-2 : goal.returns-then-not-in_range-2
unfolding table_check
returns-then-not-in_range-2 c =
    rw (c.at-then-not-in_range-2.ensures, sym c.in_range.ensures ∙ c.if-not-in_range.false, sym c.in_range-2.ensures ∙ c.if-not-in_range-2.true)

pub returns-then-table-count : goal.returns-then-table-count
unfolding table_check
returns-then-table-count c =
    rw (
      c.at-then-table-count.ensures,
      sym c.in_range.ensures ∙ c.if-not-in_range.false,
      sym c.in_range-2.ensures ∙ c.if-not-in_range-2.false,
      lt-leb _ _ c.if-table-count.true,
    )

pub returns-then-header : goal.returns-then-header
unfolding table_check
returns-then-header c =
    rw (
      c.at-then-header.ensures,
      sym c.in_range.ensures ∙ c.if-not-in_range.false,
      sym c.in_range-2.ensures ∙ c.if-not-in_range-2.false,
      le-leb _ _ c.if-table-count.false,
      le-ltb _ _ c.if-header.true,
    )

pub returns : goal.returns
unfolding table_check
returns c =
    rw (
      sym c.in_range.ensures ∙ c.if-not-in_range.false,
      sym c.in_range-2.ensures ∙ c.if-not-in_range-2.false,
      le-leb _ _ c.if-table-count.false,
      lt-ltb _ _ c.if-header.false,
    ) c.check_words.ensures
