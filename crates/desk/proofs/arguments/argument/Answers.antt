-- `desk::arguments::argument` meets its contract: no text where the cell is missing or too long, and else the text.
-- Assumes nothing.
use Rattle.desk.proofs.Cells.{cell_missing, cell_long, cell_text}
use Rattle.desk.proofs.arguments.argument.Goals as goal

pub returns-then-cells-i : goal.returns-then-cells-i
returns-then-cells-i c = cell_missing c.args.cells.now c.args.i c.if-cells-i.true

pub returns-then-size-ge16 : goal.returns-then-size-ge16
returns-then-size-ge16 c = cell_long c.args.cells.now c.args.i _ c.if-cells-i.false c.from-size.ensures c.if-size-ge16.true

pub returns : goal.returns
returns c = cell_text c.args.cells.now c.args.i _ c.if-cells-i.false c.from-size.ensures c.if-size-ge16.false
