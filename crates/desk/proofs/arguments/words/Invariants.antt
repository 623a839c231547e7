-- `desk::arguments::words` meets its contract. The loop's invariant: the words passed are written, and each was a number.
-- Assumes nothing.
use Rattle.std.proofs.Common.{◌≡◌, take, length}
use Rattle.desk.specs.Arguments.{words_of}
use Rattle.desk.proofs.Cells.{Passed}
use Rattle.desk.proofs.arguments.words.Given as goal

abbrev pub invariant-loop-k : goal.invariant-loop-k
invariant-loop-k l = record {
  written : take l.k l.words ≡ words_of l.cells l.from l.k;
  passed : Passed l.cells l.from l.count l.k;
  room : length l.words ≡ 4096;
}
