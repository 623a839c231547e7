-- `desk::arguments::words` meets its contract.
-- Assumes nothing.
use Rattle.std.proofs.Common.{◌≡◌, ◌∙◌, ◌+◌, refl, add-zero, arith, Some, None, length-set}
use Rattle.std.proofs.Math.Nat.{sub-zero}
use Rattle.text.specs.Decimals.{value_of}
use Rattle.desk.specs.Arguments.{argument, words_of}
use Rattle.desk.proofs.Cells.{words_end, words_bad, words_next, words_all, words_more}
use Rattle.desk.proofs.arguments.words.Goals as goal

pub returns-then-count-gt-MOST_WORDS : goal.returns-then-count-gt-MOST_WORDS
returns-then-count-gt-MOST_WORDS c =
    words_end c.args.cells.now c.args.from _ c.saturating_sub-count.ensures c.if-count-gt-MOST_WORDS.true

pub loop-k-init : goal.loop-k-init
unfolding words_of
loop-k-init c = record {
  written = refl;
  passed = record { count_is = c.saturating_sub-count.ensures; few = c.if-count-gt-MOST_WORDS.false; found = simp (sub-zero, add-zero) };
  room = c.told-words;
}

pub returns-in_err-words : goal.returns-in_err-words
returns-in_err-words c =
    let none : value_of (argument c.args.cells.now (c.args.from + c.loop-k.k)) ≡ None = grind arith in
    let bad = words_bad c.loop-k.invariant.passed c.loop-k-test.true none in
    grind (arith, bad)

pub loop-k-preserved : goal.loop-k-preserved
loop-k-preserved c =
    let word = c.in_ok-words.field-0 in
    let some : value_of (argument c.args.cells.now (c.args.from + c.loop-k.k)) ≡ Some word = grind arith in
    record {
      written = words_more c.args.cells.now c.loop-k.words c.args.from c.loop-k.k word (omega arith) c.loop-k.invariant.written some;
      passed = words_next c.loop-k.invariant.passed c.loop-k-test.true word some;
      room = length-set c.loop-k.words c.loop-k.k word ∙ c.loop-k.invariant.room;
    }

pub returns : goal.returns
returns c = words_all c.loop-k.invariant.passed c.loop-k.words (omega arith) c.loop-k.invariant.written
