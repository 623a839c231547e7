-- `text::value` meets its contract.
-- Assumes nothing.
use Rattle.std.proofs.Common.{◌∙◌, sym, arith, inl, inr}
use Rattle.text.proofs.Decimals.{value_other, value_large, value_more, value_whole, value_none, value_start}
use Rattle.text.proofs.value.Goals as goal

pub returns-in_default : goal.returns-in_default
returns-in_default c = value_none c.args.text.now (inl (omega arith))

pub returns-in_default-2 : goal.returns-in_default-2
returns-in_default-2 c = value_none c.args.text.now (inr (omega arith))

pub loop-b-init : goal.loop-b-init
loop-b-init c = value_start c.args.text.now (omega arith) (omega arith)

pub returns-in_default-b : goal.returns-in_default-b
returns-in_default-b c =
    value_other c.args.text.now c.loop-b.n c.loop-b.b-index c.loop-b-test.true (inl (omega arith)) ∙ sym c.loop-b.invariant

pub returns-in_default-b-2 : goal.returns-in_default-b-2
returns-in_default-b-2 c =
    value_other c.args.text.now c.loop-b.n c.loop-b.b-index c.loop-b-test.true (inr (omega arith)) ∙ sym c.loop-b.invariant

pub returns-in_err-checked_mul : goal.returns-in_err-checked_mul
returns-in_err-checked_mul c =
    let large = value_large c.args.text.now c.loop-b.n c.loop-b.b-index c.loop-b-test.true in
    c.from_residual.ensures
    ∙ large (omega arith) (omega arith) (omega (arith, c.in_err-checked_mul.ensures)) ∙ sym c.loop-b.invariant

pub returns-in_err-n : goal.returns-in_err-n
returns-in_err-n c =
    let large = value_large c.args.text.now c.loop-b.n c.loop-b.b-index c.loop-b-test.true in
    c.from_residual-in_err-n.ensures
    ∙ large (omega arith) (omega arith) (omega (arith, c.in_ok-checked_mul.ensures, c.in_err-n.ensures)) ∙ sym c.loop-b.invariant

pub loop-b-preserved : goal.loop-b-preserved
loop-b-preserved c =
    let more = value_more c.args.text.now c.loop-b.n c.loop-b.b-index c.loop-b-test.true c.in_ok-n.n in
    let ten = c.in_ok-checked_mul.ensures in
    let sum = c.in_ok-n.ensures in
    c.loop-b.invariant ∙ more (omega arith) (omega arith) (omega (arith, ten, sum)) (omega (arith, ten, sum))

pub returns : goal.returns
returns c = value_whole c.args.text.now c.loop-b.n c.loop-b.b-index (omega arith) ∙ sym c.loop-b.invariant
