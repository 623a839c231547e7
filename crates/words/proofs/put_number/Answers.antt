-- `words::put_number` meets its contract. The loop's invariant: the number put into the buffer that was lent is the rest's
-- bytes put into the buffer as it is, behind those that stand. Assumes nothing.
use mathlib.Core.Path.{refl, sym, ◌∙◌}
use native.Mathlib.Omega.{arith}
use Rattle.words.proofs.Shortest.{left_all, left_more, size_last, put_first, put_longer, put_last}
use Rattle.words.proofs.put_number.Goals as goal

pub loop-rest-init : goal.loop-rest-init
loop-rest-init c = (left_all _ (omega arith), refl, put_first _ _ _)

pub loop-rest-preserved : goal.loop-rest-preserved
loop-rest-preserved c = (
  left_more _ _ _ c.loop-rest.invariant.0 c.loop-rest-test.true,
  c.store.auto.out ∙ c.loop-rest.invariant.1,
  c.loop-rest.invariant.2 ∙ put_longer
      _ _ _ c.loop-rest.invariant.0 c.loop-rest-test.true _ _ _ c.store.ensures,
)

pub returns : goal.returns
returns c =
    record {
      value = size_last _ _ _ c.loop-rest.invariant.0 c.loop-rest-test.false;
      out_after = put_last _ _ _ c.loop-rest.invariant.0
          c.loop-rest-test.false _ _ _ c.store-2.ensures ∙ sym c.loop-rest.invariant.2;
    }
