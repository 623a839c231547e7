-- `signing::leading` meets its contract: each part of the invariant by itself. Assumes nothing.
use native.Mathlib.Omega.{arith}
use Rattle.std.proofs.lemmas.Grind.{common_steps}
use Rattle.harden.proofs.signing.leading.Goals as goal

pub loop-n-preserved : goal.loop-n-preserved
loop-n-preserved c = (grind (arith, common_steps), grind (arith, common_steps))
