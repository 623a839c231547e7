-- `file::numbers::field` meets its contract, way by way. Assumes nothing.
use native.Mathlib.Omega.{arith}
use borrow.Author.Tests.{ne_eqb}
use Rattle.words.specs.Refusals.{number_of}
use Rattle.words.proofs.Reasons.{reason_some}
use Rattle.file.specs.Reading.{field_at}
use Rattle.file.proofs.Thens.{then_value, handed_on}
use Rattle.file.proofs.numbers.field.Goals as goal

pub returns-in_default : goal.returns-in_default
unfolding field_at
returns-in_default c = handed_on _ c.in_default.is c.number_at-number.ensures

pub returns-in-Ok-fault : goal.returns-in-Ok-fault
unfolding field_at
returns-in-Ok-fault c = rw (then_value _ c.in-Ok.is c.number_at-number.ensures, ← c.in-Ok-fault.ensures)

pub returns-in-Err : goal.returns-in-Err
unfolding field_at
returns-in-Err c =
    rw (
      then_value _ c.in-Ok.is c.number_at-number.ensures,
      ← c.in-Err.ensures,
      ne_eqb (number_of c.in-Err.reason) 0 (λ e. omega (arith, reason_some c.in-Err.reason)),
      c.at.ensures,
    )
