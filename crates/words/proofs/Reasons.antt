-- Every reason has a number above 0, and no two have the same.
-- Assumes nothing.
use mathlib.Core.Path.{◌≡◌, refl}
use mathlib.Core.List.{[], ◌∷◌}
use Prim.Native.Nat.{ℕ, ◌<◌}
use native.Mathlib.Omega.{arith}
use lib.ListN.{get_or}
use Rattle.words.specs.Refusals.{number_of}
use Rattle.words.specs.declared.refusals.Reason.{Reason}
use Rattle.words.specs.declared.refusals.Reason.TheVariants.{Cut, NotShortest, OutOfRange, ShortTable, Unknown, NoRegister, NoNode, SpareWord, Unreachable, BytesAfter, NoRoom, OverBudget, NotReturned, BuffersDiffer, ShortBuffer}

-- the reason that a number stands for
abbrev pub reason_of : ℕ → Reason
reason_of number =
    get_or
    (Cut ∷ Cut ∷ NotShortest ∷ OutOfRange ∷ ShortTable ∷ Unknown ∷ NoRegister ∷ NoNode ∷ SpareWord ∷ Unreachable ∷ BytesAfter ∷ NoRoom ∷ OverBudget
    ∷ NotReturned ∷ BuffersDiffer ∷ ShortBuffer ∷ [])
    number
    Cut

pub reason_back : (r : Reason) → reason_of (number_of r) ≡ r
reason_back Cut = refl
reason_back NotShortest = refl
reason_back OutOfRange = refl
reason_back ShortTable = refl
reason_back Unknown = refl
reason_back NoRegister = refl
reason_back NoNode = refl
reason_back SpareWord = refl
reason_back Unreachable = refl
reason_back BytesAfter = refl
reason_back NoRoom = refl
reason_back OverBudget = refl
reason_back NotReturned = refl
reason_back BuffersDiffer = refl
reason_back ShortBuffer = refl

pub reason_some : (r : Reason) → 0 < number_of r
reason_some Cut = omega arith
reason_some NotShortest = omega arith
reason_some OutOfRange = omega arith
reason_some ShortTable = omega arith
reason_some Unknown = omega arith
reason_some NoRegister = omega arith
reason_some NoNode = omega arith
reason_some SpareWord = omega arith
reason_some Unreachable = omega arith
reason_some BytesAfter = omega arith
reason_some NoRoom = omega arith
reason_some OverBudget = omega arith
reason_some NotReturned = omega arith
reason_some BuffersDiffer = omega arith
reason_some ShortBuffer = omega arith
