-- Document 01, "Refusal numbers and the order of checks": the number of each reason, and what a result of the code stands for.
-- Assumes nothing.
use Rattle.std.specs.Prelude.{ℕ, Result, Ok, Err}
use Rattle.words.specs.Answer.{Answer, given, refused}
use Rattle.words.specs.declared.refusals.Reason.{Reason}
use Rattle.words.specs.declared.refusals.Reason.TheVariants.{Cut, NotShortest, OutOfRange, ShortTable, Unknown, NoRegister, NoNode, SpareWord, Unreachable, BytesAfter, NoRoom, OverBudget, NotReturned, BuffersDiffer, ShortBuffer}
use Rattle.words.specs.declared.refusals.Refusal.{Refusal}

abbrev pub number_of : Reason → ℕ
number_of Cut = 1
number_of NotShortest = 2
number_of OutOfRange = 3
number_of ShortTable = 4
number_of Unknown = 5
number_of NoRegister = 6
number_of NoNode = 7
number_of SpareWord = 8
number_of Unreachable = 9
number_of BytesAfter = 10
number_of NoRoom = 11
number_of OverBudget = 12
number_of NotReturned = 13
number_of BuffersDiffer = 14
number_of ShortBuffer = 15

-- the value, or the refusal's number and place
abbrev pub answer_of : {A : Type 0} → Result A Refusal → Answer A
answer_of (Ok a) = given a
answer_of (Err r) = refused (number_of r.reason) r.place
