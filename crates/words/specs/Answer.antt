-- Document 01, "Refusal numbers and the order of checks": what an entry point answers, and how checks follow one another.
-- Assumes nothing.
use Rattle.std.specs.Prelude.{ℕ, Bool, true, false}

-- a value, or a refusal: a number and a place, nothing else
pub data Answer (A : Type 0) : Type 0 where
  given : A → Answer A
  refused : ℕ → ℕ → Answer A

-- the refusal of this number at this place where the test fails, and else what follows
abbrev pub demand : {A : Type 0} → Bool → ℕ → ℕ → Answer A → Answer A
demand true number place next = next
demand false number place next = refused number place

-- what follows a value; a refusal stands
abbrev pub and_then : {A B : Type 0} → Answer A → (A → Answer B) → Answer B
and_then (given a) next = next a
and_then (refused number place) next = refused number place

-- what a lent buffer holds afterwards: on a refusal what it held before
abbrev pub written : {A B : Type 0} → Answer A → (A → B) → B → B
written (given a) after before = after a
written (refused number place) after before = before
