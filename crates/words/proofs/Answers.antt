-- What holds of an answer: P of a value given, Q of a refusal's number and place; and how it is carried through the checks.
-- Assumes nothing.
use mathlib.Core.Path.{◌≡◌, refl, sym, ap, subst}
use mathlib.Core.Bool.{Bool, true, false, cond, ◌||◌, ◌&&◌, true≢false}
use mathlib.Core.Logic.{◌⊎◌, inl, inr}
use Prim.Native.Nat.{ℕ}
use Rattle.words.specs.Answer.{Answer, given, refused, demand, and_then, written}

pub data Of {A : Type 0} (P : A → Type 0) (Q : ℕ → ℕ → Type 0) : Answer A → Type 0 where
  of_given : {a : A} → P a → Of P Q (given a)
  of_refused : {number place : ℕ} → Q number place → Of P Q (refused number place)

module _ {A : Type 0} {P : A → Type 0} {Q : ℕ → ℕ → Type 0} where
  -- a demanded test holds and what follows does, or the refusal does
  pub of_demand : (test : Bool) (number place : ℕ) (next : Answer A) →
      (test ≡ true → Of P Q next) → (test ≡ false → Q number place) → Of P Q (demand test number place next)
  of_demand true number place next holds fails = holds refl
  of_demand false number place next holds fails = of_refused (fails refl)

  -- either branch of a choice
  pub of_cond : (test : Bool) (one other : Answer A) →
      (test ≡ true → Of P Q one) → (test ≡ false → Of P Q other) → Of P Q (cond test one other)
  of_cond true one other holds fails = holds refl
  of_cond false one other holds fails = fails refl

  -- what an answer that is given, and one that is refused, tells
  pub value_of : {a : A} → Of P Q (given a) → P a
  value_of (of_given h) = h

  pub fault_of_lem : {number place : ℕ} → Of P Q (refused number place) → Q number place
  fault_of_lem (of_refused h) = h

  pub when_given : {answer : Answer A} {a : A} → answer ≡ given a → Of P Q answer → P a
  when_given e h = value_of (subst (Of P Q) e h)

  pub when_refused : {answer : Answer A} {number place : ℕ} → answer ≡ refused number place → Of P Q answer → Q number place
  when_refused e h = fault_of_lem (subst (Of P Q) e h)

-- what follows every value that is given
pub of_then : {A B : Type 0} {P : A → Type 0} {P' : B → Type 0} {Q : ℕ → ℕ → Type 0} {answer : Answer A} (next : A → Answer B) →
    Of P Q answer → ((a : A) → answer ≡ given a → P a → Of P' Q (next a)) → Of P' Q (and_then answer next)
of_then next (of_given {a = a} h) follows = follows a refl h
of_then next (of_refused h) follows = of_refused h

-- one fact for another
pub of_map : {A : Type 0} {P P' : A → Type 0} {Q Q' : ℕ → ℕ → Type 0} {answer : Answer A} →
    ((a : A) → P a → P' a) → ((number place : ℕ) → Q number place → Q' number place) → Of P Q answer → Of P' Q' answer
of_map p q (of_given {a = a} h) = of_given (p a h)
of_map p q (of_refused {number = number} {place = place} h) = of_refused (q number place h)

-- what two tests tell
pub both : (a b : Bool) → (a && b) ≡ true → (a ≡ true) × (b ≡ true)
both true b h = (refl, h)
both false b h = (h, absurd (true≢false (sym h)))

pub either : (a b : Bool) → (a || b) ≡ true → (a ≡ true) ⊎ (b ≡ true)
either true b h = inl refl
either false b h = inr h

-- no matter how it is refused
abbrev pub Any : ℕ → ℕ → Type 0
Any number place = Unit {0}

value_or : {A : Type 0} → A → Answer A → A
value_or a (given b) = b
value_or a (refused number place) = a

-- two values given alike are one
pub given_same : {A : Type 0} {a b : A} → given a ≡ given b → a ≡ b
unfolding value_or
given_same {a = a} e = ap (value_or a) e

-- two ways to go on that agree at the value that is given
pub then_same : {A B : Type 0} (answer : Answer A) (f g : A → Answer B) → ((a : A) → answer ≡ given a → f a ≡ g a) →
    and_then answer f ≡ and_then answer g
then_same (given a) f g h = h a refl
then_same (refused number place) f g h = refl

-- two contents of a buffer that agree at the value that is given
pub written_same : {A B : Type 0} (answer : Answer A) (f g : A → B) (before : B) → ((a : A) → answer ≡ given a → f a ≡ g a) →
    written answer f before ≡ written answer g before
written_same (given a) f g before h = h a refl
written_same (refused number place) f g before h = refl
