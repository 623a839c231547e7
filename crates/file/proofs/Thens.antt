-- What follows a number that was read, by the case that the code took apart.
-- Assumes nothing.
use mathlib.Core.Path.{◌≡◌, sym, ap, ◌∙◌}
use Rattle.std.specs.Prelude.{Result, Ok, Err}
use Rattle.std.specs.Result.{IsErrAnd}
use Rattle.std.proofs.lemmas.Result.{err_from_is_err_and}
use Rattle.words.specs.Answer.{Answer, refused, and_then}
use Rattle.words.specs.Refusals.{number_of, answer_of}
use Rattle.words.specs.declared.refusals.Refusal.{Refusal}

-- a value is followed
pub then_value : {A B : Type 0} (f : A → Answer B) {n : Result A Refusal} {answer : Answer A} {a : A} →
    n ≡ Ok a → answer_of n ≡ answer → and_then answer f ≡ f a
then_value {A = A} f e h = ap (λ (a : Answer A). and_then a f) (sym h ∙ ap answer_of e)

-- a refusal is handed on as it stands
pub handed_on : {A : Type 0} (f : A → Answer A) {n : Result A Refusal} {answer : Answer A} {r : Refusal} →
    n ≡ Err r → answer_of n ≡ answer → answer_of n ≡ and_then answer f
handed_on {A = A} f e h = ap answer_of e ∙ ap (λ (a : Answer A). and_then a f) (sym (ap answer_of e) ∙ h)

-- and so is one that leaves by a `?`
pub left_as : {A : Type 0} (r : Result A Refusal) (e : Refusal) → IsErrAnd r (λ y. y ≡ e) →
    answer_of r ≡ refused (number_of e.reason) e.place
left_as r e h = let p = err_from_is_err_and r h in rw (p.1, p.2)
