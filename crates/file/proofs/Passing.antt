-- The first pass, whole: what `contents_of` answers is passed on by the checks of the body, one after the other.
-- Assumes nothing.
use mathlib.Core.Path.{◌≡◌, refl, ◌∙◌}
use mathlib.Core.Bool.{Bool, true, false}
use mathlib.Core.List.{List}
use Prim.Native.Nat.{ℕ, ◌*◌}
use lib.ListN.{length}
use lib.Dec.{leb}
use Rattle.words.specs.Answer.{Answer, given, refused, demand, and_then}
use Rattle.words.proofs.Answers.{then_same}
use Rattle.graph.specs.declared.Limits.{Limits}
use Rattle.graph.specs.declared.Role.TheVariants.{Target}
use Rattle.file.specs.Reading.{Cells, Contents, field_at, cells_from, body_of}
use Rattle.file.specs.Passes.{end_of, passed}

passed_then : {A B : Type 0} (answer : Answer A) (next : A → Answer B) →
    passed (and_then answer next) ≡ and_then answer λ a. passed (next a)
passed_then (given a) next = refl
passed_then (refused number place) next = refl

passed-demand : {A : Type 0} (test : Bool) (number place : ℕ) (a : A) →
    passed (demand test number place (given a)) ≡ demand test number place (given tt)
passed-demand true number place a = refl
passed-demand false number place a = refl

-- what follows the nodes looks at their end alone
passed_end : (size : ℕ) (cells : Answer Cells) (whole : Cells → Contents) →
    passed (and_then cells λ c. demand (leb size c.next) 10 c.next (given (whole c)))
    ≡ and_then (end_of cells) λ next. demand (leb size next) 10 next (given tt)
passed_end size (given c) whole = passed-demand (leb size c.next) 10 c.next (whole c)
passed_end size (refused number place) whole = refl

pub body_passed : (bytes : List ℕ) (limits : Limits) (at : ℕ) →
    passed (body_of bytes limits at)
    ≡ and_then (field_at bytes limits Target at) λ e.
    and_then (end_of (cells_from bytes limits (6 * limits.nodes) 0 0 e.next)) λ next. demand (leb (length bytes) next) 10 next (given tt)
unfolding body_of
body_passed bytes limits at =
    passed_then (field_at bytes limits Target at) _
    ∙ then_same (field_at bytes limits Target at) _ _ λ e is.
    passed_end (length bytes) (cells_from bytes limits (6 * limits.nodes) 0 0 e.next) _
