-- What is to be printed lies in the text: what the programs need of the desk.
-- Assumes nothing.
use mathlib.Core.Path.{◌≡◌}
use mathlib.Core.List.{List}
use Prim.Native.Nat.{ℕ, ◌≤◌}
use lib.ListN.{length}
pub use Rattle.text.proofs.Writing.{wrote_inside}
use Rattle.desk.specs.declared.Printed.{Printed}
use Rattle.desk.specs.Programs.{Print, size_of, Shown, printed, complained}

shown-size : {l m : List ℕ} {print : Print} {answer : Printed} → Shown l print m answer → size_of answer ≤ length m
shown-size {l} {m} (printed {text = text} {size = size} w) = wrote_inside l m 0 size text w
shown-size {l} {m} (complained {text = text} {size = size} w) = wrote_inside l m 0 size text w

pub shown_inside : {l m : List ℕ} {print : Print} {answer x : Printed} → Shown l print m answer → answer ≡ x → size_of x ≤ length m
shown_inside w is = rw is at (shown-size w)
