-- `file::passes::check_fields` meets its contract. The loop's invariant: the fields from the first on end, or are refused,
-- as those from here on. Assumes nothing.
use mathlib.Core.Path.{◌≡◌}
use Prim.Native.Nat.{◌-◌}
use Rattle.file.specs.Reading.{cells_from}
use Rattle.file.specs.Passes.{end_of}
use Rattle.file.proofs.passes.check_fields.Given as goal

abbrev pub invariant-loop-word : goal.invariant-loop-word
invariant-loop-word l =
    end_of (cells_from l.bytes l.limits 5 1 l.kind l.first) ≡ end_of (cells_from l.bytes l.limits (6 - l.word) l.word l.kind l.at)
