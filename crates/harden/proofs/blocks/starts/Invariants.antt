-- `blocks::starts` meets its contract. The invariant: the starts as far as the loop has come. Assumes nothing.
use Prim.Native.Nat.{ℕ, ◌≤◌}
use mathlib.Core.Path.{◌≡◌}
use lib.ListN.{length, get_or}
use Rattle.harden.specs.Hardened.{group_at}
use Rattle.harden.specs.Passes.{source_in}
use Rattle.harden.proofs.blocks.starts.Given as goal

abbrev pub invariant-loop-n : goal.invariant-loop-n
invariant-loop-n l =
    ((k : ℕ) → k ≤ l.n → get_or l.starts k 0 ≡ group_at (source_in l.source) k) × (length l.starts ≡ 257)
