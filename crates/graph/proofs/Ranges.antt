-- What a range test tells. Assumes nothing.
use mathlib.Core.Path.{◌≡◌}
use mathlib.Core.Bool.{Bool, true, false, ◌&&◌}
use Prim.Native.Nat.{ℕ, ◌≤◌}
use lib.Dec.{leb}
use borrow.Author.Tests.{leb-true, le-leb}
use Rattle.graph.specs.Kinds.{in_range}

and_both : (a b : Bool) → (a && b) ≡ true → (a ≡ true) × (b ≡ true)
and_both true true e = (e, e)
and_both true false e = (cc, e)
and_both false true e = (e, cc)
and_both false false e = (e, e)

pub in_range_lem : (low high n : ℕ) → in_range low high n ≡ true → (low ≤ n) × (n ≤ high)
in_range_lem low high n e =
    let both : (leb low n ≡ true) × (leb n high ≡ true) = and_both (leb low n) (leb n high) e in
    (leb-true low n both.0, leb-true n high both.1)

pub range_in : (low high n : ℕ) → low ≤ n → n ≤ high → in_range low high n ≡ true
range_in low high n above below = rw (le-leb low n above, le-leb n high below)
