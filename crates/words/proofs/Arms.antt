-- The last arm of a `match` on a number knows only that the number is none of the keys before it.
-- Assumes nothing.
use mathlib.Core.Path.{◌≡◌}
use Prim.Native.Nat.{ℕ, zero, suc, ◌+◌, ◌≤◌}
use native.Mathlib.Nat.{add-zero, add-suc}
use native.Mathlib.Omega.{arith}

-- what that arm is told where the keys are s, s + 1, .. up to s + n
abbrev pub NoneFrom : ℕ → ℕ → ℕ → Type 0
NoneFrom s zero x = Unit {0}
NoneFrom s (suc n) x = NoneFrom s n x × (x ≡ s + n → ⊥)

-- a number from s upward that is none of n keys lies above them
pub none_from : (s n x : ℕ) → s ≤ x → NoneFrom s n x → s + n ≤ x
none_from s zero x h r = rw add-zero h
none_from s (suc n) x h r =
    let below : s + n ≤ x = none_from s n x h r.0 in
    let other : (x ≡ s + n → ⊥) = r.1 in
    omega (arith, add-suc s n)
