-- The xor with one word twice is no change: the one law of xor that demand 3 rests on.
-- Assumes nothing.
use mathlib.Core.Path.{◌≡◌, refl, ap, ap₂, ◌∙◌}
use Prim.Native.Nat.{ℕ, zero, suc, ◌+◌, ◌*◌, ◌/◌, ◌%◌, ◌<◌}
use native.Mathlib.Nat.{div-add-mod'}
use native.Mathlib.Omega.{arith}
use lib.Arith.{bin_ind}
use lib.Bits.{bit_xor, differ, xor_step, xor_shr, xor_mod}

digit : (x y : ℕ) → x < 2 → y < 2 → differ x (bit_xor x y) ≡ y
digit zero y p q = refl
digit (suc zero) zero p q = refl
digit (suc zero) (suc zero) p q = refl
digit (suc zero) (suc (suc y)) p q = absurd (omega arith)
digit (suc (suc x)) y p q = absurd (omega arith)

pub xor_cancel : (a b : ℕ) → bit_xor a (bit_xor a b) ≡ b
xor_cancel =
    bin_ind (λ a. (b : ℕ) → bit_xor a (bit_xor a b) ≡ b) (λ b. refl) λ a ih b.
    let half : bit_xor a b / 2 ≡ bit_xor (a / 2) (b / 2) = xor_shr a b 1 in
    let odd : bit_xor a b % 2 ≡ bit_xor (a % 2) (b % 2) = xor_mod a b 1 in
    let low : differ (a % 2) (bit_xor a b % 2) ≡ b % 2 = ap (differ (a % 2)) odd ∙ digit (a % 2) (b % 2) (omega arith) (omega arith) in
    let high : bit_xor (a / 2) (bit_xor a b / 2) ≡ b / 2 = ap (bit_xor (a / 2)) half ∙ ih (b / 2) in
    xor_step a (bit_xor a b) ∙ ap₂ (λ x y. x * 2 + y) high low ∙ div-add-mod' b 2
