-- Document 01, "The graph": the operators and the comparisons on 32-bit words.
-- Assumes nothing.
use Rattle.std.specs.Prelude.{ℕ, ◌+◌, ◌-◌, ◌*◌, ◌/◌, ◌%◌, ◌^◌, Bool, false, not, List, [], ◌∷◌, ◌==◌, bit_and, bit_or, bit_xor, nat_le, nat_lt, slice_index, slice_index_or}

-- add, subtract, and, or, xor, shift left, shift right; shifts go by b modulo 32
abbrev pub operators : ℕ → ℕ → List ℕ
operators a b =
    (a + b) % 2 ^ 32
    ∷ (a + 2 ^ 32 - b) % 2 ^ 32
    ∷ bit_and a b
    ∷ bit_or a b
    ∷ bit_xor a b
    ∷ a * 2 ^ (b % 32) % 2 ^ 32
    ∷ a / 2 ^ (b % 32)
    ∷ []

unfoldable pub operate : ℕ → ℕ → ℕ → ℕ
operate o a b = slice_index (operators a b) o

-- a word moved by half the range: two's complement order becomes the order of numbers
abbrev pub raised : ℕ → ℕ
raised a = (a + 2 ^ 31) % 2 ^ 32

-- equal, not equal, less and greater-or-equal unsigned, less and greater-or-equal as two's complement
abbrev pub comparisons : ℕ → ℕ → List Bool
comparisons a b =
    (a == b) ∷ not (a == b) ∷ nat_lt a b ∷ nat_le b a ∷ nat_lt (raised a) (raised b) ∷ nat_le (raised b) (raised a) ∷ []

unfoldable pub compare : ℕ → ℕ → ℕ → Bool
compare c a b = slice_index_or (comparisons a b) c false
