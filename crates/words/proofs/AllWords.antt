-- Lists of which every element is a 32-bit word, and what keeps them so.
-- Assumes nothing.
use Prim.Native.Nat.{ℕ, zero, suc, ◌^◌, ◌<◌}
use native.Mathlib.Omega.{arith}
use mathlib.Core.List.{List, [], ◌∷◌, ◌++◌}
use lib.ListN.{get_or, set, take, drop, replicate}

abbrev pub AllWords : List ℕ → Type 0
AllWords [] = Unit {0}
AllWords (w ∷ ws) = (w < 2 ^ 32) × AllWords ws

pub word_at : (l : List ℕ) (i : ℕ) → AllWords l → get_or l i 0 < 2 ^ 32
word_at [] i a = omega arith
word_at (w ∷ ws) zero (h, a) = h
word_at (w ∷ ws) (suc i) (h, a) = word_at ws i a

pub all_words : (l : List ℕ) → ((i : ℕ) → get_or l i 0 < 2 ^ 32) → AllWords l
all_words [] each = tt
all_words (w ∷ ws) each = (each 0, all_words ws (λ i. each (suc i)))

pub words_append : (xs ys : List ℕ) → AllWords xs → AllWords ys → AllWords (xs ++ ys)
words_append [] ys a b = b
words_append (x ∷ xs) ys (h, a) b = (h, words_append xs ys a b)

pub words_set : (l : List ℕ) (i w : ℕ) → AllWords l → w < 2 ^ 32 → AllWords (set l i w)
words_set [] i w a h = tt
words_set (x ∷ xs) zero w (k, a) h = (h, a)
words_set (x ∷ xs) (suc i) w (k, a) h = (k, words_set xs i w a h)

pub words_take : (n : ℕ) (l : List ℕ) → AllWords l → AllWords (take n l)
words_take zero l a = tt
words_take (suc n) [] a = tt
words_take (suc n) (w ∷ ws) (h, a) = (h, words_take n ws a)

pub words_drop : (n : ℕ) (l : List ℕ) → AllWords l → AllWords (drop n l)
words_drop zero l a = a
words_drop (suc n) [] a = tt
words_drop (suc n) (w ∷ ws) (h, a) = words_drop n ws a

pub words_zeros : (n : ℕ) → AllWords (replicate n 0)
words_zeros zero = tt
words_zeros (suc n) = (omega arith, words_zeros n)
