-- How long numbers are as text: at most twenty digits, and ten of a 32-bit word.
-- Assumes nothing.
use Rattle.std.proofs.Common.{ℕ, zero, suc, ◌+◌, ◌*◌, ◌/◌, ◌%◌, ◌^◌, ◌≤◌, ◌<◌, List, [], ◌∷◌, length, length-append, inr, arith}
use Rattle.std.proofs.Math.Nat.{mul-suc, pow-suc}
use native.Mathlib.Decide.{dec_lt}
use Rattle.words.proofs.AllWords.{AllWords}
use Rattle.text.specs.Decimals.{digits_in, decimal, spaced}
use Rattle.text.proofs.Decimals.{last_only, front-first}

-- one digit more than stand before the last, if any do
digits_next : (more n most : ℕ) → (10 ≤ n → length (digits_in more (n / 10)) ≤ most) → length (digits_in (suc more) n) ≤ suc most
digits_next more n most front = by (dec_lt n 10)
  where
    by : Dec (n < 10) → length (digits_in (suc more) n) ≤ suc most
    by (yes h) = rw (last_only (suc more) n (inr h)) (omega arith)
    by (no h) =
        let ten : 10 ≤ n = omega arith in
        rw (front-first more n ten) (omega (arith, front ten, length-append (digits_in more (n / 10)) ((48 + n % 10) ∷ [])))

digits_most : (more n : ℕ) → length (digits_in more n) ≤ suc more
unfolding digits_in
digits_most zero n = omega arith
digits_most (suc more) n = digits_next more n (suc more) (λ ten. digits_most more (n / 10))

digits_below : (more k n : ℕ) → n < 10 ^ suc k → length (digits_in more n) ≤ suc k
unfolding digits_in
digits_below zero k n h = omega arith
digits_below (suc more) zero n h = digits_next more n 0 (λ ten. absurd (omega arith))
digits_below (suc more) (suc k) n h = digits_next more n (suc k) (λ ten. digits_below more k (n / 10) (omega (arith, pow-suc 10 (suc k))))

pub decimal-length : (n : ℕ) → length (decimal n) ≤ 20
unfolding decimal
decimal-length n = digits_most 19 n

pub word_length : (w : ℕ) → w < 2 ^ 32 → length (decimal w) ≤ 10
unfolding decimal
word_length w h = digits_below 19 9 w (omega arith)

-- one space and the digits of a word more
spaced_more : (most w : ℕ) (ws : List ℕ) → length (decimal w) ≤ most → length (spaced ws) ≤ suc most * length ws
    → length (spaced (w ∷ ws)) ≤ suc most * length (w ∷ ws)
unfolding spaced
spaced_more most w ws h rest =
    omega (arith, length-append (32 ∷ decimal w) (spaced ws), mul-suc (suc most) (length ws))

pub spaced-length : (ws : List ℕ) → length (spaced ws) ≤ 21 * length ws
unfolding spaced
spaced-length [] = omega arith
spaced-length (w ∷ ws) = spaced_more 20 w ws (decimal-length w) (spaced-length ws)

pub words_length : (ws : List ℕ) → AllWords ws → length (spaced ws) ≤ 11 * length ws
unfolding spaced
words_length [] a = omega arith
words_length (w ∷ ws) (h, a) = spaced_more 10 w ws (word_length w h) (words_length ws a)
