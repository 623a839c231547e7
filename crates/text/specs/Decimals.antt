-- Document 01, "One listing, whole": numbers as the programs print them and take them, in decimal.
-- Assumes nothing.
use Rattle.std.specs.Prelude.{ℕ, zero, suc, ◌+◌, ◌*◌, ◌/◌, ◌%◌, cond, ◌&&◌, List, [], ◌∷◌, ◌++◌, length, ltb, leb, Option, None, Some}

-- the digits of a number, at most `more` before the last
unfoldable pub digits_in : ℕ → ℕ → List ℕ
digits_in zero n = (48 + n % 10) ∷ []
digits_in (suc more) n = let front = digits_in more (n / 10) in cond (ltb n 10) ((48 + n % 10) ∷ []) (front ++ ((48 + n % 10) ∷ []))

-- a number's decimal digits: twenty are enough for any
unfoldable pub decimal : ℕ → List ℕ
decimal n = digits_in 19 n

-- words as text, one space before each
unfoldable pub spaced : List ℕ → List ℕ
spaced [] = []
spaced (w ∷ ws) = (32 ∷ decimal w) ++ spaced ws

-- the number that digits stand for, after those before them; none where one is no digit or the number is no 32-bit word
unfoldable pub value_from : ℕ → List ℕ → Option ℕ
value_from n [] = Some n
value_from n (b ∷ bs) =
    let rest = value_from (10 * n + b % 48) bs in
    cond (leb 48 b && (leb b 57 && leb (10 * n + b % 48) 4294967295)) rest None

-- the number that a text of one to ten digits stands for
unfoldable pub value_of : List ℕ → Option ℕ
value_of text = cond (leb 1 (length text) && leb (length text) 10) (value_from 0 text) None
