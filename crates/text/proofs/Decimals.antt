-- The ways through writing a number's digits: the last of them alone, or after those before it.
-- Assumes nothing.
use Rattle.std.proofs.Common.{◌≡◌, ℕ, zero, suc, ◌+◌, ◌-◌, ◌*◌, ◌/◌, ◌%◌, ◌<◌, ◌≤◌, List, [], ◌∷◌, ◌++◌, length, get_or, take, drop, refl, sym, ap, ◌∙◌, arith, append_assoc, append-nil, ◌⊎◌, inl, inr, add-one, drop-cons, None, Some}
use Rattle.std.proofs.lemmas.List.{take_more}
use Rattle.std.proofs.Math.ListN.{drop_of_length-le}
use borrow.Author.Tests.{lt-ltb, le-ltb, le-leb, lt-leb}
use Rattle.text.specs.Decimals.{digits_in, decimal, spaced, value_from, value_of}
use Rattle.text.specs.Places.{appended}
use Rattle.text.specs.declared.Text.{Text}
use Rattle.text.proofs.Writing.{appended_then}

-- no digit may stand before the last, or none has to
pub last_only : (more n : ℕ) → (more ≤ 0) ⊎ (n < 10) → digits_in more n ≡ (48 + n % 10) ∷ []
unfolding digits_in
last_only zero n h = refl
last_only (suc more) n (inl h) = absurd (omega arith)
last_only (suc more) n (inr h) = rw (lt-ltb n 10 h)

pub front-first : (more n : ℕ) → 10 ≤ n → digits_in (suc more) n ≡ digits_in more (n / 10) ++ ((48 + n % 10) ∷ [])
unfolding digits_in
front-first more n h = rw (le-ltb n 10 h)

-- the digits before the last, then the last
pub digits_more : (t : Text) (more n : ℕ) → 0 < more → 10 ≤ n
    → appended (appended t (digits_in (more - 1) (n / 10))) ((48 + n % 10) ∷ []) ≡ appended t (digits_in more n)
digits_more t zero n h k = absurd (omega arith)
digits_more t (suc more) n h k =
    let e : suc more - 1 ≡ more = omega arith in
    rw (e, front-first more n k) (appended_then t (digits_in more (n / 10)) ((48 + n % 10) ∷ []))

pub spaced-append : (xs ys : List ℕ) → spaced (xs ++ ys) ≡ spaced xs ++ spaced ys
unfolding spaced
spaced-append [] ys = refl
spaced-append (x ∷ xs) ys =
    ap (λ (r : List ℕ). (32 ∷ decimal x) ++ r) (spaced-append xs ys) ∙ sym (append_assoc (32 ∷ decimal x) (spaced xs) (spaced ys))

-- a space, then the number
pub spaced_one : (t : Text) (w : ℕ) → appended (appended t (32 ∷ [])) (decimal w) ≡ appended t (spaced (w ∷ []))
unfolding spaced
spaced_one t w = rw (append-nil (32 ∷ decimal w)) (appended_then t (32 ∷ []) (decimal w))

-- words, then further words
pub spaced_then : (t : Text) (xs ys : List ℕ) → appended (appended t (spaced xs)) (spaced ys) ≡ appended t (spaced (xs ++ ys))
spaced_then t xs ys = rw (spaced-append xs ys) (appended_then t (spaced xs) (spaced ys))

-- the words passed, then the next word
pub spaced_more : (t : Text) (ws : List ℕ) (i : ℕ) → i < length ws
    → appended (appended t (spaced (take i ws))) (spaced (get_or ws i 0 ∷ [])) ≡ appended t (spaced (take (i + 1) ws))
spaced_more t ws i h = rw (take_more ws i 0 h) (spaced_then t (take i ws) (get_or ws i 0 ∷ []))

-- the ways through reading a number's digits, i of the text's bytes passed
module _ (text : List ℕ) (n i : ℕ) (h : i < length text) where
  abbrev b : ℕ
  b = get_or text i 0

  at_byte : drop i text ≡ b ∷ drop (i + 1) text
  at_byte = rw (add-one, drop-cons text i 0)

  pub value_other : (b < 48) ⊎ (57 < b) → None ≡ value_from n (drop i text)
  unfolding value_from
  value_other (inl e) = rw (at_byte, lt-leb 48 b e)
  value_other (inr e) = rw (at_byte, le-leb 48 b (omega arith), lt-leb b 57 e)

  pub value_large : 48 ≤ b → b ≤ 57 → 4294967295 < 10 * n + (b - 48) → None ≡ value_from n (drop i text)
  unfolding value_from
  value_large d e f =
      let digit : b % 48 ≡ b - 48 = omega arith in
      rw (at_byte, digit, le-leb 48 b d, le-leb b 57 e, lt-leb (10 * n + (b - 48)) 4294967295 f)

  pub value_more : (m : ℕ) → 48 ≤ b → b ≤ 57 → m ≡ 10 * n + (b - 48) → m ≤ 4294967295 → value_from n (drop i text) ≡ value_from m (drop (i + 1) text)
  unfolding value_from
  value_more m d e f k =
      let digit : 10 * n + b % 48 ≡ m = omega arith in
      rw (at_byte, digit, le-leb 48 b d, le-leb b 57 e, le-leb m 4294967295 k)

pub value_whole : (text : List ℕ) (n i : ℕ) → length text ≤ i → Some n ≡ value_from n (drop i text)
unfolding value_from
value_whole text n i h = rw (drop_of_length-le text h)

pub value_none : (text : List ℕ) → (length text ≡ 0) ⊎ (10 < length text) → None ≡ value_of text
unfolding value_of
value_none text (inl e) = rw e
value_none text (inr h) = rw (le-leb 1 (length text) (omega arith), lt-leb (length text) 10 h)

pub value_start : (text : List ℕ) → 0 < length text → length text ≤ 10 → value_of text ≡ value_from 0 (drop 0 text)
unfolding value_of
value_start text h k = rw (le-leb 1 (length text) h, le-leb (length text) 10 k)
