-- Laws of upward writes: two in a row are one, and a whole that fits lies over the buffer's first words.
-- Assumes nothing.
use mathlib.Core.Path.{◌≡◌, refl, sym, ap, ◌∙◌}
use Prim.Native.Nat.{ℕ, suc, ◌+◌, ◌≤◌}
use native.Mathlib.Nat.{add-zero, add-suc, suc-add, zero-add}
use native.Mathlib.Numerals.{add-one}
use mathlib.Core.List.{List, [], ◌∷◌, ◌++◌}
use lib.ListN.{length, drop, set}
use lib.Seq.{sets, sets-eq, length-sets}
use Rattle.words.specs.Buffer.{over, put}

pub put_nil : (l : List ℕ) (i : ℕ) → put l i [] ≡ l
unfolding put
put_nil l i = refl

-- one store is a put of one word
pub put_one : (l : List ℕ) (i w : ℕ) → put l i (w ∷ []) ≡ set l i w
unfolding put
put_one l i w = refl

-- the first word, then the others after it
pub put_more : (l : List ℕ) (i w : ℕ) (ws : List ℕ) → put l i (w ∷ ws) ≡ put (set l i w) (i + 1) ws
unfolding put
put_more l i w ws = rw (add-one i)

pub length-put : (l : List ℕ) (i : ℕ) (ws : List ℕ) → length (put l i ws) ≡ length l
unfolding put
length-put l i ws = length-sets l i ws

sets-append : (xs l : List ℕ) (i : ℕ) (ys : List ℕ) → sets (sets l i xs) (i + length xs) ys ≡ sets l i (xs ++ ys)
sets-append [] l i ys = ap (λ (k : ℕ). sets l k ys) (add-zero i)
sets-append (x ∷ xs) l i ys =
    ap (λ (k : ℕ). sets (sets (set l i x) (suc i) xs) k ys) (add-suc i (length xs) ∙ sym (suc-add i (length xs)))
    ∙ sets-append xs (set l i x) (suc i) ys

-- what is put after what was put
pub put-put : (l : List ℕ) (i : ℕ) (xs ys : List ℕ) → put (put l i xs) (i + length xs) ys ≡ put l i (xs ++ ys)
unfolding put
put-put l i xs ys = sets-append xs l i ys

-- the same, the place after the first words named
pub put-at : (l : List ℕ) (i k : ℕ) (xs ys : List ℕ) → k ≡ i + length xs → put (put l i xs) k ys ≡ put l i (xs ++ ys)
put-at l i k xs ys e = ap (λ (n : ℕ). put (put l i xs) n ys) e ∙ put-put l i xs ys

-- from the front, what fits lies over the first words
pub put-over : (l ws : List ℕ) → length ws ≤ length l → put l 0 ws ≡ over ws l
unfolding put over
put-over l ws h =
    sets-eq ws l 0 (rw zero-add h) ∙ ap (λ (k : ℕ). ws ++ drop k l) (zero-add (length ws))
