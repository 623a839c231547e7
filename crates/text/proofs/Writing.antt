-- Texts written one after the other are one text written.
-- Assumes nothing.
use Rattle.std.proofs.Common.{◌≡◌, ℕ, suc, ◌+◌, ◌<◌, ◌≤◌, min, List, [], ◌∷◌, ◌++◌, length, get_or, take, drop, refl, sym, ap, ◌∙◌, arith, length-append}
use Rattle.std.proofs.Math.ListN.{set}
use Rattle.std.proofs.Math.Seq.{sets, set_out, take_at}
use Rattle.std.proofs.lemmas.List.{take_more}
use Rattle.std.proofs.lemmas.Bool.Decides.{nat_tests}
use native.Mathlib.Decide.{dec_le}
use Rattle.words.specs.Buffer.{over, put}
use Rattle.words.proofs.Puts.{put_nil, put_one, put-at, put-put, put-over, length-put}
use Rattle.text.specs.Places.{place_after, Wrote, appended}
use Rattle.text.specs.declared.Text.{Text}

-- the place behind the text, or the buffer's end where that is nearer
pub place_min : (room at size : ℕ) → place_after room at size ≡ min (at + size) room
unfolding place_after
place_min room at size = grind (arith, nat_tests)

sets_out : (ws l : List ℕ) (i : ℕ) → length l ≤ i → sets l i ws ≡ l
sets_out [] l i h = refl
sets_out (w ∷ ws) l i h =
    let e : set l i w ≡ l = set_out l i w h in
    rw e (sets_out ws l (suc i) (omega arith))

-- nothing is put past the end
pub put_out : (l : List ℕ) (i : ℕ) (ws : List ℕ) → length l ≤ i → put l i ws ≡ l
unfolding put
put_out l i ws h = sets_out ws l i h

-- what is put behind a text, where the text fits and where it does not
put_behind : (l : List ℕ) (at : ℕ) (xs ys : List ℕ) → put (put l at xs) (min (at + length xs) (length l)) ys ≡ put l at (xs ++ ys)
put_behind l at xs ys = by (dec_le (at + length xs) (length l))
  where
    by : Dec (at + length xs ≤ length l) → put (put l at xs) (min (at + length xs) (length l)) ys ≡ put l at (xs ++ ys)
    by (yes h) = put-at l at (min (at + length xs) (length l)) xs ys (omega arith)
    by (no h) =
        let whole = length-put l at xs in
        put_out (put l at xs) (min (at + length xs) (length l)) ys (omega arith)
        ∙ sym (put_out (put l at xs) (at + length xs) ys (omega arith)) ∙ put-put l at xs ys

module _ (t : Text) where
  abbrev l : List ℕ
  l = t.out.now

  -- a buffer and a place that are what a text leaves
  left_by : (text after : List ℕ) (place : ℕ) → after ≡ put l t.at text → place ≡ min (t.at + length text) (length l)
      → record { out = record t.out { now = after }; at = place } ≡ appended t text
  unfolding appended
  left_by text after place e f =
      let there : place ≡ place_after (length l) t.at (length text) = f ∙ sym (place_min (length l) t.at (length text)) in
      λ i. record { out = record t.out { now = e i }; at = there i }

  -- a byte where there is room, a byte that is lost, and no text
  pub appended_one : (b : ℕ) → t.at < length l → record { out = record t.out { now = set l t.at b }; at = t.at + 1 } ≡ appended t (b ∷ [])
  appended_one b h = left_by (b ∷ []) (set l t.at b) (t.at + 1) (sym (put_one l t.at b)) (omega arith)

  pub appended_lost : (b : ℕ) → length l ≤ t.at → record { out = t.out; at = length l } ≡ appended t (b ∷ [])
  appended_lost b h = left_by (b ∷ []) l (length l) (sym (put_out l t.at (b ∷ []) h)) (omega arith)

  pub appended_none : (place : ℕ) → place ≡ min t.at (length l) → record { out = t.out; at = place } ≡ appended t []
  appended_none place e = left_by [] l place (sym (put_nil l t.at)) (omega arith)

-- a text after a text
pub appended_then : (t : Text) (xs ys : List ℕ) → appended (appended t xs) ys ≡ appended t (xs ++ ys)
unfolding appended
appended_then t xs ys =
    let l = t.out.now in
    let at = t.at in
    let here : put (put l at xs) (place_after (length l) at (length xs)) ys ≡ put l at (xs ++ ys) =
    rw place_min (put_behind l at xs ys) in
    let place : place_after (length (put l at xs)) (place_after (length l) at (length xs)) (length ys) ≡ place_after (length l) at (length (xs ++ ys)) =
    simp (place_min, length-put, length-append) (omega arith) in
    cc

-- the front of a text, and then its next byte
pub appended_more : (t : Text) (text : List ℕ) (i : ℕ) → i < length text
    → appended (appended t (take i text)) (get_or text i 0 ∷ []) ≡ appended t (take (i + 1) text)
appended_more t text i h = rw (take_more text i 0 h) (appended_then t (take i text) (get_or text i 0 ∷ []))

place_inside : (room at size : ℕ) → place_after room at size ≤ room
place_inside room at size = omega (arith, place_min room at size)

-- the place after a text lies in the buffer
pub wrote_inside : (l m : List ℕ) (at p : ℕ) (text : List ℕ) → Wrote l at text m p → p ≤ length m
wrote_inside l m at p text w =
    omega (arith, place_inside (length l) at (length text), w.place_is, ap length w.buffer_is, length-put l at text)

-- a text that fits stands in the buffer whole, up to the place after it
pub wrote_fits : (l m : List ℕ) (p : ℕ) (text : List ℕ) → length text ≤ length l → Wrote l 0 text m p → take p m ≡ text
unfolding over
wrote_fits l m p text h w =
    let end : length text ≡ p = omega (arith, w.place_is, place_min (length l) 0 (length text)) in
    ap (take p) (w.buffer_is ∙ put-over l text h) ∙ take_at text (drop (length text) l) p end
