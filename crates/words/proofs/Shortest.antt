-- The shortest form of a number, byte by byte: how long it is, and what a loop over its bytes has behind it and before it.
-- Assumes nothing.
use mathlib.Core.Path.{◌≡◌, refl}
use mathlib.Core.Bool.{Bool, true, false, cond}
use mathlib.Core.List.{List, [], ◌∷◌}
use Prim.Native.Nat.{ℕ, zero, suc, ◌+◌, ◌*◌, ◌-◌, ◌/◌, ◌%◌, ◌^◌, ◌≤◌, ◌<◌}
use native.Mathlib.Nat.{add-zero}
use native.Mathlib.Omega.{arith}
use lib.ListN.{length, set}
use lib.Dec.{ltb}
use borrow.Author.Tests.{lt-ltb, le-ltb}
use Rattle.words.specs.Buffer.{put}
use Rattle.words.specs.Number.{shortest, number_of}
use Rattle.words.proofs.Puts.{put_one, put_more}

-- a value below 128 is its own last byte
pub shortest_last : (more v : ℕ) → v < 128 → shortest more v ≡ v ∷ []
unfolding shortest
shortest_last zero v h = refl
shortest_last (suc more) v h = rw (lt-ltb v 128 h)

-- no form is longer than the bytes that may follow allow
short : (more v : ℕ) → length (shortest more v) ≤ suc more
unfolding shortest
short zero v = omega arith
short (suc more) v = by (ltb v 128) (short more (v / 128))
  where
    by : (last : Bool) → length (shortest more (v / 128)) ≤ suc more →
        length (cond last (v ∷ []) ((128 + v % 128) ∷ shortest more (v / 128))) ≤ suc (suc more)
    by true h = omega arith
    by false h = omega arith

pub number_short : (v : ℕ) → length (number_of v) ≤ 5
unfolding number_of
number_short v = short 4 v

-- a value from 128 on has bytes after its first
pub shortest_more : (more v : ℕ) → 128 ≤ v → shortest (suc more) v ≡ (128 + v % 128) ∷ shortest more (v / 128)
unfolding shortest
shortest_more more v h = rw (le-ltb v 128 h)

pub record Longer (more v : ℕ) : Type 0 where
  pub some : 0 < more
  pub small : v / 128 < 16 * 128 ^ (more - 1)
  pub form : shortest more v ≡ (128 + v % 128) ∷ shortest (more - 1) (v / 128)

pub shortest_longer : (more v : ℕ) → 128 ≤ v → v < 16 * 128 ^ more → Longer more v
shortest_longer zero v h s = absurd (omega arith)
shortest_longer (suc more) v h s =
    let e : suc more - 1 ≡ more = omega arith in
    record { some = omega arith; small = rw e (omega arith); form = rw e (shortest_more more v h) }

-- the loop over a value's bytes: `size` of them are behind, and the rest is small enough for those that may follow
pub record Left (value size rest : ℕ) : Type 0 where
  pub few : size ≤ 4
  pub small : rest < 16 * 128 ^ (4 - size)
  pub length_is : length (number_of value) ≡ size + length (shortest (4 - size) rest)

pub left_all : (value : ℕ) → value < 2 ^ 32 → Left value 0 value
unfolding number_of
left_all value h = record { few = omega arith; small = omega arith; length_is = omega arith }

pub put_first : (out : List ℕ) (at value : ℕ) → put out at (number_of value) ≡ put out (at + 0) (shortest 4 value)
unfolding number_of
put_first out at value = rw add-zero

module _ (value size rest : ℕ) (left : Left value size rest) where
  -- a byte with others after it
  module _ (h : 128 ≤ rest) where
    longer : Longer (4 - size) rest
    longer = shortest_longer (4 - size) rest h left.small

    one_less : 4 - size - 1 ≡ 4 - (size + 1)
    one_less = omega arith

    pub left_more : Left value (size + 1) (rest / 128)
    left_more =
        record {
          few = omega (arith, longer.some, left.few);
          small = rw one_less at longer.small;
          length_is = rw (left.length_is, longer.form, one_less) (omega arith);
        }

    pub put_longer : (out after : List ℕ) (at : ℕ) → after ≡ set out (at + size) (128 + rest % 128) →
        put out (at + size) (shortest (4 - size) rest) ≡ put after (at + (size + 1)) (shortest (4 - (size + 1)) (rest / 128))
    put_longer out after at a =
        let e : at + size + 1 ≡ at + (size + 1) = omega arith in
        rw (longer.form, one_less, a, ← e) (put_more out (at + size) (128 + rest % 128) (shortest (4 - (size + 1)) (rest / 128)))

  -- the last byte
  module _ (h : rest < 128) where
    pub size_last : size + 1 ≡ length (number_of value)
    size_last = rw (left.length_is, shortest_last (4 - size) rest h)

    pub put_last : (out after : List ℕ) (at : ℕ) → after ≡ set out (at + size) rest → after ≡ put out (at + size) (shortest (4 - size) rest)
    put_last out after at a = rw (a, shortest_last (4 - size) rest h, put_one)
