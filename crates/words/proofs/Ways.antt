-- The ways through one group of a number: what `groups` is where the byte is cut off, is the fifth, is a last one, or has
-- others after it; b is the byte at the position.
-- Assumes nothing.
use mathlib.Core.Path.{◌≡◌, refl, ap, ◌∙◌}
use mathlib.Core.Bool.{◌||◌, ◌&&◌}
use mathlib.Core.List.{List, [], ◌∷◌}
use Prim.Native.Nat.{ℕ, zero, suc, ◌+◌, ◌-◌, ◌%◌, ◌≤◌, ◌<◌}
use native.Mathlib.Nat.{le_of_suc-le-suc, not-suc-le-zero}
use native.Mathlib.Numerals.{sub-one}
use native.Mathlib.Decide.{dec_lt}
use native.Mathlib.Omega.{arith}
use lib.ListN.{length, get_or, get_or-eq_default}
use lib.Dec.{eqb, ltb}
use borrow.Author.Tests.{lt-ltb, le-ltb}
use Rattle.words.specs.Answer.{Answer, refused, demand}
use Rattle.words.specs.declared.Reading.{Reading}
use Rattle.words.specs.Number.{reading, byte_at, carry, groups}

-- below the length the default does not matter
pub any_default : (l : List ℕ) (i d e : ℕ) → i < length l → get_or l i d ≡ get_or l i e
any_default [] i d e h = absurd (not-suc-le-zero h)
any_default (x ∷ l) zero d e h = refl
any_default (x ∷ l) (suc i) d e h = any_default l i d e (le_of_suc-le-suc h)

-- a byte that is there
pub byte_there : (bytes : List ℕ) (at : ℕ) → at < length bytes → get_or bytes at 0 ≡ byte_at bytes at
unfolding byte_at
byte_there bytes at h = any_default bytes at 0 256 h

-- a byte lies before the end
pub inside_of : (bytes : List ℕ) (at b : ℕ) → b ≡ byte_at bytes at → b < 256 → at < length bytes
unfolding byte_at
inside_of bytes at b e h = by (dec_lt at (length bytes))
  where
    by : Dec (at < length bytes) → at < length bytes
    by (yes l) = l
    by (no l) = let d : get_or bytes at 256 ≡ 256 = get_or-eq_default bytes 256 (omega arith) in absurd (omega arith)

-- the bytes end before the number does
pub groups_cut : (bytes : List ℕ) (place more at : ℕ) → length bytes ≤ at → refused 1 place ≡ groups bytes place more at
unfolding groups byte_at
groups_cut bytes place zero at h = rw (get_or-eq_default bytes 256 h)
groups_cut bytes place (suc more) at h = rw (get_or-eq_default bytes 256 h)

module _ (bytes : List ℕ) (place at b : ℕ) (e : b ≡ byte_at bytes at) where
  -- a fifth byte
  pub groups_fifth : (more : ℕ) (answer : Answer Reading) → b ≤ 255 → more ≡ 0 →
      answer ≡ demand (ltb 0 b && ltb b 16) 2 place (reading b (at + 1)) → answer ≡ groups bytes place more at
  unfolding groups
  groups_fifth more answer h none a =
      let small : b < 256 = omega arith in
      rw (none, ← e, lt-ltb b 256 small) a

  -- a last byte before the fifth
  pub groups_last : (more : ℕ) (answer : Answer Reading) → (more ≡ 0 → ⊥) → b < 128 →
      answer ≡ demand (ltb 0 b || eqb at place) 2 place (reading b (at + 1)) → answer ≡ groups bytes place more at
  unfolding groups
  groups_last zero answer some h a = absurd (some refl)
  groups_last (suc more) answer some h a =
      let small : b < 256 = omega arith in
      rw (← e, lt-ltb b 256 small, lt-ltb b 128 h) a

  -- a byte with others after it
  pub groups_longer : (more : ℕ) (answer : Answer Reading) → b ≤ 255 → (more ≡ 0 → ⊥) → 128 ≤ b →
      answer ≡ groups bytes place (more - 1) (at + 1) → carry (b % 128) answer ≡ groups bytes place more at
  unfolding groups
  groups_longer zero answer h some l a = absurd (some refl)
  groups_longer (suc more) answer h some l a =
      let small : b < 256 = omega arith in
      rw (← e, lt-ltb b 256 small, le-ltb b 128 l) (ap (carry (b % 128)) (a ∙ ap (λ (k : ℕ). groups bytes place k (at + 1)) (sub-one (suc more))))
