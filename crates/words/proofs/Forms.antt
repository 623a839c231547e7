-- A number has one form: what `number_of` writes is read as the number, and a number that is read stands in that form.
-- Assumes nothing.
use mathlib.Core.Path.{◌≡◌, refl, ap, ◌∙◌}
use mathlib.Core.Bool.{true, ◌||◌, ◌&&◌}
use mathlib.Core.List.{List, [], ◌∷◌, ◌++◌}
use Prim.Native.Nat.{ℕ, zero, suc, ◌+◌, ◌*◌, ◌/◌, ◌%◌, ◌^◌, ◌≤◌, ◌<◌}
use native.Mathlib.Decide.{dec_lt, ℕ_discrete}
use native.Mathlib.Numerals.{add-one}
use native.Mathlib.Omega.{arith}
use lib.ListN.{length, get_or, drop}
use lib.Seq.{drop-cons}
use lib.Dec.{eqb, ltb}
use borrow.Author.Tests.{lt-ltb, le-ltb, eq-eqb, ltb-true, ltb-false}
use Rattle.words.specs.Answer.{Answer, given}
use Rattle.words.specs.declared.Reading.{Reading}
use Rattle.words.specs.Number.{reading, byte_at, carry, groups, number_at, shortest, number_of}
use Rattle.words.proofs.Ways.{inside_of}
use Rattle.words.proofs.Answers.{Of, of_given, of_refused, of_demand, of_cond, when_given, both, Any}
use Rattle.words.proofs.Numbers.{Groups, Malformed, groups_law}
use Rattle.words.proofs.Shortest.{shortest_last, shortest_more}

-- the first of what is left, and what is left after it
pub dropped_first : (l : List ℕ) (at d b : ℕ) (rest : List ℕ) → drop at l ≡ b ∷ rest → (get_or l at d ≡ b) × (drop (at + 1) l ≡ rest)
dropped_first [] zero d b rest e = (cc, cc)
dropped_first [] (suc at) d b rest e = (cc, cc)
dropped_first (x ∷ l) zero d b rest e = (cc, cc)
dropped_first (x ∷ l) (suc at) d b rest e = rw add-one (rw add-one at (dropped_first l at d b rest e))

module _ (bytes post : List ℕ) (place : ℕ) where
  -- the last byte of a value, before the fifth
  read_last : (more at v : ℕ) → v < 128 → (ltb 0 v || eqb at place) ≡ true → drop at bytes ≡ v ∷ post →
      groups bytes place (suc more) at ≡ reading v (at + 1)
  unfolding groups byte_at
  read_last more at v h last e =
      let small : v < 256 = omega arith in
      rw ((dropped_first bytes at 256 v post e).0, lt-ltb v 256 small, lt-ltb v 128 h, last)

  -- a byte with others after it
  read_longer : (more at v : ℕ) → 128 ≤ v → drop at bytes ≡ shortest (suc more) v ++ post →
      (drop (at + 1) bytes ≡ shortest more (v / 128) ++ post →
      groups bytes place more (at + 1) ≡ reading (v / 128) (at + 1 + length (shortest more (v / 128)))) →
      groups bytes place (suc more) at ≡ reading v (at + length (shortest (suc more) v))
  unfolding groups byte_at
  read_longer more at v h e rest =
      let b : ℕ = 128 + v % 128 in
      let first = dropped_first bytes at 256 b (shortest more (v / 128) ++ post) (rw (shortest_more more v h) at e) in
      let byte : b < 256 = omega arith in
      let long : 128 ≤ b = omega arith in
      let whole : b % 128 + 128 * (v / 128) ≡ v = omega arith in
      let end : at + 1 + length (shortest more (v / 128)) ≡ at + suc (length (shortest more (v / 128))) = omega arith in
      rw (first.0, lt-ltb b 256 byte, le-ltb b 128 long, rest first.1, shortest_more more v h, whole, end)

  -- a value above 0, from its first byte on
  read_groups : (more at v : ℕ) → 0 < v → v < 16 * 128 ^ more → drop at bytes ≡ shortest more v ++ post →
      groups bytes place more at ≡ reading v (at + length (shortest more v))
  unfolding groups byte_at shortest
  read_groups zero at v some small e =
      let byte : v < 256 = omega arith in
      let fifth : v < 16 = omega arith in
      rw ((dropped_first bytes at 256 v post e).0, lt-ltb v 256 byte, lt-ltb 0 v some, lt-ltb v 16 fifth)
  read_groups (suc more) at v some small e = by (dec_lt v 128) (λ h. read_longer more at v h e (read_groups more (at + 1) (v / 128) (omega arith) (omega arith)))
    where
      by : Dec (v < 128) → (128 ≤ v → groups bytes place (suc more) at ≡ reading v (at + length (shortest (suc more) v))) →
          groups bytes place (suc more) at ≡ reading v (at + length (shortest (suc more) v))
      by (yes l) longer =
          rw (shortest_last (suc more) v l) (read_last more at v l (rw (lt-ltb 0 v some)) (rw (shortest_last (suc more) v l) at e))
      by (no l) longer = longer (omega arith)

-- what was written is read
pub number_read : (bytes post : List ℕ) (at v : ℕ) → v < 2 ^ 32 → drop at bytes ≡ number_of v ++ post → number_at bytes at ≡ reading v (at + length (number_of v))
unfolding number_at number_of
number_read bytes post at v small e = by (ℕ_discrete v 0)
  where
    by : Dec (v ≡ 0) → groups bytes at 4 at ≡ reading v (at + length (shortest 4 v))
    by (yes z) =
        let low : v < 128 = omega arith in
        rw (shortest_last 4 v low) (read_last bytes post at 3 at v low (rw (z, eq-eqb at at refl)) (rw (shortest_last 4 v low) at e))
    by (no z) = read_groups bytes post at 4 at v (omega arith) (omega arith) e

-- the bytes from a position on are a value's form, and then what stands after it
abbrev Form : List ℕ → ℕ → ℕ → Reading → Type 0
Form bytes more at r = drop at bytes ≡ shortest more r.value ++ drop r.next bytes

module _ (bytes : List ℕ) (place : ℕ) where
  -- one byte of those that are left
  one_byte : (at b : ℕ) → b ≡ byte_at bytes at → b < 256 → drop at bytes ≡ b ∷ drop (at + 1) bytes
  unfolding byte_at
  one_byte at b e h = rw (e, add-one) (drop-cons bytes at 256 (inside_of bytes at b e h))

  last_form : (more at b : ℕ) → b ≡ byte_at bytes at → b < 128 → Form bytes more at (record { value = b; next = at + 1 })
  last_form more at b e h = rw (shortest_last more b h) (one_byte at b e (omega arith))

  of_carry : (more at b : ℕ) {answer : Answer Reading} → place ≤ at → b ≡ byte_at bytes at → 128 ≤ b → b < 256 →
      Of (Groups bytes place more (at + 1)) (Malformed place) answer → Of (Form bytes more (at + 1)) Any answer →
      Of (Form bytes (suc more) at) Any (carry (b % 128) answer)
  of_carry more at b h e long byte (of_given {a = r} law) (of_given form) = of_given longer
    where
      longer : Form bytes (suc more) at (record { value = b % 128 + 128 * r.value; next = r.next })
      longer =
          let some : 0 < r.value = law.some (omega arith) in
          let high : 128 ≤ b % 128 + 128 * r.value = omega arith in
          let first : 128 + (b % 128 + 128 * r.value) % 128 ≡ b = omega arith in
          let rest : (b % 128 + 128 * r.value) / 128 ≡ r.value = omega arith in
          rw (shortest_more more (b % 128 + 128 * r.value) high, first, rest) (one_byte at b e byte ∙ ap (λ (l : List ℕ). b ∷ l) form)
  of_carry more at b h e long byte (of_refused law) form = of_refused tt

  groups_form : (more at : ℕ) → place ≤ at → Of (Form bytes more at) Any (groups bytes place more at)
  unfolding groups
  groups_form zero at h =
      of_demand (ltb (byte_at bytes at) 256) 1 place _
      (λ t. of_demand (ltb 0 (byte_at bytes at) && ltb (byte_at bytes at) 16) 2 place _ (λ u. of_given (fifth (both (ltb 0 (byte_at bytes at)) _ u).1)) (λ _. tt))
      (λ _. tt)
    where
      fifth : ltb (byte_at bytes at) 16 ≡ true → Form bytes 0 at (record { value = byte_at bytes at; next = at + 1 })
      fifth t = last_form 0 at (byte_at bytes at) refl (omega (arith, ltb-true (byte_at bytes at) 16 t))
  groups_form (suc more) at h =
      of_demand (ltb (byte_at bytes at) 256) 1 place _
      (λ t. of_cond (ltb (byte_at bytes at) 128) _ _
      (λ s. of_demand (ltb 0 (byte_at bytes at) || eqb at place) 2 place _
      (λ _. of_given (last_form (suc more) at (byte_at bytes at) refl (ltb-true _ _ s)))
      (λ _. tt))
      (λ s. of_carry more at (byte_at bytes at) h refl (ltb-false _ _ s) (ltb-true _ _ t)
      (groups_law bytes place more (at + 1))
      (groups_form more (at + 1) (omega arith))))
      (λ _. tt)

-- what was read is written
pub number_form : (bytes : List ℕ) (at : ℕ) {r : Reading} → number_at bytes at ≡ given r → drop at bytes ≡ number_of r.value ++ drop r.next bytes
unfolding number_at number_of
number_form bytes at e = when_given e (groups_form bytes at 4 at (omega arith))
