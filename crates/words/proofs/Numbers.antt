-- Laws of a read number: where it ends, how large it is, how it is refused, and that only its own bytes count.
-- Assumes nothing.
use mathlib.Core.Path.{◌≡◌, refl, sym, ap, ◌∙◌}
use mathlib.Core.Bool.{true, ◌||◌, ◌&&◌}
use mathlib.Core.List.{List}
use mathlib.Core.Logic.{◌⊎◌, ⊎_elim}
use Prim.Native.Nat.{ℕ, zero, suc, ◌+◌, ◌*◌, ◌-◌, ◌%◌, ◌^◌, ◌≤◌, ◌<◌}
use native.Mathlib.Nat.{one-le-pow, pow-le-pow_right}
use native.Mathlib.Omega.{arith}
use lib.ListN.{length, take}
use lib.Seq.{get_or-take}
use lib.Dec.{eqb, ltb}
use borrow.Author.Tests.{ltb-true, eqb-true}
use Rattle.words.specs.Answer.{Answer, given, refused}
use Rattle.std.specs.Prelude.{Result, Ok}
use Rattle.words.specs.Refusals.{answer_of}
use Rattle.words.specs.Number.{byte_at, carry, groups, number_at}
use Rattle.words.specs.declared.Reading.{Reading}
use Rattle.words.specs.declared.refusals.Refusal.{Refusal}
use Rattle.words.proofs.Ways.{inside_of}
use Rattle.words.proofs.Answers.{Of, of_given, of_refused, of_demand, of_cond, of_map, when_given, when_refused, both, either}

-- what holds of the groups read at a position of the number that begins at `place`, when `more` bytes may follow
pub record Groups (bytes : List ℕ) (place more at : ℕ) (r : Reading) : Type 0 where
  pub after : at < r.next
  pub short : r.next ≤ at + suc more
  pub inside : r.next ≤ length bytes
  pub small : r.value < 16 * 128 ^ more
  pub some : place < at → 0 < r.value
  pub tight : place ≤ at → (k : ℕ) → r.value < 128 ^ suc k → r.next ≤ at + suc k

-- a number's refusal, at the number's offset
pub data Malformed (at : ℕ) : ℕ → ℕ → Type 0 where
  cut_off : Malformed at 1 at
  not_shortest : Malformed at 2 at

module _ (bytes : List ℕ) (place more at : ℕ) where
  -- the last group: the byte itself
  last_group : (b : ℕ) → at < length bytes → b < 16 * 128 ^ more → (place < at → 0 < b) →
      Groups bytes place more at (record { value = b; next = at + 1 })
  last_group b l small some =
      record { after = omega arith; short = omega arith; inside = omega arith; small = small; some = some; tight = λ b k t. omega arith }

  -- a group before others
  more_groups : (g : ℕ) (r : Reading) → g < 128 → Groups bytes place more (at + 1) r →
      Groups bytes place (suc more) at (record { value = g + 128 * r.value; next = r.next })
  more_groups g r small rest =
      record { after = omega arith; short = omega arith; inside = omega arith; small = omega arith; some = some; tight = tight }
    where
      some : place < at → 0 < g + 128 * r.value
      some l = let h : 0 < r.value = rest.some (omega arith) in omega arith

      tight : place ≤ at → (k : ℕ) → g + 128 * r.value < 128 ^ suc k → r.next ≤ at + suc k
      tight b zero t = let h : 0 < r.value = rest.some (omega arith) in omega arith
      tight b (suc k) t = let h : r.next ≤ at + 1 + suc k = rest.tight (omega arith) k (omega arith) in omega arith

  of_carry : (g : ℕ) {answer : Answer Reading} → g < 128 → Of (Groups bytes place more (at + 1)) (Malformed place) answer →
      Of (Groups bytes place (suc more) at) (Malformed place) (carry g answer)
  of_carry g small (of_given {a = r} rest) = of_given (more_groups g r small rest)
  of_carry g small (of_refused m) = of_refused m

-- what holds of every group, by the number of bytes that may follow it
pub groups_law : (bytes : List ℕ) (place more at : ℕ) →
    Of (Groups bytes place more at) (Malformed place) (groups bytes place more at)
unfolding groups
groups_law bytes place zero at =
    of_demand (ltb b 256) 1 place _
    (λ t. of_demand (ltb 0 b && ltb b 16) 2 place _ (λ u. of_given (fifth (ltb-true b 256 t) (both _ _ u))) (λ _. not_shortest))
    (λ _. cut_off)
  where
    b : ℕ
    b = byte_at bytes at

    fifth : b < 256 → (ltb 0 b ≡ true) × (ltb b 16 ≡ true) → Groups bytes place 0 at (record { value = b; next = at + 1 })
    fifth t u = last_group bytes place 0 at b (inside_of bytes at b refl t) (omega (arith, ltb-true)) (λ _. omega (arith, ltb-true))
groups_law bytes place (suc more) at =
    of_demand (ltb b 256) 1 place _
    (λ t. of_cond (ltb b 128) _ _
    (λ s. of_demand (ltb 0 b || eqb at place) 2 place _ (λ u. of_given (last (ltb-true b 128 s) (either _ _ u))) (λ _. not_shortest))
    (λ _. of_carry bytes place more at (b % 128) (omega arith) (groups_law bytes place more (at + 1))))
    (λ _. cut_off)
  where
    b : ℕ
    b = byte_at bytes at

    last : b < 128 → (ltb 0 b ≡ true) ⊎ (eqb at place ≡ true) → Groups bytes place (suc more) at (record { value = b; next = at + 1 })
    last s u =
        last_group bytes place (suc more) at b (inside_of bytes at b refl (omega arith)) (omega (arith, one-le-pow more 128 (omega arith)))
        (λ l. ⊎_elim (λ v. ltb-true 0 b v) (λ v. let e : at ≡ place = eqb-true at place v in omega arith) u)

-- a number takes one to five bytes, ends within the bytes, is below 2^32, and is as short as its value allows
pub record Numbered (bytes : List ℕ) (at : ℕ) (r : Reading) : Type 0 where
  pub after : at < r.next
  pub short : r.next ≤ at + 5
  pub inside : r.next ≤ length bytes
  pub small : r.value < 2 ^ 32
  pub tight : (k : ℕ) → r.value < 128 ^ suc k → r.next ≤ at + suc k

pub number_law : (bytes : List ℕ) (at : ℕ) → Of (Numbered bytes at) (Malformed at) (number_at bytes at)
unfolding number_at
number_law bytes at = of_map (λ r g. numbered r g) (λ n p m. m) (groups_law bytes at 4 at)
  where
    numbered : (r : Reading) → Groups bytes at 4 at r → Numbered bytes at r
    numbered r g = record { after = g.after; short = g.short; inside = g.inside; small = g.small; tight = g.tight (omega arith) }

pub number_given : (bytes : List ℕ) (at : ℕ) {r : Reading} → number_at bytes at ≡ given r → Numbered bytes at r
number_given bytes at e = when_given e (number_law bytes at)

pub number_refused : (bytes : List ℕ) (at : ℕ) {number place : ℕ} → number_at bytes at ≡ refused number place → Malformed at number place
number_refused bytes at e = when_refused e (number_law bytes at)

-- groups over bytes that agree as far as they can reach
groups-same : (xs ys : List ℕ) (place more at : ℕ) → ((i : ℕ) → i < at + suc more → byte_at xs i ≡ byte_at ys i) →
    groups xs place more at ≡ groups ys place more at
unfolding groups
groups-same xs ys place zero at h = rw (h at (omega arith))
groups-same xs ys place (suc more) at h =
    rw (h at (omega arith), groups-same xs ys place more (at + 1) (λ i l. h i (omega arith)))

-- bytes from a cut on do not change a number that ends before it
pub number_take : (cut : ℕ) (bytes : List ℕ) (at : ℕ) → at + 5 ≤ cut → number_at (take cut bytes) at ≡ number_at bytes at
unfolding number_at byte_at
number_take cut bytes at h = groups-same (take cut bytes) bytes at 4 at (λ i l. get_or-take cut bytes i 256 (omega arith))

-- the groups after the first leave room for one more in a word
pub groups_room : (bytes : List ℕ) (place more at : ℕ) (r : Reading) (n : Result Reading Refusal) → more ≤ 4 → (more ≡ 0 → ⊥) → n ≡ Ok r →
    answer_of n ≡ groups bytes place (more - 1) (at + 1) → r.value < 2 ^ 25
groups_room bytes place more at r n few some e h =
    let g : groups bytes place (more - 1) (at + 1) ≡ given r = sym h ∙ ap answer_of e in
    let three : more - 1 ≤ 3 = omega arith in
    let p : 128 ^ (more - 1) ≤ 128 ^ 3 = pow-le-pow_right (omega arith) three in
    omega (arith, (when_given g (groups_law bytes place (more - 1) (at + 1))).small)
