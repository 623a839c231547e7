-- Document 01, "The file": numbers in groups of seven bits, the least significant group first, as they are read and written.
-- Assumes nothing.
use Rattle.std.specs.Prelude.{ℕ, zero, suc, ◌+◌, ◌*◌, ◌/◌, ◌%◌, cond, ◌||◌, ◌&&◌, List, [], ◌∷◌, get_or, eqb, ltb}
use Rattle.words.specs.Answer.{Answer, given, refused, demand}
use Rattle.words.specs.declared.Reading.{Reading}

-- the byte at a position; past the end 256, which no byte is
unfoldable pub byte_at : List ℕ → ℕ → ℕ
byte_at bytes at = get_or bytes at 256

-- a number's value, and the position after it
abbrev pub reading : ℕ → ℕ → Answer Reading
reading v n = given (record { value = v; next = n })

-- a group before the groups that follow it
abbrev pub carry : ℕ → Answer Reading → Answer Reading
carry group (given r) = reading (group + 128 * r.value) r.next
carry group (refused number place) = refused number place

-- the group at a position, of the number that begins at `place`, when `more` bytes may follow it:
-- a fifth byte is 1 to 15; the last byte is 0 only in the one-byte number 0
unfoldable pub groups : List ℕ → ℕ → ℕ → ℕ → Answer Reading
groups bytes place zero at =
    let b = byte_at bytes at in
    demand (ltb b 256) 1 place (demand (ltb 0 b && ltb b 16) 2 place (reading b (at + 1)))
groups bytes place (suc more) at =
    let b = byte_at bytes at in
    let last = demand (ltb 0 b || eqb at place) 2 place (reading b (at + 1)) in
    let longer = carry (b % 128) (groups bytes place more (at + 1)) in
    demand (ltb b 256) 1 place (cond (ltb b 128) last longer)

-- the number that begins at a position: at most five bytes
unfoldable pub number_at : List ℕ → ℕ → Answer Reading
number_at bytes at = groups bytes at 4 at

-- the shortest form of a value when `more` bytes may follow the first: seven bits a byte, the high bit set on all but the last
unfoldable pub shortest : ℕ → ℕ → List ℕ
shortest zero value = value ∷ []
shortest (suc more) value =
    let longer = (128 + value % 128) ∷ shortest more (value / 128) in
    cond (ltb value 128) (value ∷ []) longer

-- the bytes of a number: at most five
unfoldable pub number_of : ℕ → List ℕ
number_of value = shortest 4 value
