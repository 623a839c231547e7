-- The ways through an argument's cell, and through a row of arguments.
-- Assumes nothing.
use Rattle.std.proofs.Common.{◌≡◌, ℕ, zero, suc, ◌+◌, ◌-◌, ◌*◌, ◌/◌, ◌≤◌, ◌<◌, refl, Bool, true, false, leb, List, [], ◌∷◌, length, length-append, get_or, take, drop, set, ap, ◌∙◌, arith, add-one, None, Some, Ok, Err}
use Rattle.std.proofs.Math.Nat.{add-sub_cancel_left}
use Rattle.std.proofs.Math.Bridge.{le_prop}
use Rattle.std.proofs.lemmas.List.{take_more_set}
use borrow.Author.Tests.{lt-leb, le-leb, lt-ltb, le-ltb, leb-true, leb-false}
use Rattle.text.specs.Decimals.{value_of}
use Rattle.desk.specs.Arguments.{argument, mode_of, most_room, with_room, settings_of, other_from, word_of, words_of, words_in}
use Rattle.desk.specs.declared.settings.Settings.{Settings}
use Rattle.desk.specs.declared.settings.Wanted.{Wanted}

module _ (cells : List ℕ) (i : ℕ) where
  pub cell_missing : length cells / 16 ≤ i → [] ≡ argument cells i
  unfolding argument
  cell_missing h = rw (lt-leb (16 * i + 16) (length cells) (omega arith))

  module _ (size : ℕ) (h : i < length cells / 16) (e : size ≡ get_or cells (16 * i) 0) where
    pub cell_long : 16 ≤ size → [] ≡ argument cells i
    unfolding argument
    cell_long k = rw (le-leb (16 * i + 16) (length cells) (omega arith), ← e, le-ltb size 16 k)

    pub cell_text : size < 16 → take (16 * i + 1 + size - (16 * i + 1)) (drop (16 * i + 1) cells) ≡ argument cells i
    unfolding argument
    cell_text k = rw (add-sub_cancel_left (16 * i + 1) size, le-leb (16 * i + 16) (length cells) (omega arith), ← e, lt-ltb size 16 k)

-- settings that the first three arguments name
pub settings_ready : (cells : List ℕ) (s : Settings) → mode_of (argument cells 0) ≡ Some s.mode → value_of (argument cells 1) ≡ Some s.budget
    → value_of (argument cells 2) ≡ Some s.room → Ok s ≡ settings_of cells
unfolding settings_of
settings_ready cells s e f g = rw (e, f, g) (by (leb s.room most_room) refl)
  where
    by : (few : Bool) (h : leb s.room most_room ≡ few) → Ok s ≡ with_room s.mode s.budget s.room few h
    by true h = ap (λ (p : s.room ≤ most_room). Ok (record { mode = s.mode; budget = s.budget; room = s.room; room_in = p })) (le_prop s.room_in (leb-true s.room most_room h))
    by false h = let large : most_room < s.room = leb-false s.room most_room h in absurd (omega (arith, s.room_in))

-- there are too many arguments from `from` on
pub words_end : (cells : List ℕ) (from count : ℕ) → count ≡ length cells / 16 - from → 4096 < count → words_in cells from ≡ Err (Wanted.End (from + 4096 + 1))
unfolding words_in
words_end cells from count c h = rw (lt-leb (length cells / 16) (from + 4096) (omega arith))

-- of the arguments from `from` on, which are not too many, the first k are numbers
pub record Passed (cells : List ℕ) (from count k : ℕ) : Type 0 where
  pub count_is : count ≡ length cells / 16 - from
  pub few : count ≤ 4096
  pub found : other_from cells count from ≡ other_from cells (count - k) (from + k)

-- the next is no number, the next is one, and there is no next
module _ {cells : List ℕ} {from count k : ℕ} (p : Passed cells from count k) where
  pub words_bad : k < count → value_of (argument cells (from + k)) ≡ None → words_in cells from ≡ Err (Wanted.Word (from + k + 1))
  unfolding words_in other_from
  words_bad h none =
      let left : count - k ≡ suc (count - (k + 1)) = omega arith in
      let first : other_from cells count from ≡ from + k = p.found ∙ rw (left, none) in
      rw (le-leb (length cells / 16) (from + 4096) (omega arith), ← p.count_is, first, lt-leb (length cells / 16) (from + k) (omega arith))

  pub words_next : k < count → (word : ℕ) → value_of (argument cells (from + k)) ≡ Some word → Passed cells from count (k + 1)
  unfolding other_from
  words_next h word some =
      let left : count - k ≡ suc (count - (k + 1)) = omega arith in
      let next : from + k + 1 ≡ from + (k + 1) = omega arith in
      record { count_is = p.count_is; few = p.few; found = p.found ∙ rw (left, some, next) }

  pub words_all : (words : List ℕ) → count ≡ k → take k words ≡ words_of cells from k → words_in cells from ≡ Ok (take count words)
  unfolding words_in other_from
  words_all words h written =
      let left : count - k ≡ 0 = omega arith in
      let first : other_from cells count from ≡ from + k = p.found ∙ rw left in
      rw (le-leb (length cells / 16) (from + 4096) (omega arith), ← p.count_is, first, le-leb (length cells / 16) (from + k) (omega arith), h, written)

-- the words passed, and the next one
pub words_more : (cells words : List ℕ) (from k word : ℕ) → k < length words → take k words ≡ words_of cells from k
    → value_of (argument cells (from + k)) ≡ Some word → take (k + 1) (set words k word) ≡ words_of cells from (k + 1)
unfolding words_of
words_more cells words from k word room written some =
    take_more_set words k word room ∙ rw (add-one, written, some)

-- so many arguments, so many words
pub words_length : (cells : List ℕ) (from k : ℕ) → length (words_of cells from k) ≡ k
unfolding words_of
words_length cells from zero = refl
words_length cells from (suc k) =
    length-append (words_of cells from k) (word_of (value_of (argument cells (from + k))) ∷ [])
    ∙ ap (λ (n : ℕ). n + 1) (words_length cells from k) ∙ add-one k
