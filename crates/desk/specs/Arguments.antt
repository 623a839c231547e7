-- How the programs take their arguments: in cells of sixteen bytes, one a cell, a length below sixteen and then the text.
-- Assumes nothing.
use Rattle.std.specs.Prelude.{◌≡◌, refl, ℕ, zero, suc, ◌+◌, ◌-◌, ◌*◌, ◌/◌, Bool, true, false, cond, ◌&&◌, List, [], ◌∷◌, ◌++◌, length, get_or, take, drop, eqb, ltb, leb, bytes_eq, codes, Option, None, Some, option_map, is_some, Result, Ok, Err, ok_or}
use borrow.Author.Tests.{leb-true}
use Rattle.text.specs.Decimals.{value_of}
use Rattle.bench.specs.declared.Fault.{Fault}
use Rattle.bench.specs.declared.Fault.TheVariants.{Undisturbed, Inverted}
use Rattle.desk.specs.declared.settings.Mode.{Mode}
use Rattle.desk.specs.declared.settings.Mode.TheVariants.{Plain, Hardened}
use Rattle.desk.specs.declared.settings.Settings.{Settings}
use Rattle.desk.specs.declared.settings.Wanted.{Wanted}

-- the text of an argument; one that is missing or too long is empty
unfoldable pub argument : List ℕ → ℕ → List ℕ
argument cells i =
    let size = get_or cells (16 * i) 0 in
    let text = take size (drop (16 * i + 1) cells) in
    cond (leb (16 * i + 16) (length cells) && ltb size 16) text []

unfoldable pub mode_of : List ℕ → Option Mode
mode_of text = cond (bytes_eq text (codes "plain")) (Some Plain) (cond (bytes_eq text (codes "hardened")) (Some Hardened) None)

-- the most event words, and the most input words
abbrev pub most_room : ℕ
most_room = 16384

abbrev pub most_words : ℕ
most_words = 4096

-- ROOM, where it is none too large
abbrev pub with_room : Mode → ℕ → (room : ℕ) → (few : Bool) → leb room most_room ≡ few → Result Settings Wanted
with_room mode budget room true few = Ok (record { mode = mode; budget = budget; room = room; room_in = leb-true room most_room few })
with_room mode budget room false few = Err Wanted.Room

-- BUDGET and ROOM
abbrev pub numbers_of : Mode → Option ℕ → Option ℕ → Result Settings Wanted
numbers_of mode None room = Err Wanted.Budget
numbers_of mode (Some budget) None = Err Wanted.Room
numbers_of mode (Some budget) (Some room) = with_room mode budget room (leb room most_room) refl

-- MODE, BUDGET and ROOM
abbrev pub settings_by : Option Mode → Option ℕ → Option ℕ → Result Settings Wanted
settings_by None budget room = Err Wanted.Mode
settings_by (Some mode) budget room = numbers_of mode budget room

-- the first three arguments
unfoldable pub settings_of : List ℕ → Result Settings Wanted
settings_of cells = settings_by (mode_of (argument cells 0)) (value_of (argument cells 1)) (value_of (argument cells 2))

-- `none`, or a place
unfoldable pub fault_of : List ℕ → Option Fault
fault_of text = cond (bytes_eq text (codes "none")) (Some Undisturbed) (option_map Inverted (value_of text))

-- how many arguments the cells hold
abbrev pub argument_count : List ℕ → ℕ
argument_count cells = length cells / 16

-- `hfile`'s argument: none, which hardens, or `plain`
unfoldable pub file_mode_of : List ℕ → Result Mode Wanted
file_mode_of cells =
    let count = argument_count cells in
    let plain = cond (leb count 1) (Ok Plain) (Err Wanted.One) in
    cond (eqb count 0) (Ok Hardened) (cond (bytes_eq (argument cells 0) (codes "plain")) plain (Err Wanted.Plain))

-- the word that an argument stands for, 0 where it is no number
abbrev pub word_of : Option ℕ → ℕ
word_of None = 0
word_of (Some w) = w

-- the words of k arguments, the first at `from`
unfoldable pub words_of : List ℕ → ℕ → ℕ → List ℕ
words_of cells from zero = []
words_of cells from (suc k) = words_of cells from k ++ (word_of (value_of (argument cells (from + k))) ∷ [])

-- the first of `left` arguments from i upward that is no number, or the argument after them
unfoldable pub other_from : List ℕ → ℕ → ℕ → ℕ
other_from cells zero i = i
other_from cells (suc left) i = let rest = other_from cells left (i + 1) in cond (is_some (value_of (argument cells i))) rest i

-- the words that the arguments from `from` on are, each a number, and not too many
unfoldable pub words_in : List ℕ → ℕ → Result (List ℕ) Wanted
words_in cells from =
    let count = argument_count cells in
    let first = other_from cells (count - from) from in
    cond (leb count (from + most_words))
    (cond (leb count first) (Ok (words_of cells from (count - from))) (Err (Wanted.Word (first + 1))))
    (Err (Wanted.End (from + most_words + 1)))

-- what follows what was asked; what was wanted stands
abbrev pub then_asked : {A B : Type 0} → Result A Wanted → (A → Result B Wanted) → Result B Wanted
then_asked (Ok asked) next = next asked
then_asked (Err wanted) next = Err wanted

-- what `hrun` is asked for: the settings, the fault, and the words
unfoldable pub run_asked : List ℕ → Result (Settings × Fault × List ℕ) Wanted
run_asked cells =
    then_asked (settings_of cells) λ settings.
    then_asked (ok_or (fault_of (argument cells 3)) Wanted.Fault) λ fault.
    then_asked (words_in cells 4) λ inputs. Ok (settings, fault, inputs)

-- what `hscore` is asked for: the settings, and the words
unfoldable pub score_asked : List ℕ → Result (Settings × List ℕ) Wanted
score_asked cells = then_asked (settings_of cells) λ settings. then_asked (words_in cells 3) λ inputs. Ok (settings, inputs)
