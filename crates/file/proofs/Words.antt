-- Every word that the reader writes is a 32-bit word, whatever stands in the file.
-- Assumes nothing.
use mathlib.Core.Path.{◌≡◌, ap}
use mathlib.Core.Bool.{Bool, true, false, cond}
use mathlib.Core.List.{List}
use Prim.Native.Nat.{ℕ, ◌^◌, ◌<◌}
use native.Mathlib.Omega.{arith}
use lib.ListN.{length, drop}
use Rattle.words.specs.Answer.{Answer, given, refused, written}
use Rattle.words.specs.Buffer.{over}
use Rattle.words.specs.Number.{reading, number_at}
use Rattle.words.specs.declared.Reading.{Reading}
use Rattle.words.proofs.Answers.{Of, value_of}
use Rattle.words.proofs.AllWords.{AllWords, words_append, words_drop}
use Rattle.words.proofs.Numbers.{number_given}
use Rattle.graph.specs.declared.Role.{Role}
use Rattle.file.specs.Reading.{Contents, stands, contents_of, read_table}
use Rattle.file.proofs.Refusals.{Refusal, Celled}
use Rattle.file.proofs.InOrder.{InOrder, none, more}
use Rattle.file.proofs.Accepted.{Accepted, contents_law}

value_in : Answer Reading → ℕ
value_in (given r) = r.value
value_in (refused number place) = 0

-- a field is a number that was read, a spare word is 0
cell_word : (bytes : List ℕ) (registers nodes : ℕ) (role : Role) (at : ℕ) (r : Reading) → Celled bytes registers nodes role at r → r.value < 2 ^ 32
unfolding value_in
cell_word bytes registers nodes role at r c = by (stands role) c.is
  where
    by : (there : Bool) → cond there (number_at bytes at) (reading 0 at) ≡ given r → r.value < 2 ^ 32
    by true e = (number_given bytes at e).small
    by false e = omega (arith, ap value_in e)

in_order_words : {bytes : List ℕ} {registers nodes left i kind at next : ℕ} {words : List ℕ} →
    InOrder bytes registers nodes left i kind at words next → AllWords words
in_order_words none = tt
in_order_words (more cell rest) = (cell_word _ _ _ _ _ _ cell, in_order_words rest)

pub read_words : (bytes table : List ℕ) → AllWords table → AllWords (read_table bytes table)
unfolding read_table over
read_words bytes table all = by (contents_of bytes (length table)) (contents_law bytes (length table))
  where
    by : (a : Answer Contents) → Of (Accepted bytes (length table)) Refusal a → AllWords (written a (λ c. over c.words table) table)
    by (given c) of =
        words_append c.words (drop (length c.words) table) (in_order_words (value_of of).words) (words_drop (length c.words) table all)
    by (refused number place) of = all
