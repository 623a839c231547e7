-- Theorems on the reader: what it accepts is a runnable graph, how long an accepted file can be, and how any other is refused.
-- Assumes nothing.
use mathlib.Core.Path.{◌≡◌, refl}
use mathlib.Core.List.{List, ◌++◌}
use Prim.Native.Nat.{ℕ, ◌*◌, ◌≤◌}
use native.Mathlib.Omega.{arith}
use lib.ListN.{length, drop}
use Rattle.words.specs.Answer.{given, refused}
use Rattle.words.specs.Buffer.{over}
use Rattle.words.proofs.Answers.{Of, of_given, of_then, when_given, when_refused}
use Rattle.graph.specs.declared.Header.{Header}
use Rattle.graph.specs.Checks.{runnable_check}
use Rattle.file.specs.Reading.{Contents, contents_of, read_answer, read_table}
use Rattle.file.proofs.Sizes.{here_first}
use Rattle.file.proofs.Refusals.{Refusal}
use Rattle.file.proofs.InOrder.{in_order_end, in_order_length}
use Rattle.file.proofs.Accepted.{Accepted, contents_law}
use Rattle.file.proofs.Runnable.{accepted_runnable}

-- an answer of the reader comes from the file's contents
pub record Contained (bytes : List ℕ) (room : ℕ) (header : Header) : Type 0 where
  pub contents : Contents
  pub is : contents_of bytes room ≡ given contents
  pub accepted : Accepted bytes room contents
  pub same : contents.header ≡ header

pub answer_law : (bytes : List ℕ) (room : ℕ) → Of (Contained bytes room) Refusal (read_answer bytes room)
unfolding read_answer
answer_law bytes room =
    of_then _ (contents_law bytes room) λ c e a. of_given (record { contents = c; is = e; accepted = a; same = refl })

module _ (bytes : List ℕ) (room : ℕ) where
  -- No accepted file is longer than 24,605 bytes.
  pub longest : (header : Header) → read_answer bytes room ≡ given header → length bytes ≤ 24605
  longest header e =
      let a = (when_given e (answer_law bytes room)).accepted in
      omega (arith, a.whole, a.early, a.nodes.within, in_order_end bytes a.r.value a.n.value a.e.next (omega arith) (here_first a.e.next) a.words)

  -- Every refusal has one of the reader's numbers, at a place where it can be given.
  pub refusals : (number place : ℕ) → read_answer bytes room ≡ refused number place → Refusal number place
  refusals number place e = when_refused e (answer_law bytes room)

module _ (bytes : List ℕ) (room : ℕ) (c : Contents) (e : contents_of bytes room ≡ given c) where
  accepted : Accepted bytes room c
  accepted = when_given e (contents_law bytes room)

  -- The words of an accepted file are six for each node.
  pub six_words : length c.words ≡ 6 * c.header.nodes
  six_words = rw accepted.header (in_order_length bytes accepted.r.value accepted.n.value accepted.words)

  -- They are a runnable graph's, whatever follows them in a table.
  pub contents-runnable : (rest : List ℕ) → runnable_check c.header.registers c.header.nodes c.header.entry (c.words ++ rest) ≡ given tt
  contents-runnable rest = accepted_runnable bytes rest accepted

-- What the reader accepts, the check of a runnable graph accepts, with the same R, N and entry, and the table that is then held.
pub read_runnable : (bytes table : List ℕ) (header : Header) → read_answer bytes (length table) ≡ given header →
    runnable_check header.registers header.nodes header.entry (read_table bytes table) ≡ given tt
unfolding read_table over
read_runnable bytes table header e = by (when_given e (answer_law bytes (length table)))
  where
    by : Contained bytes (length table) header → runnable_check header.registers header.nodes header.entry (read_table bytes table) ≡ given tt
    by h = rw (h.is, ← h.same) (accepted_runnable bytes (drop (length h.contents.words) table) h.accepted)
