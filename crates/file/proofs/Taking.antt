-- The second pass over an accepted file takes the R, N, entry and words that the first one checked; a refused file changes nothing.
-- Assumes nothing.
use mathlib.Core.Path.{◌≡◌, refl, sym, ap, ◌∙◌}
use mathlib.Core.List.{List}
use Prim.Native.Nat.{ℕ, ◌*◌, ◌≤◌}
use native.Mathlib.Omega.{arith}
use lib.ListN.{length}
use Rattle.words.specs.Answer.{Answer, given, refused}
use Rattle.words.specs.Buffer.{put}
use Rattle.words.specs.Number.{number_at}
use Rattle.words.specs.declared.Reading.{Reading}
use Rattle.words.proofs.Answers.{when_given}
use Rattle.words.proofs.Puts.{put-over}
use Rattle.file.specs.Reading.{Contents, contents_of, read_answer, read_table}
use Rattle.file.specs.Passes.{passed, taken_of, taken_at, taken_from}
use Rattle.file.proofs.InOrder.{in_order_length, in_order_taken}
use Rattle.file.proofs.Accepted.{Accepted, contents_law}

passed_given : {A : Type 0} (answer : Answer A) → passed answer ≡ given tt → (a : A) × (answer ≡ given a)
passed_given (given a) e = (a, refl)
passed_given (refused number place) e = let z : ◌≡◌ {A = ℕ} 0 1 = cc in absurd (omega arith)

passed_refused : {A : Type 0} (answer : Answer A) {number place : ℕ} → refused number place ≡ passed answer → answer ≡ refused number place
passed_refused (given a) e = let z : ◌≡◌ {A = ℕ} 0 1 = cc in absurd (omega arith)
passed_refused (refused number place) e = cc

-- a number that was checked is taken as it is
taken : (bytes : List ℕ) (at from : ℕ) (t r : Reading) → t ≡ taken_at bytes from → from ≡ at → number_at bytes at ≡ given r → t ≡ r
taken bytes at from t r e f h = e ∙ ap (taken_at bytes) f ∙ ap (λ (a : Answer Reading). taken_of a at) h

module _ (bytes table : List ℕ) (ok : passed (contents_of bytes (length table)) ≡ given tt) where
  contents : (c : Contents) × (contents_of bytes (length table) ≡ given c)
  contents = passed_given (contents_of bytes (length table)) ok

  accepted : Accepted bytes (length table) contents.0
  accepted = when_given contents.1 (contents_law bytes (length table))

  module _ (registers nodes entry : Reading)
      (r : registers ≡ taken_at bytes 0) (n : nodes ≡ taken_at bytes registers.next) (e : entry ≡ taken_at bytes nodes.next) where
    registers_are : registers ≡ accepted.r
    registers_are = taken bytes 0 0 registers accepted.r r refl accepted.registers.is

    nodes_are : nodes ≡ accepted.n
    nodes_are = taken bytes accepted.r.next registers.next nodes accepted.n n (ap (λ (t : Reading). t.next) registers_are) accepted.nodes.is

    entry_is : entry ≡ accepted.e
    entry_is = taken bytes accepted.n.next nodes.next entry accepted.e e (ap (λ (t : Reading). t.next) nodes_are) accepted.entry.is

    pub take_room : 6 * nodes.value ≤ length table
    take_room = omega (arith, ap (λ (t : Reading). t.value) nodes_are, accepted.room_for)

    pub take-answer :
        given (record { registers = registers.value; nodes = nodes.value; entry = entry.value }) ≡ read_answer bytes (length table)
    unfolding read_answer
    take-answer = rw (contents.1, registers_are, nodes_are, entry_is) (sym (ap given accepted.header))

    pub take-table : put table 0 (taken_from bytes (6 * nodes.value) 0 0 entry.next) ≡ read_table bytes table
    unfolding read_table
    take-table =
        let fits : length contents.0.words ≤ length table = omega (arith, in_order_length bytes _ _ accepted.words, accepted.room_for) in
        rw (contents.1, nodes_are, entry_is, in_order_taken bytes accepted.r.value accepted.n.value accepted.words)
        (put-over table contents.0.words fits)

module _ (bytes table : List ℕ) (number place : ℕ) (e : refused number place ≡ passed (contents_of bytes (length table))) where
  refusal : contents_of bytes (length table) ≡ refused number place
  refusal = passed_refused (contents_of bytes (length table)) e

  pub refused_answer : refused number place ≡ read_answer bytes (length table)
  unfolding read_answer
  refused_answer = rw refusal

  pub refused_table : table ≡ read_table bytes table
  unfolding read_table
  refused_table = rw refusal
