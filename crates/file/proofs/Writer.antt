-- Theorems on the writer: what was written is read, what was read is written, a graph has one file, and how long it can be.
-- Assumes nothing.
use mathlib.Core.Path.{◌≡◌, sym, ap, ◌∙◌}
use mathlib.Core.List.{List, ◌++◌}
use Prim.Native.Nat.{ℕ, ◌*◌, ◌≤◌}
use native.Mathlib.Omega.{arith}
use lib.ListN.{length, take, drop}
use lib.Seq.{length-take-le, take-append_seam}
use lib.Dec.{leb}
use borrow.Author.Tests.{le-leb, leb-true}
use Rattle.words.specs.Answer.{given, demand}
use Rattle.words.specs.Buffer.{over}
use Rattle.words.proofs.Answers.{when_given, given_same}
use Rattle.words.proofs.AllWords.{AllWords}
use Rattle.graph.specs.declared.Header.{Header}
use Rattle.graph.specs.Checks.{runnable_check}
use Rattle.graph.proofs.Passed.{demand_given}
use Rattle.graph.proofs.Facts.{and_given, runnable_room}
use Rattle.file.specs.Reading.{Contents, contents_of, read_answer, read_table}
use Rattle.file.specs.Writing.{cells_of, header_of, file_of, write_answer, write_output}
use Rattle.file.proofs.Accepted.{Accepted}
use Rattle.file.proofs.Reader.{longest, Contained, answer_law, read_runnable, six_words}
use Rattle.file.proofs.OneForm.{accepted_form}
use Rattle.file.proofs.ReadBack.{file_contents}

-- a graph's file, read back: the same R, N, entry and words, and what stands behind them in the table stays
pub file_read : (registers nodes entry : ℕ) (table into : List ℕ) → runnable_check registers nodes entry table ≡ given tt → AllWords table →
    6 * nodes ≤ length into →
    (read_answer (file_of registers nodes entry table) (length into) ≡ given (record { registers = registers; nodes = nodes; entry = entry }))
    × (read_table (file_of registers nodes entry table) into ≡ take (6 * nodes) table ++ drop (6 * nodes) into)
unfolding read_answer read_table over
file_read registers nodes entry table into ok all fits =
    let c = file_contents registers nodes entry table ok all (length into) fits in
    let count : length (take (6 * nodes) table) ≡ 6 * nodes = length-take-le (6 * nodes) table (runnable_room registers nodes entry table ok) in
    (rw c, rw (c, count))

-- No file of a runnable graph is longer than 24,605 bytes.
pub file_longest : (registers nodes entry : ℕ) (table : List ℕ) → runnable_check registers nodes entry table ≡ given tt → AllWords table →
    length (file_of registers nodes entry table) ≤ 24605
file_longest registers nodes entry table ok all =
    let room = runnable_room registers nodes entry table ok in
    longest (file_of registers nodes entry table) (length table) _ (file_read registers nodes entry table table ok all room).0

-- a file that was written had room
pub written_room : (registers nodes entry : ℕ) (table : List ℕ) (room size : ℕ) → write_answer registers nodes entry table room ≡ given size →
    length (file_of registers nodes entry table) ≤ room
unfolding write_answer
written_room registers nodes entry table room size done =
    let file : List ℕ = file_of registers nodes entry table in
    let parts = and_given (runnable_check registers nodes entry table) _ done in
    leb-true (length file) room (demand_given (leb (length file) room) 15 (length file) _ parts.2).0

-- what stands in a buffer after a write: a runnable graph's file, whole
pub record Stands (registers nodes entry size : ℕ) (table out : List ℕ) : Type 0 where
  pub graph : runnable_check registers nodes entry table ≡ given tt
  pub size_is : size ≡ length (file_of registers nodes entry table)
  pub room : size ≤ length out
  pub output : write_output registers nodes entry table out ≡ over (file_of registers nodes entry table) out
  pub file : take size (write_output registers nodes entry table out) ≡ file_of registers nodes entry table

module _ (registers nodes entry size : ℕ) (table out : List ℕ) (done : write_answer registers nodes entry table (length out) ≡ given size) where
  pub written : Stands registers nodes entry size table out
  unfolding write_answer write_output over
  written =
      let file : List ℕ = file_of registers nodes entry table in
      let parts = and_given (runnable_check registers nodes entry table) _ done in
      let room = demand_given (leb (length file) (length out)) 15 (length file) _ parts.2 in
      let s : size ≡ length file = sym (given_same room.1) in
      record {
        graph = parts.1;
        size_is = s;
        room = omega (arith, s, leb-true (length file) (length out) room.0);
        output = rw (parts.1, room.0);
        file = rw (parts.1, room.0, s) (take-append_seam file (drop (length file) out));
      }

  -- Reading what was written, into any table with room, gives the same R, N and entry and the same words, whatever stands behind them.
  pub read_written : AllWords table → (into : List ℕ) → 6 * nodes ≤ length into →
      (read_answer (take size (write_output registers nodes entry table out)) (length into)
      ≡ given (record { registers = registers; nodes = nodes; entry = entry }))
      × (read_table (take size (write_output registers nodes entry table out)) into ≡ take (6 * nodes) table ++ drop (6 * nodes) into)
  read_written all into fits = rw written.file (file_read registers nodes entry table into written.graph all fits)

  -- No written file is longer than 24,605 bytes.
  pub longest_written : AllWords table → size ≤ 24605
  longest_written all = rw written.size_is (file_longest registers nodes entry table written.graph all)

-- the words of an accepted file, whatever follows them in the table, are written as the file
contents_form : (bytes rest : List ℕ) (room : ℕ) (c : Contents) → contents_of bytes room ≡ given c → Accepted bytes room c →
    file_of c.header.registers c.header.nodes c.header.entry (c.words ++ rest) ≡ bytes
unfolding file_of
contents_form bytes rest room c is accepted =
    rw (← six_words bytes room c is, take-append_seam c.words rest) (sym (accepted_form bytes accepted))

module _ (bytes table : List ℕ) (header : Header) (read : read_answer bytes (length table) ≡ given header) where
  -- an accepted file is the file of the graph that was read from it
  pub read_form : file_of header.registers header.nodes header.entry (read_table bytes table) ≡ bytes
  unfolding read_table over
  read_form = by (when_given read (answer_law bytes (length table)))
    where
      by : Contained bytes (length table) header → file_of header.registers header.nodes header.entry (read_table bytes table) ≡ bytes
      by h =
          rw (h.is, ← h.same) (contents_form bytes (drop (length h.contents.words) table) (length table) h.contents h.is h.accepted)

  -- Writing what was read gives the same bytes, and takes as many.
  pub write_read : (room : ℕ) →
      write_answer header.registers header.nodes header.entry (read_table bytes table) room
      ≡ demand (leb (length bytes) room) 15 (length bytes) (given (length bytes))
  unfolding write_answer
  write_read room = rw (read_runnable bytes table header read, read_form)

  pub write_read_output : (out : List ℕ) → length bytes ≤ length out →
      write_output header.registers header.nodes header.entry (read_table bytes table) out ≡ bytes ++ drop (length bytes) out
  unfolding write_output over
  write_read_output out fits = rw (write_read (length out), read_form, le-leb (length bytes) (length out) fits)

-- Two accepted files with the same graph are the same bytes.
pub one_file : (bytes bytes' table table' : List ℕ) (header : Header) →
    read_answer bytes (length table) ≡ given header → read_answer bytes' (length table') ≡ given header →
    take (6 * header.nodes) (read_table bytes table) ≡ take (6 * header.nodes) (read_table bytes' table') → bytes ≡ bytes'
unfolding file_of
one_file bytes bytes' table table' header r r' same =
    sym (read_form bytes table header r)
    ∙ ap (λ (words : List ℕ). header_of header.registers header.nodes header.entry ++ cells_of words 0 0) same
    ∙ read_form bytes' table' header r'
