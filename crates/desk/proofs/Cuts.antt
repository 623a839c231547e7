-- Of a file longer than 32,768 bytes the first 32,768 decide alike: each program prints the same for them as for the whole file.
-- Assumes nothing.
use mathlib.Core.Path.{fun_ext}
use Rattle.std.proofs.Common.{◌≡◌, ap, ℕ, ◌≤◌, ◌<◌, List, length, take, replicate, arith}
use Rattle.std.proofs.Math.Seq.{take_all}
use native.Mathlib.Decide.{dec_le}
use Rattle.file.proofs.Cuts.{answer-take, table-take}
use Rattle.desk.specs.declared.settings.Mode.{Mode}
use Rattle.desk.specs.declared.settings.Mode.TheVariants.{Plain, Hardened}
use Rattle.desk.specs.Arguments.{run_asked, score_asked, file_mode_of}
use Rattle.desk.specs.Programs.{table_words, read_graph, graph_in, list_text, run_print, score_print, print_for, run_program, score_program, file_program}

module _ (bytes : List ℕ) where
  abbrev front : List ℕ
  front = take 32768 bytes

  read_cut : read_graph front ≡ read_graph bytes
  unfolding read_graph
  read_cut = by (dec_le (length bytes) 32768)
    where
      by : Dec (length bytes ≤ 32768) → read_graph front ≡ read_graph bytes
      by (yes h) = ap read_graph (take_all 32768 bytes h)
      by (no h) =
          let long : 32768 < length bytes = omega arith in
          rw (answer-take bytes table_words long, table-take bytes (replicate table_words 0) long)

  graph_cut : (mode : Mode) → graph_in mode front ≡ graph_in mode bytes
  unfolding graph_in
  graph_cut Plain = read_cut
  graph_cut Hardened = rw read_cut

  -- `hlist`
  pub list_cut : list_text front ≡ list_text bytes
  unfolding list_text
  list_cut = rw (graph_cut Hardened)

  module _ (cells : List ℕ) where
    -- `hrun`
    pub run_cut : run_program cells front ≡ run_program cells bytes
    unfolding run_program run_print
    run_cut = ap (print_for (run_asked cells)) (fun_ext (λ a. rw (graph_cut a.0.mode)))

    -- `hscore`
    pub score_cut : score_program cells front ≡ score_program cells bytes
    unfolding score_program score_print
    score_cut = ap (print_for (score_asked cells)) (fun_ext (λ a. rw (graph_cut a.0.mode)))

    -- `hfile`
    pub file_cut : (room : ℕ) → file_program room cells front ≡ file_program room cells bytes
    unfolding file_program
    file_cut room = ap (print_for (file_mode_of cells)) (fun_ext (λ mode. rw (graph_cut mode)))
