-- The file of a graph, or its refusal, in a program's text.
-- Assumes nothing.
use Rattle.std.proofs.Common.{◌≡◌, refl, sym, ◌∙◌, ℕ, ◌≤◌, List, length, zero-add, arith, Result, Ok, Err}
use borrow.Author.Tests.{le-leb}
use Rattle.words.specs.Answer.{Answer, given, refused}
use Rattle.words.specs.Refusals.{number_of, answer_of}
use Rattle.words.specs.declared.refusals.Refusal.{Refusal}
use Rattle.words.proofs.Puts.{put-over}
use Rattle.file.specs.Writing.{file_of, write_answer, write_output}
use Rattle.file.proofs.Writer.{Stands, written}
use Rattle.text.specs.Places.{Wrote, place_after, appended}
use Rattle.text.specs.declared.Text.{Text}
use Rattle.desk.specs.declared.loading.Graph.{Graph}
use Rattle.desk.specs.declared.Printed.TheVariants.{Output, Complaint}
use Rattle.desk.specs.Jobs.{Filed}
use Rattle.desk.specs.Lines.{refusal_line}
use Rattle.desk.specs.Programs.{output, complaint, file_in, file_print, Shown, printed, complained}

-- what the writer answered and left in the text
pub filed : (g : Graph) (text last : List ℕ) (r : Result ℕ Refusal) → let h = g.header in
    answer_of r ≡ write_answer h.registers h.nodes h.entry g.table (length text) → last ≡ write_output h.registers h.nodes h.entry g.table text
    → Filed text (file_in (length text) g) last r
unfolding file_in place_after write_output
filed g text last (Ok size) e f =
    let h = g.header in
    let file : List ℕ = file_of h.registers h.nodes h.entry g.table in
    let s : Stands h.registers h.nodes h.entry size g.table text = written h.registers h.nodes h.entry size g.table text (sym e) in
    let fits : length file ≤ length text = omega (arith, s.size_is, s.room) in
    rw (← e) (record { place_is = rw (zero-add, le-leb (length file) (length text) fits) s.size_is; buffer_is = f ∙ s.output ∙ sym (put-over text file fits) })
filed g text last (Err r) e f = rw (← e) (refl, refl, f ∙ rw (← e))

-- what stands in a buffer lent to a cursor from its start, as the output or as a complaint
module _ (before last text : List ℕ) (t u : Text) (lent : t.out.now ≡ before) (start : t.at ≡ 0) (told : u ≡ appended t text) (e : last ≡ u.out.now) where
  ended : Wrote before 0 text last u.at
  unfolding appended
  ended = rw (e, told, ← lent, ← start) (record { place_is = refl; buffer_is = refl })

  pub output_shown : Shown before (output text) last (Output u.at)
  output_shown = printed ended

  pub complaint_shown : Shown before (complaint text) last (Complaint u.at)
  complaint_shown = complained ended

-- a file that was written is the output
pub filed_output : (before after : List ℕ) (a : Answer (List ℕ)) (size : ℕ) → Filed before a after (Ok size) → Shown before (file_print a) after (Output size)
filed_output before after (given file) size w = printed w
filed_output before after (refused number place) size w = elim w [ ]

-- what was refused is a complaint
pub refused_print : (before after : List ℕ) (a : Answer (List ℕ)) (r : Refusal) → Filed before a after (Err r)
    → (after ≡ before) × (file_print a ≡ complaint (refusal_line (number_of r.reason) r.place))
refused_print before after (given file) r w = elim w [ ]
refused_print before after (refused number place) r (e, f, same) = (same, rw (e, f))
