-- Document 01, "What the contracts must shut out": the contract of each public function leaves one answer, and one content of each
-- buffer lent. Each theorem is of the checker's own statement of that contract, `CRATE.PATH.Reads.Post` over the signature
-- `CRATE_says.PATH.ended`. Where an answer is a `Result` or an enum, its meaning can be taken back, so two answers of one meaning are one.
-- To add a public function: a theorem `unique_CRATE_PATH` (`.` becomes `_`) with its statement on that one line. A new crate goes among
-- those that `swift` uses in crates.txt, and has its two lines `use Rattle.CRATE.. as ..`. tests/contracts looks for all of them.
-- Assumes nothing.
use Prim.Native.Nat.{ℕ}
use mathlib.Core.Path.{◌≡◌, refl, sym, ap, ◌∙◌}
use mathlib.Core.List.{List, [], ◌∷◌}
use native.Mathlib.Omega.{arith}
use denote.RattleType.{RattleType}
use denote.Param.{value_of}
use denote.Param.Laws.{Laws, IsCopy}
use mir.Val.{Fits}
use mir.Syntax.{w64, Dict}
use lib.Dec.{eqb}
use borrow.Author.Tests.{ne_eqb}
use mathlib.Core.Bool.{cond}
use Rattle.std.specs.Prelude.{Result, Ok, Err}
use Rattle.std.specs.declared.clone.Clone.{Ghosts}
use Rattle.words.specs.Answer.{Answer, given, refused}
use Rattle.words.specs.Refusals.{number_of, answer_of}
use Rattle.words.specs.declared.refusals.Reason.{Reason}
use Rattle.words.specs.declared.refusals.Refusal.{Refusal}
use Rattle.words.proofs.Reasons.{reason_of, reason_back, reason_some}
use Rattle.graph.specs.Kinds.{number_in}
use Rattle.graph.specs.Successors.{targets_of}
use Rattle.graph.specs.declared.Successors.{Successors}
use Rattle.bench.specs.declared.Score.{Score}
use Rattle.text.specs.Places.{Wrote}
use Rattle.desk.specs.Programs.{Print, Shown, printed, complained}
use Rattle.desk.specs.declared.Printed.{Printed}
use Rattle.words.specs.contracts as words_says
use Rattle.words.proofs as words
use Rattle.graph.specs.contracts as graph_says
use Rattle.graph.proofs as graph
use Rattle.file.specs.contracts as file_says
use Rattle.file.proofs as file
use Rattle.harden.specs.contracts as harden_says
use Rattle.harden.proofs as harden
use Rattle.bench.specs.contracts as bench_says
use Rattle.bench.proofs as bench
use Rattle.text.specs.contracts as text_says
use Rattle.text.proofs as text
use Rattle.desk.specs.contracts as desk_says
use Rattle.desk.proofs as desk
use Rattle.console.specs.contracts as console_says
use Rattle.console.proofs as console
use Rattle.yardstick.specs.contracts as yardstick_says
use Rattle.yardstick.proofs as yardstick
use Rattle.swift.specs.OneAnswer.{OneAnswer, TwoAnswers}

-- ---- two answers of one meaning are one

-- two that equal a third are one
same : {A : Type 0} {y r s : A} → r ≡ y → s ≡ y → r ≡ s
same p q = p ∙ sym q

abbrev pub Injective : {A B : Type 0} → (A → B) → Type 0
Injective {A} f = (r s : A) → f r ≡ f s → r ≡ s

-- a meaning that can be taken back
taken_back : {A B : Type 0} (f : A → B) (back : B → A) → ((a : A) → back (f a) ≡ a) → Injective f
taken_back f back undone r s e = sym (undone r) ∙ ap back e ∙ undone s

-- two answers of one meaning
meant : {A B : Type 0} {f : A → B} {y : B} {r s : A} → Injective f → f r ≡ y → f s ≡ y → r ≡ s
meant {r} {s} injective p q = injective r s (same p q)

-- the result for a value, or for a refusal's number and place
abbrev result_for : {A : Type 0} → Answer A → Result A Refusal
result_for (given a) = Ok a
result_for (refused number place) = Err (record { reason = reason_of number; place = place })

pub answer_of_injective : {A : Type 0} → Injective (answer_of {A = A})
answer_of_injective {A} = taken_back answer_of result_for undone
  where
    undone : (r : Result A Refusal) → result_for (answer_of r) ≡ r
    undone (Ok a) = refl
    undone (Err r) = ap (λ (reason : Reason). Err (record { reason = reason; place = r.place })) (reason_back r.reason)

-- the result for a reason's number, or for 0
abbrev fault_for : ℕ → Result Unit Reason
fault_for number = cond (eqb number 0) (Ok tt) (Err (reason_of number))

pub number_in_injective : Injective number_in
number_in_injective = taken_back number_in fault_for undone
  where
    undone : (r : Result Unit Reason) → fault_for (number_in r) ≡ r
    undone (Ok _) = refl
    undone (Err reason) =
        let some = reason_some reason in
        let other : (number_of reason ≡ 0 → ⊥) = omega arith in
        rw (ne_eqb (number_of reason) 0 other) (ap Err (reason_back reason))

-- the case for a list of targets
abbrev cases_for : List ℕ → Successors
cases_for [] = Successors.None
cases_for (next ∷ []) = Successors.One next
cases_for (then ∷ else ∷ more) = Successors.Two then else

pub targets_of_injective : Injective targets_of
targets_of_injective = taken_back targets_of cases_for undone
  where
    undone : (r : Successors) → cases_for (targets_of r) ≡ r
    undone Successors.None = refl
    undone (Successors.One next) = refl
    undone (Successors.Two then else) = refl

-- ---- answer and buffers, one after the other

both : {A B : Type 0} {v w : A × B} → v.0 ≡ w.0 → v.1 ≡ w.1 → v ≡ w
both p q = λ i. (p i, q i)

-- a parameter that is not lent leaves nothing to compare
past : {A : Type 0} {v w : Unit {0} × A} → v.1 ≡ w.1 → v ≡ w
past q = both refl q

-- the place after a text, and the buffer
wrote_one : {before text : List ℕ} {at r s : ℕ} {x y : List ℕ} → Wrote before at text x r → Wrote before at text y s → (r ≡ s) × (x ≡ y)
wrote_one p q = (same p.place_is q.place_is, same p.buffer_is q.buffer_is)

-- what is 0 in each field
abbrev Empty : Score → Type 0
Empty s = (s.positions ≡ 0) × ((s.caught ≡ 0) × ((s.late ≡ 0) × ((s.harmless ≡ 0) × ((s.changed ≡ 0) × (s.unended ≡ 0)))))

empty_one : {r s : Score} → Empty r → Empty s → r ≡ s
empty_one (a, (b, (c, (d, (e, f))))) (a', (b', (c', (d', (e', f'))))) =
    λ i. record { positions = same a a' i; caught = same b b' i; late = same c c' i; harmless = same d d' i; changed = same e e' i; unended = same f f' i }

-- the output or the complaint of a program
shown_one : {before x y : List ℕ} {print : Print} {r s : Printed} → Shown before print x r → Shown before print y s → (r ≡ s) × (x ≡ y)
shown_one (printed p) (printed q) = let (sizes, texts) = wrote_one p q in (ap Printed.Output sizes, texts)
shown_one (complained p) (complained q) = let (sizes, texts) = wrote_one p q in (ap Printed.Complaint sizes, texts)

-- ---- words

pub unique_words_word : OneAnswer words_says.word.ended words.word.Reads.Post
unique_words_word κs a o u p q = both (same p q) refl

pub unique_words_store : (T : RattleType) (laws : Laws T) (copies : IsCopy T) (clones : Ghosts T.Denot) (dict : Dict) → OneAnswer (words_says.store.ended T clones dict) (words.store.Reads.Post T laws copies clones dict)
unique_words_store T laws copies clones dict κs a o u p q = both refl (both (same p q) refl)

pub unique_words_zeros : (N : RattleType) (fits : Fits w64 (value_of N)) → OneAnswer (words_says.zeros.ended N) (words.zeros.Reads.Post (value_of N) fits)
unique_words_zeros N fits κs a o u p q = both (same p q) refl

pub unique_words_refusals_Reason_number : OneAnswer words_says.refusals.Reason.number.ended words.refusals.Reason.number.Reads.Post
unique_words_refusals_Reason_number κs a o u p q = both (same p q) refl

pub unique_words_refusals_Reason_at : OneAnswer words_says.refusals.Reason.at.ended words.refusals.Reason.at.Reads.Post
unique_words_refusals_Reason_at κs a o u p q = both (same p q) refl

pub unique_words_number_at : OneAnswer words_says.number_at.ended words.number_at.Reads.Post
unique_words_number_at κs a o u p q = both (meant answer_of_injective p q) refl

pub unique_words_put_number : OneAnswer words_says.put_number.ended words.put_number.Reads.Post
unique_words_put_number κs a o u p q = both (same p.0 q.0) (both (same p.1 q.1) refl)

pub unique_words_ReadingPartialEq_eq : OneAnswer words_says.ReadingPartialEq.eq.ended words.ReadingPartialEq.eq.Reads.Post
unique_words_ReadingPartialEq_eq κs a o u p q = both (same p q) refl

pub unique_words_refusals_ReasonPartialEq_eq : OneAnswer words_says.refusals.ReasonPartialEq.eq.ended words.refusals.ReasonPartialEq.eq.Reads.Post
unique_words_refusals_ReasonPartialEq_eq κs a o u p q = both (same p q) refl

pub unique_words_refusals_RefusalPartialEq_eq : OneAnswer words_says.refusals.RefusalPartialEq.eq.ended words.refusals.RefusalPartialEq.eq.Reads.Post
unique_words_refusals_RefusalPartialEq_eq κs a o u p q = both (same p q) refl

-- ---- graph

pub unique_graph_Limits_runnable : OneAnswer graph_says.Limits.runnable.ended graph.Limits.runnable.Reads.Post
unique_graph_Limits_runnable κs a o u p q = both (same p q) refl

pub unique_graph_Limits_source : OneAnswer graph_says.Limits.source.ended graph.Limits.source.Reads.Post
unique_graph_Limits_source κs a o u p q = both (same p q) refl

pub unique_graph_role_at : OneAnswer graph_says.role_at.ended graph.role_at.Reads.Post
unique_graph_role_at κs a o u p q = both (same p q) refl

pub unique_graph_fault : OneAnswer graph_says.fault.ended graph.fault.Reads.Post
unique_graph_fault κs a o u p q = both (meant number_in_injective p q) refl

pub unique_graph_targets : OneAnswer graph_says.targets.ended graph.targets.Reads.Post
unique_graph_targets κs a o u p q = both (meant targets_of_injective p q) refl

pub unique_graph_check_runnable : OneAnswer graph_says.check_runnable.ended graph.check_runnable.Reads.Post
unique_graph_check_runnable κs a o u p q = both (meant answer_of_injective p q) refl

pub unique_graph_check_source : OneAnswer graph_says.check_source.ended graph.check_source.Reads.Post
unique_graph_check_source κs a o u p q = both (meant answer_of_injective p q) refl

pub unique_graph_RolePartialEq_eq : OneAnswer graph_says.RolePartialEq.eq.ended graph.RolePartialEq.eq.Reads.Post
unique_graph_RolePartialEq_eq κs a o u p q = both (same p q) refl

pub unique_graph_SuccessorsPartialEq_eq : OneAnswer graph_says.SuccessorsPartialEq.eq.ended graph.SuccessorsPartialEq.eq.Reads.Post
unique_graph_SuccessorsPartialEq_eq κs a o u p q = both (same p q) refl

pub unique_graph_LimitsPartialEq_eq : OneAnswer graph_says.LimitsPartialEq.eq.ended graph.LimitsPartialEq.eq.Reads.Post
unique_graph_LimitsPartialEq_eq κs a o u p q = both (same p q) refl

pub unique_graph_HeaderPartialEq_eq : OneAnswer graph_says.HeaderPartialEq.eq.ended graph.HeaderPartialEq.eq.Reads.Post
unique_graph_HeaderPartialEq_eq κs a o u p q = both (same p q) refl

-- ---- file

pub unique_file_read : OneAnswer file_says.read.ended file.read.Reads.Post
unique_file_read κs a o u p q = both (meant answer_of_injective p.0 q.0) (past (both (same p.1 q.1) refl))

pub unique_file_write : OneAnswer file_says.write.ended file.write.Reads.Post
unique_file_write κs a o u p q = both (meant answer_of_injective p.0 q.0) (past (past (both (same p.1 q.1) refl)))

-- ---- harden

pub unique_harden_harden : OneAnswer harden_says.harden.ended harden.harden.Reads.Post
unique_harden_harden κs a o u p q = both (meant answer_of_injective p.0 q.0) (past (past (both (same p.1 q.1) refl)))

pub unique_harden_grading_GradePartialEq_eq : OneAnswer harden_says.grading.GradePartialEq.eq.ended harden.grading.GradePartialEq.eq.Reads.Post
unique_harden_grading_GradePartialEq_eq κs a o u p q = both (same p q) refl

-- ---- bench

pub unique_bench_run : OneAnswer bench_says.run.ended bench.run.Reads.Post
unique_bench_run κs a o u p q = both (meant answer_of_injective p.0 q.0) (past (past (past (both (same p.1 q.1) refl))))

pub unique_bench_campaign : OneAnswer bench_says.campaign.ended bench.campaign.Reads.Post
unique_bench_campaign κs a o u p q =
    both (meant answer_of_injective p.0 q.0) (past (past (past (both (same p.1.0 q.1.0) (both (same p.1.1 q.1.1) refl)))))

pub unique_bench_StatePartialEq_eq : OneAnswer bench_says.StatePartialEq.eq.ended bench.StatePartialEq.eq.Reads.Post
unique_bench_StatePartialEq_eq κs a o u p q = both (same p q) refl

pub unique_bench_OutcomePartialEq_eq : OneAnswer bench_says.OutcomePartialEq.eq.ended bench.OutcomePartialEq.eq.Reads.Post
unique_bench_OutcomePartialEq_eq κs a o u p q = both (same p q) refl

pub unique_bench_FaultPartialEq_eq : OneAnswer bench_says.FaultPartialEq.eq.ended bench.FaultPartialEq.eq.Reads.Post
unique_bench_FaultPartialEq_eq κs a o u p q = both (same p q) refl

pub unique_bench_RunAnswerPartialEq_eq : OneAnswer bench_says.RunAnswerPartialEq.eq.ended bench.RunAnswerPartialEq.eq.Reads.Post
unique_bench_RunAnswerPartialEq_eq κs a o u p q = both (same p q) refl

pub unique_bench_ScorePartialEq_eq : OneAnswer bench_says.ScorePartialEq.eq.ended bench.ScorePartialEq.eq.Reads.Post
unique_bench_ScorePartialEq_eq κs a o u p q = both (same p q) refl

pub unique_bench_scores_ClassPartialEq_eq : OneAnswer bench_says.scores.ClassPartialEq.eq.ended bench.scores.ClassPartialEq.eq.Reads.Post
unique_bench_scores_ClassPartialEq_eq κs a o u p q = both (same p q) refl

pub unique_bench_steps_SequelPartialEq_eq : OneAnswer bench_says.steps.SequelPartialEq.eq.ended bench.steps.SequelPartialEq.eq.Reads.Post
unique_bench_steps_SequelPartialEq_eq κs a o u p q = both (same p q) refl

pub unique_bench_steps_EffectPartialEq_eq : OneAnswer bench_says.steps.EffectPartialEq.eq.ended bench.steps.EffectPartialEq.eq.Reads.Post
unique_bench_steps_EffectPartialEq_eq κs a o u p q = both (same p q) refl

pub unique_bench_ScoreDefault_default : OneAnswer bench_says.ScoreDefault.default.ended bench.ScoreDefault.default.Reads.Post
unique_bench_ScoreDefault_default κs a o u p q = both (empty_one p q) refl

-- ---- text

pub unique_text_Text_byte : OneAnswer text_says.Text.byte.ended text.Text.byte.Reads.Post
unique_text_Text_byte κs a o u p q = both refl (both (same p q) refl)

pub unique_text_Text_piece : OneAnswer text_says.Text.piece.ended text.Text.piece.Reads.Post
unique_text_Text_piece κs a o u p q = both refl (both (same p q) refl)

pub unique_text_Text_number : OneAnswer text_says.Text.number.ended text.Text.number.Reads.Post
unique_text_Text_number κs a o u p q = both refl (both (same p q) refl)

pub unique_text_Text_after_space : OneAnswer text_says.Text.after_space.ended text.Text.after_space.Reads.Post
unique_text_Text_after_space κs a o u p q = both refl (both (same p q) refl)

pub unique_text_Text_spaced : OneAnswer text_says.Text.spaced.ended text.Text.spaced.Reads.Post
unique_text_Text_spaced κs a o u p q = both refl (both (same p q) refl)

pub unique_text_value : OneAnswer text_says.value.ended text.value.Reads.Post
unique_text_value κs a o u p q = both (same p q) refl

-- ---- desk

pub unique_desk_list : OneAnswer desk_says.list.ended desk.list.Reads.Post
unique_desk_list κs a o u p q = let (sizes, texts) = wrote_one p q in both sizes (past (both texts refl))

pub unique_desk_run : OneAnswer desk_says.run.ended desk.run.Reads.Post
unique_desk_run κs a o u p q = let (prints, texts) = shown_one p q in both prints (past (past (both texts refl)))

pub unique_desk_score : OneAnswer desk_says.score.ended desk.score.Reads.Post
unique_desk_score κs a o u p q = let (prints, texts) = shown_one p q in both prints (past (past (both texts refl)))

pub unique_desk_file : OneAnswer desk_says.file.ended desk.file.Reads.Post
unique_desk_file κs a o u p q = let (prints, texts) = shown_one p q in both prints (past (past (both texts refl)))

pub unique_desk_PrintedPartialEq_eq : OneAnswer desk_says.PrintedPartialEq.eq.ended desk.PrintedPartialEq.eq.Reads.Post
unique_desk_PrintedPartialEq_eq κs a o u p q = both (same p q) refl

pub unique_desk_settings_ModePartialEq_eq : OneAnswer desk_says.settings.ModePartialEq.eq.ended desk.settings.ModePartialEq.eq.Reads.Post
unique_desk_settings_ModePartialEq_eq κs a o u p q = both (same p q) refl

pub unique_desk_settings_WantedPartialEq_eq : OneAnswer desk_says.settings.WantedPartialEq.eq.ended desk.settings.WantedPartialEq.eq.Reads.Post
unique_desk_settings_WantedPartialEq_eq κs a o u p q = both (same p q) refl

-- ---- console

pub unique_console_file_space : OneAnswer console_says.file_space.ended console.file_space.Reads.Post
unique_console_file_space κs a o u p q = both (same p q) refl

pub unique_console_cell_space : OneAnswer console_says.cell_space.ended console.cell_space.Reads.Post
unique_console_cell_space κs a o u p q = both (same p q) refl

pub unique_console_text_space : OneAnswer console_says.text_space.ended console.text_space.Reads.Post
unique_console_text_space κs a o u p q = both (same p q) refl

-- the operating system says what the arguments are, so their contract is only a bound: with one byte lent, 0 and 1 both keep it
pub open_console_arguments : TwoAnswers console_says.arguments.ended console.arguments.Reads.Post
open_console_arguments κs =
    let lent : List ℕ = 0 ∷ [] in (
      (record { ref_ptr = (0, 0); now = record { seal = tt } }, (record { ref_ptr = (0, 0); ghost_name = 0; now = lent }, tt)),
      (0, (tt, (lent, tt))),
      (1, (tt, (lent, tt))),
      omega arith,
      omega arith,
      λ e. omega (arith, e),
    )

-- it also says what there is to be read: of one byte lent, none and one can be read
pub open_console_read_full : TwoAnswers console_says.read_full.ended console.read_full.Reads.Post
open_console_read_full κs =
    let lent : List ℕ = 0 ∷ [] in (
      (record { ref_ptr = (0, 0); ghost_name = 0; now = record { seal = tt } }, (record { ref_ptr = (0, 0); ghost_name = 1; now = lent }, tt)),
      (Ok 0, (record { seal = tt }, (lent, tt))),
      (Ok 1, (record { seal = tt }, (lent, tt))),
      omega arith,
      omega arith,
      λ e. cc,
    )

-- ---- yardstick

pub unique_yardstick_yardstick_read : OneAnswer yardstick_says.yardstick_read.ended yardstick.yardstick_read.Reads.Post
unique_yardstick_yardstick_read κs a o u p q = both (same p.0 q.0) (past (both (same p.1 q.1) refl))

pub unique_yardstick_yardstick_write : OneAnswer yardstick_says.yardstick_write.ended yardstick.yardstick_write.Reads.Post
unique_yardstick_yardstick_write κs a o u p q = both (same p.0 q.0) (past (past (past (past (both (same p.1 q.1) refl)))))

pub unique_yardstick_yardstick_check_runnable : OneAnswer yardstick_says.yardstick_check_runnable.ended yardstick.yardstick_check_runnable.Reads.Post
unique_yardstick_yardstick_check_runnable κs a o u p q = both (same p q) refl

pub unique_yardstick_yardstick_check_source : OneAnswer yardstick_says.yardstick_check_source.ended yardstick.yardstick_check_source.Reads.Post
unique_yardstick_yardstick_check_source κs a o u p q = both (same p q) refl

pub unique_yardstick_yardstick_run : OneAnswer yardstick_says.yardstick_run.ended yardstick.yardstick_run.Reads.Post
unique_yardstick_yardstick_run κs a o u p q =
    both (same p.0 q.0) (past (past (past (past (past (both (same p.1 q.1) refl))))))

pub unique_yardstick_yardstick_campaign : OneAnswer yardstick_says.yardstick_campaign.ended yardstick.yardstick_campaign.Reads.Post
unique_yardstick_yardstick_campaign κs a o u p q =
    both (same p.0 q.0)
    (past (past (past (past (past (both (same p.1.0 q.1.0) (both (same p.1.1 q.1.1) refl)))))))

pub unique_yardstick_yardstick_harden : OneAnswer yardstick_says.yardstick_harden.ended yardstick.yardstick_harden.Reads.Post
unique_yardstick_yardstick_harden κs a o u p q = both (same p.0 q.0) (past (past (past (past (both (same p.1 q.1) refl)))))
