-- The text that a program lends holds every answer it can give: whatever the arguments and the input, what the program prints of
-- it is the whole text that is defined.
-- Assumes nothing.
use Rattle.std.proofs.Common.{◌≡◌, refl, sym, ap, Bool, true, false, cond, ◌&&◌, leb, List, [], ◌∷◌, length, take, drop, replicate, length-append, length-take, ℕ, zero, suc, ◌+◌, ◌-◌, ◌*◌, ◌%◌, ◌^◌, ◌≤◌, ◌<◌, arith, None, Result, Ok, Err, IfOk, ok_or}
use borrow.Author.Tests.{leb-true}
use Rattle.words.specs.Answer.{Answer, given, refused, demand, and_then}
use Rattle.words.proofs.Answers.{Of, of_given, of_refused, of_demand, of_then, of_map, when_given, Any}
use Rattle.words.proofs.AllWords.{AllWords, words_append, words_take, words_drop, words_zeros}
use Rattle.graph.specs.Nodes.{node_at}
use Rattle.graph.specs.Checks.{runnable_check, source_check}
use Rattle.graph.specs.declared.Header.{Header}
use Rattle.file.specs.Reading.{read_answer}
use Rattle.file.specs.Writing.{file_of, write_answer}
use Rattle.file.proofs.Writer.{written_room}
use Rattle.file.proofs.Words.{read_words}
use Rattle.harden.specs.Hardened.{harden_answer, hardened_count, source_of}
use Rattle.harden.proofs.Words.{harden_words}
use Rattle.bench.specs.Steps.{Progress}
use Rattle.bench.specs.Runs.{run_answer, most_steps, settled, state_of}
use Rattle.bench.specs.declared.Fault.{Fault}
use Rattle.bench.specs.declared.Outcome.{Outcome}
use Rattle.bench.specs.declared.Outcome.TheVariants.{Returned, Caught, Spent, Full}
use Rattle.bench.specs.declared.Score.{Score}
use Rattle.bench.specs.declared.State.{State}
use Rattle.bench.proofs.Bounds.{within}
use Rattle.bench.proofs.Held.{Held, held_run}
use Rattle.text.specs.Decimals.{value_from, value_of}
use Rattle.text.specs.Places.{Wrote}
use Rattle.text.proofs.Lengths.{decimal-length, spaced-length, words_length}
use Rattle.text.proofs.Writing.{wrote_fits}
use Rattle.desk.specs.declared.Printed.{Printed}
use Rattle.desk.specs.declared.loading.Graph.{Graph}
use Rattle.desk.specs.declared.settings.Mode.{Mode}
use Rattle.desk.specs.declared.settings.Mode.TheVariants.{Plain, Hardened}
use Rattle.desk.specs.declared.settings.Wanted.{Wanted}
use Rattle.desk.specs.Arguments.{argument, argument_count, most_room, most_words, settings_of, fault_of, word_of, words_of, other_from, words_in, then_asked, run_asked, score_asked, file_mode_of}
use Rattle.desk.specs.Lines.{refusal_line, outcome_text, counts_text, run_text, score_line, complaint_line}
use Rattle.desk.specs.Listing.{row_line, row_lines, listing}
use Rattle.desk.specs.Programs.{table_words, read_graph, harden_graph, graph_in, text_of, list_text, run_on, progress_text, run_print, score_on, score_print, Print, output, complaint, print_for, run_program, score_program, file_in, file_print, file_program, text_bytes, print_of, Shown, printed, complained}
use Rattle.desk.proofs.Cells.{words_length as count_words}

-- ---- lines

-- a text that the lent bytes hold
abbrev pub Fit : List ℕ → Type 0
Fit text = length text ≤ text_bytes

refusal_fits : (number place : ℕ) → Fit (refusal_line number place)
unfolding refusal_line
refusal_fits number place = simp length-append (omega (arith, spaced-length (number ∷ place ∷ [])))

score_fits : (s : Score) → Fit (score_line s)
unfolding score_line
score_fits s =
    simp length-append
    (omega (arith, decimal-length s.positions, spaced-length (s.caught ∷ s.late ∷ s.harmless ∷ s.changed ∷ s.unended ∷ [])))

complaint_fits : (wanted : Wanted) → Fit (complaint_line wanted)
complaint_fits Wanted.Mode = simp length-append (omega (arith, spaced-length (1 ∷ [])))
complaint_fits Wanted.Budget = simp length-append (omega (arith, spaced-length (2 ∷ [])))
complaint_fits Wanted.Room = simp length-append (omega (arith, spaced-length (3 ∷ [])))
complaint_fits Wanted.Fault = simp length-append (omega (arith, spaced-length (4 ∷ [])))
complaint_fits (Wanted.Word i) = simp length-append (omega (arith, spaced-length (i ∷ [])))
complaint_fits (Wanted.End i) = simp length-append (omega (arith, spaced-length (i ∷ [])))
complaint_fits Wanted.Plain = simp length-append (omega (arith, spaced-length (1 ∷ [])))
complaint_fits Wanted.One = simp length-append (omega (arith, spaced-length (2 ∷ [])))

outcome_length : (outcome : Outcome) → length (outcome_text outcome) ≤ 29
outcome_length (Returned value) = omega (arith, spaced-length (value ∷ []))
outcome_length Caught = omega arith
outcome_length Spent = omega arith
outcome_length Full = omega arith

counts_length : (node steps branches reads : ℕ) → length (counts_text node steps branches reads) ≤ 110
unfolding counts_text
counts_length node steps branches reads =
    simp length-append
    (omega (arith, spaced-length (node ∷ []), spaced-length (steps ∷ []), spaced-length (branches ∷ []), spaced-length (reads ∷ [])))

-- a run's text: 64 registers, and events within the room
run_fits : (outcome : Outcome) (s : State) (events : List ℕ) → length s.registers ≡ 64 → AllWords s.registers → length events ≤ most_room → AllWords events
    → Fit (run_text outcome s events)
unfolding run_text
run_fits outcome s events many registers few words =
    simp length-append
    (omega (
      arith,
      outcome_length outcome,
      counts_length s.node s.steps s.branches s.reads,
      words_length events words,
      words_length s.registers registers,
    ))

-- a row has seven numbers, six of them words
row_length : (table : List ℕ) (n : ℕ) → AllWords table → length (row_line table n) ≤ 87
unfolding row_line
row_length table n all =
    let row = take 6 (drop (6 * n) table) in
    simp length-append
    (omega (arith, decimal-length n, length-take 6 (drop (6 * n) table), words_length row (words_take 6 (drop (6 * n) table) (words_drop (6 * n) table all))))

rows_length : (table : List ℕ) (n : ℕ) → AllWords table → length (row_lines table n) ≤ 87 * n
unfolding row_lines
rows_length table zero all = omega arith
rows_length table (suc n) all = simp length-append (omega (arith, rows_length table n all, row_length table n all))

listing_fits : (h : Header) (table : List ℕ) → 6 * h.nodes ≤ table_words → AllWords table → Fit (listing h table)
unfolding listing
listing_fits h table room all =
    simp length-append
    (omega (arith, decimal-length h.registers, spaced-length (h.nodes ∷ h.entry ∷ []), rows_length table h.nodes all))

-- ---- graphs

pub answered : {A : Type 0} (a : Answer A) → Of (λ (x : A). Unit {0}) Any a
answered (given a) = of_given tt
answered (refused number place) = of_refused tt

-- a refusal fits, and so does a value's text
text_fits : {A : Type 0} {P : A → Type 0} (text : A → List ℕ) {a : Answer A} → ((x : A) → P x → Fit (text x)) → Of P Any a → Fit (text_of a text)
text_fits text fits (of_given {a = x} h) = fits x h
text_fits text fits (of_refused {number = number} {place = place} h) = refusal_fits number place

abbrev pub Worded : Graph → Type 0
Worded g = AllWords g.table

-- a graph whose rows lie in its table
abbrev Listed : Graph → Type 0
Listed g = Worded g × (6 * g.header.nodes ≤ table_words)

zeros : AllWords (replicate table_words 0)
zeros = words_zeros table_words

read_worded : (bytes : List ℕ) → Of Worded Any (read_graph bytes)
unfolding read_graph
read_worded bytes = of_then _ (answered (read_answer bytes table_words)) λ h e _. of_given (read_words bytes (replicate table_words 0) zeros)

-- a hardened graph has its rows in its table
room_by : (checked : Answer Unit) (fits : Bool) (n room : ℕ) (h k : Header) → fits ≡ leb (6 * n) room → h.nodes ≡ n
    → and_then checked (λ _. demand {A = Header} fits 11 (6 * n) (given h)) ≡ given k → 6 * k.nodes ≤ room
room_by (given tt) true n room h k f is e =
    let same : h ≡ k = cc in
    let fit : 6 * n ≤ room = leb-true (6 * n) room (sym f) in
    omega (arith, ap (λ (x : Header). x.nodes) same)
room_by (given tt) false n room h k f is e = let z : ◌≡◌ {A = ℕ} 0 1 = cc in absurd (omega arith)
room_by (refused number place) fits n room h k f is e = let z : ◌≡◌ {A = ℕ} 0 1 = cc in absurd (omega arith)

pub harden_room : (registers nodes entry : ℕ) (table : List ℕ) (room : ℕ) (k : Header) → harden_answer registers nodes entry table room ≡ given k → 6 * k.nodes ≤ room
unfolding harden_answer
harden_room registers nodes entry table room k e =
    room_by (source_check registers nodes entry table) (leb (6 * hardened_count (source_of registers nodes entry table)) room)
    (hardened_count (source_of registers nodes entry table)) room
    (record { registers = registers + 2; nodes = hardened_count (source_of registers nodes entry table); entry = nodes }) k refl refl e

harden_listed : (g : Graph) → Worded g → Of Listed Any (harden_graph g)
unfolding harden_graph
harden_listed g words =
    let h = g.header in
    of_then _ (answered (harden_answer h.registers h.nodes h.entry g.table table_words)) λ k e _.
    of_given (
      harden_words h.registers h.nodes h.entry g.table (replicate table_words 0) words zeros,
      harden_room h.registers h.nodes h.entry g.table table_words k e,
    )

hardened_listed : (bytes : List ℕ) → Of Listed Any (graph_in Hardened bytes)
unfolding graph_in
hardened_listed bytes = of_then harden_graph (read_worded bytes) λ g e words. harden_listed g words

-- the rows of a graph that was read and hardened lie in its table
pub hardened_room : (bytes : List ℕ) (g : Graph) → graph_in Hardened bytes ≡ given g → 6 * g.header.nodes ≤ table_words
hardened_room bytes g e = (when_given e (hardened_listed bytes)).1

pub graph_worded : (mode : Mode) (bytes : List ℕ) → Of Worded Any (graph_in mode bytes)
unfolding graph_in
graph_worded Hardened bytes = of_map (λ g listed. listed.0) (λ number place _. tt) (hardened_listed bytes)
graph_worded Plain bytes = read_worded bytes

-- `hlist`
pub list_fits : (bytes : List ℕ) → Fit (list_text bytes)
unfolding list_text
list_fits bytes =
    text_fits (λ g. listing g.header g.table) (λ g listed. listing_fits g.header g.table listed.1 listed.0) (hardened_listed bytes)

-- ---- runs

-- a run's machine holds words, and its events are within the room
abbrev Told : Progress → Type 0
Told p = Held p.machine × (length p.machine.events ≤ most_room)

run_told : (registers nodes entry : ℕ) (table inputs : List ℕ) (room budget : ℕ) (fault : Fault) → AllWords table → AllWords inputs → room ≤ most_room
    → Of Told Any (run_answer registers nodes entry table inputs room budget fault)
unfolding run_answer
run_told registers nodes entry table inputs room budget fault words inputs_are few =
    of_then _ (answered (runnable_check registers nodes entry table)) λ _ e _.
    of_demand (leb budget most_steps) 12 0 _
    (λ _. of_given (
      held_run table inputs room fault entry budget words inputs_are,
      omega (arith, (within (record { graph = node_at table; inputs = inputs; room = room }) fault entry budget).events),
    ))
    (λ _. tt)

progress_fits : (p : Progress) → Told p → Fit (progress_text p)
progress_fits p (held, few) =
    run_fits (settled p.status) (state_of p.machine) p.machine.events held.many held.registers few held.events

run-print_fits : (mode : Mode) (budget room : ℕ) (fault : Fault) (inputs bytes : List ℕ) → room ≤ most_room → AllWords inputs
    → Fit (run_print mode budget room fault inputs bytes)
unfolding run_print run_on
run-print_fits mode budget room fault inputs bytes few inputs_are =
    text_fits progress_text progress_fits
    (of_then _ (graph_worded mode bytes) λ g e words.
    run_told g.header.registers g.header.nodes g.header.entry g.table inputs room budget fault words inputs_are few)

score-print_fits : (mode : Mode) (budget room : ℕ) (inputs bytes : List ℕ) → Fit (score_print mode budget room inputs bytes)
unfolding score_print
score-print_fits mode budget room inputs bytes =
    text_fits score_line (λ s _. score_fits s) (answered (and_then (graph_in mode bytes) (score_on inputs budget room)))

-- ---- arguments

-- a number out of a text is a word
from_word : (n : ℕ) (text : List ℕ) → n < 2 ^ 32 → word_of (value_from n text) < 2 ^ 32
unfolding value_from
from_word n [] h = h
from_word n (b ∷ bs) h = by (leb 48 b) (leb b 57) (leb (10 * n + b % 48) 4294967295) refl (from_word (10 * n + b % 48) bs)
  where
    by : (low high small : Bool) → leb (10 * n + b % 48) 4294967295 ≡ small
        → (10 * n + b % 48 < 2 ^ 32 → word_of (value_from (10 * n + b % 48) bs) < 2 ^ 32)
        → word_of (cond (low && (high && small)) (value_from (10 * n + b % 48) bs) None) < 2 ^ 32
    by true true true e rest = rest (omega (arith, leb-true (10 * n + b % 48) 4294967295 e))
    by true true false e rest = omega arith
    by true false small e rest = omega arith
    by false high small e rest = omega arith

value_word : (text : List ℕ) → word_of (value_of text) < 2 ^ 32
unfolding value_of
value_word text = by (leb 1 (length text) && leb (length text) 10) (from_word 0 text (omega arith))
  where
    by : (short : Bool) → word_of (value_from 0 text) < 2 ^ 32 → word_of (cond short (value_from 0 text) None) < 2 ^ 32
    by true h = h
    by false h = omega arith

arguments_words : (cells : List ℕ) (from k : ℕ) → AllWords (words_of cells from k)
unfolding words_of
arguments_words cells from zero = tt
arguments_words cells from (suc k) =
    words_append (words_of cells from k) (word_of (value_of (argument cells (from + k))) ∷ []) (arguments_words cells from k)
    (value_word (argument cells (from + k)), tt)

-- the words that are asked for are words
inputs_words : (cells : List ℕ) (from : ℕ) → IfOk (words_in cells from) AllWords
unfolding words_in
inputs_words cells from =
    let count = argument_count cells in
    let first = other_from cells (count - from) from in
    by (leb count (from + most_words)) (leb count first) (Wanted.Word (first + 1)) (Wanted.End (from + most_words + 1))
  where
    inputs : List ℕ
    inputs = words_of cells from (argument_count cells - from)

    by : (few all : Bool) (word end : Wanted) → IfOk (cond few (cond all (Ok inputs) (Err word)) (Err end)) AllWords
    by true true word end = arguments_words cells from (argument_count cells - from)
    by true false word end = tt
    by false all word end = tt

-- and there are never more than that
pub words_few : (cells : List ℕ) (from : ℕ) → IfOk (words_in cells from) (λ words. length words ≤ most_words)
unfolding words_in
words_few cells from =
    let count = argument_count cells in
    let first = other_from cells (count - from) from in
    by (leb count (from + most_words)) (leb count first) (Wanted.Word (first + 1)) (Wanted.End (from + most_words + 1)) refl
  where
    inputs : List ℕ
    inputs = words_of cells from (argument_count cells - from)

    by : (few all : Bool) (word end : Wanted) → leb (argument_count cells) (from + most_words) ≡ few
        → IfOk (cond few (cond all (Ok inputs) (Err word)) (Err end)) (λ words. length words ≤ most_words)
    by true true word end h =
        omega (arith, leb-true (argument_count cells) (from + most_words) h, count_words cells from (argument_count cells - from))
    by true false word end h = tt
    by false all word end h = tt

then_known : {A B : Type 0} (P : B → Type 0) (asked : Result A Wanted) (next : A → Result B Wanted) → ((a : A) → asked ≡ Ok a → IfOk (next a) P)
    → IfOk (then_asked asked next) P
then_known P (Ok a) next known = known a refl
then_known P (Err wanted) next known = tt

run_words : (cells : List ℕ) → IfOk (run_asked cells) (λ a. AllWords a.2)
unfolding run_asked
run_words cells =
    then_known (λ a. AllWords a.2) (settings_of cells) _ λ settings _.
    then_known (λ a. AllWords a.2) (ok_or (fault_of (argument cells 3)) Wanted.Fault) _ λ fault _.
    then_known (λ a. AllWords a.2) (words_in cells 4) _ λ inputs e. rw e at (inputs_words cells 4)

-- ---- programs

abbrev pub PrintFits : Print → Type 0
PrintFits (output text) = Fit text
PrintFits (complaint text) = Fit text

-- what was wanted fits, and so does what is printed for what was asked
print_fits : {A : Type 0} (asked : Result A Wanted) (print : A → Print) → ((a : A) → asked ≡ Ok a → PrintFits (print a)) → PrintFits (print_for asked print)
print_fits (Ok a) print fits = fits a refl
print_fits (Err wanted) print fits = complaint_fits wanted

-- a file that was written lies in the text
file_print_fits : (a : Answer Graph) → PrintFits (file_print (and_then a (file_in text_bytes)))
unfolding file_in
file_print_fits (given g) =
    let h = g.header in
    by (file_of h.registers h.nodes h.entry g.table) (write_answer h.registers h.nodes h.entry g.table text_bytes)
    (written_room h.registers h.nodes h.entry g.table text_bytes)
  where
    by : (file : List ℕ) (a : Answer ℕ) → ((size : ℕ) → a ≡ given size → Fit file) → PrintFits (file_print (and_then a λ _. given file))
    by file (given size) fits = fits size refl
    by file (refused number place) fits = refusal_fits number place
file_print_fits (refused number place) = refusal_fits number place

module _ (cells bytes : List ℕ) where
  -- `hrun`
  pub run_program_fits : PrintFits (run_program cells bytes)
  unfolding run_program
  run_program_fits =
      print_fits (run_asked cells) _ λ a e.
      run-print_fits a.0.mode a.0.budget a.0.room a.1 a.2 bytes a.0.room_in (rw e at (run_words cells))

  -- `hscore`
  pub score_program_fits : PrintFits (score_program cells bytes)
  unfolding score_program
  score_program_fits = print_fits (score_asked cells) _ λ a _. score-print_fits a.0.mode a.0.budget a.0.room a.1 bytes

  -- `hfile`
  pub file_program_fits : PrintFits (file_program text_bytes cells bytes)
  unfolding file_program
  file_program_fits = print_fits (file_mode_of cells) _ λ mode _. file_print_fits (graph_in mode bytes)

-- ---- nothing is cut

-- a text that fits is printed whole
shown_whole : {before after : List ℕ} {print : Print} {answer : Printed} → text_bytes ≤ length before → PrintFits print → Shown before print after answer
    → print_of answer after ≡ print
shown_whole {before} {after} lent fits (printed {text = text} {size = size} w) = ap output (wrote_fits before after size text (omega arith) w)
shown_whole {before} {after} lent fits (complained {text = text} {size = size} w) = ap complaint (wrote_fits before after size text (omega arith) w)

-- What `hlist` prints of its text is the whole listing, or the whole line of a refusal.
pub list_whole : (bytes before after : List ℕ) (size : ℕ) → text_bytes ≤ length before → Wrote before 0 (list_text bytes) after size
    → take size after ≡ list_text bytes
list_whole bytes before after size lent w = wrote_fits before after size (list_text bytes) (omega (arith, list_fits bytes)) w

-- What `hrun` prints is all that is defined for its arguments and its input.
pub run_whole : (cells bytes before after : List ℕ) (answer : Printed) → text_bytes ≤ length before → Shown before (run_program cells bytes) after answer
    → print_of answer after ≡ run_program cells bytes
run_whole cells bytes before after answer lent w = shown_whole lent (run_program_fits cells bytes) w

-- And so it is with `hscore`.
pub score_whole : (cells bytes before after : List ℕ) (answer : Printed) → text_bytes ≤ length before → Shown before (score_program cells bytes) after answer
    → print_of answer after ≡ score_program cells bytes
score_whole cells bytes before after answer lent w = shown_whole lent (score_program_fits cells bytes) w

-- And with `hfile`, whose text has this length.
pub file_whole : (cells bytes before after : List ℕ) (answer : Printed) → length before ≡ text_bytes →
    Shown before (file_program (length before) cells bytes) after answer → print_of answer after ≡ file_program text_bytes cells bytes
file_whole cells bytes before after answer lent w =
    let enough : text_bytes ≤ length before = omega arith in
    shown_whole enough (file_program_fits cells bytes) (rw lent at w)
