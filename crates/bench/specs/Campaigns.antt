-- Document 01, "Running and scoring": a campaign, its classes and its counts.
-- Assumes nothing.
use Rattle.std.specs.Prelude.{ℕ, zero, suc, ◌+◌, Bool, true, false, cond, ◌&&◌, List, [], ◌∷◌, length, replicate, ◌==◌, nat_le}
use Rattle.words.specs.Answer.{Answer, given, refused, demand, and_then, written}
use Rattle.words.specs.Buffer.{over}
use Rattle.graph.specs.Nodes.{node_at}
use Rattle.graph.specs.Checks.{runnable_check}
use Rattle.bench.specs.Steps.{Machine, Setting}
use Rattle.bench.specs.Runs.{run_of, settled, most_steps}
use Rattle.bench.specs.declared.Fault.TheVariants.{Undisturbed, Inverted}
use Rattle.bench.specs.declared.Outcome.{Outcome}
use Rattle.bench.specs.declared.Outcome.TheVariants.{Returned, Caught, Spent, Full}
use Rattle.bench.specs.declared.Score.{Score}

abbrev pub prefix_of : List ℕ → List ℕ → Bool
prefix_of [] reference = true
prefix_of (x ∷ xs) [] = false
prefix_of (x ∷ xs) (y ∷ ys) = x == y && prefix_of xs ys

-- the same words, to the end
abbrev pub same : List ℕ → List ℕ → Bool
same events reference = prefix_of events reference && length events == length reference

pub data Class : Type 0 where
  caught : Class
  late : Class
  harmless : Class
  changed : Class
  unended : Class

-- the class of a disturbed run's end and events, beside the reference's value and events
abbrev pub class_of : ℕ → List ℕ → Outcome → List ℕ → Class
class_of value reference Caught events = cond (prefix_of events reference) caught late
class_of value reference (Returned v) events = cond (v == value && same events reference) harmless changed
class_of value reference Full events = changed
class_of value reference Spent events = unended

-- a score with one position more, of this class
abbrev pub tallied : Class → Score → Score
tallied caught s =
    record { positions = s.positions + 1; caught = s.caught + 1; late = s.late; harmless = s.harmless; changed = s.changed; unended = s.unended }
tallied late s =
    record { positions = s.positions + 1; caught = s.caught; late = s.late + 1; harmless = s.harmless; changed = s.changed; unended = s.unended }
tallied harmless s =
    record { positions = s.positions + 1; caught = s.caught; late = s.late; harmless = s.harmless + 1; changed = s.changed; unended = s.unended }
tallied changed s =
    record { positions = s.positions + 1; caught = s.caught; late = s.late; harmless = s.harmless; changed = s.changed + 1; unended = s.unended }
tallied unended s =
    record { positions = s.positions + 1; caught = s.caught; late = s.late; harmless = s.harmless; changed = s.changed; unended = s.unended + 1 }

abbrev pub no_score : Score
no_score = record { positions = 0; caught = 0; late = 0; harmless = 0; changed = 0; unended = 0 }

-- the class of a run with the branch at this place inverted, beside a reference that returned this value with these events
unfoldable pub class_at : Setting → ℕ → ℕ → ℕ → List ℕ → ℕ → Class
class_at s entry budget value reference place =
    let p = run_of s (Inverted place) entry budget in
    class_of value reference (settled p.status) p.machine.events

-- the places below k, each tried once
unfoldable pub score_below : Setting → ℕ → ℕ → ℕ → List ℕ → ℕ → Score
score_below s entry budget value reference zero = no_score
score_below s entry budget value reference (suc k) =
    tallied (class_at s entry budget value reference k) (score_below s entry budget value reference k)

-- a place for each branch that the undisturbed run executed; a run that does not return is 13
abbrev pub score_of : Setting → ℕ → ℕ → Machine → Outcome → Answer Score
score_of s entry budget m (Returned value) = given (score_below s entry budget value m.events m.branches)
score_of s entry budget m Caught = refused 13 0
score_of s entry budget m Spent = refused 13 0
score_of s entry budget m Full = refused 13 0

-- the score of a graph, or 13
abbrev pub score_answer : Setting → ℕ → ℕ → Answer Score
score_answer s entry budget =
    let reference = run_of s Undisturbed entry budget in
    score_of s entry budget reference.machine (settled reference.status)

-- the graph's checks, 12, 14, then 13
unfoldable pub campaign_answer : ℕ → ℕ → ℕ → List ℕ → List ℕ → ℕ → ℕ → ℕ → Answer Score
campaign_answer registers nodes entry table inputs first second budget =
    let s : Setting = record { graph = node_at table; inputs = inputs; room = first } in
    and_then (runnable_check registers nodes entry table) λ _.
    demand (nat_le budget most_steps) 12 0 (demand (first == second) 14 0 (score_answer s entry budget))

-- the reference events over the first words of the first buffer
unfoldable pub campaign_first : ℕ → ℕ → ℕ → List ℕ → List ℕ → List ℕ → List ℕ → ℕ → List ℕ
campaign_first registers nodes entry table inputs first second budget =
    let s : Setting = record { graph = node_at table; inputs = inputs; room = length first } in
    written (campaign_answer registers nodes entry table inputs (length first) (length second) budget)
    (λ _. over (run_of s Undisturbed entry budget).machine.events first)
    first

-- the second buffer is all zero
unfoldable pub campaign_second : ℕ → ℕ → ℕ → List ℕ → List ℕ → List ℕ → List ℕ → ℕ → List ℕ
campaign_second registers nodes entry table inputs first second budget =
    written (campaign_answer registers nodes entry table inputs (length first) (length second) budget)
    (λ _. replicate (length second) 0)
    second
