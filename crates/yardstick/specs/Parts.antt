-- Document 01, "Refusal numbers and the order of checks", "The hardened graph" and "Running and scoring": the numbers of each
-- answer in one order. The first two are the refusal's number and place, 0 and 0 where nothing is refused; on a refusal all others are 0.
-- Assumes nothing.
use Rattle.std.specs.Prelude.{ℕ, Bool, true, false, List, [], ◌∷◌, ◌++◌, replicate}
use Rattle.words.specs.Answer.{Answer, given, refused}
use Rattle.graph.specs.declared.Header.{Header}
use Rattle.bench.specs.declared.Fault.{Fault}
use Rattle.bench.specs.declared.Fault.TheVariants.{Undisturbed, Inverted}
use Rattle.bench.specs.declared.Outcome.{Outcome}
use Rattle.bench.specs.declared.Outcome.TheVariants.{Returned, Caught, Spent, Full}
use Rattle.bench.specs.declared.RunAnswer.{RunAnswer}
use Rattle.bench.specs.declared.Score.{Score}

-- the numbers of an answer, where a value stands for so many numbers
abbrev pub answer_numbers : {A : Type 0} → ℕ → (A → List ℕ) → Answer A → List ℕ
answer_numbers count numbers (given a) = 0 ∷ 0 ∷ numbers a
answer_numbers count numbers (refused number place) = number ∷ place ∷ replicate count 0

-- of a check there is nothing more
abbrev pub check_numbers : Answer Unit → List ℕ
check_numbers = answer_numbers 0 (λ _. [])

-- document 02, K2: how many bytes a file has
abbrev pub size_values : ℕ → List ℕ
size_values size = size ∷ []

abbrev pub size_numbers : Answer ℕ → List ℕ
size_numbers = answer_numbers 1 size_values

-- R, N and entry
abbrev pub graph_values : Header → List ℕ
graph_values h = h.registers ∷ h.nodes ∷ h.entry ∷ []

abbrev pub graph_numbers : Answer Header → List ℕ
graph_numbers = answer_numbers 3 graph_values

-- the positions and the five counts
abbrev pub score_values : Score → List ℕ
score_values s = s.positions ∷ s.caught ∷ s.late ∷ s.harmless ∷ s.changed ∷ s.unended ∷ []

abbrev pub score_numbers : Answer Score → List ℕ
score_numbers = answer_numbers 6 score_values

-- 1 Returned, 2 Caught, 3 Spent, 4 Full, and the value returned
abbrev pub outcome_values : Outcome → List ℕ
outcome_values (Returned value) = 1 ∷ value ∷ []
outcome_values Caught = 2 ∷ 0 ∷ []
outcome_values Spent = 3 ∷ 0 ∷ []
outcome_values Full = 4 ∷ 0 ∷ []

-- the outcome and the value, then the node, steps, branches, reads and events
abbrev pub front_values : RunAnswer → List ℕ
front_values r =
    outcome_values r.outcome ++ (r.state.node ∷ r.state.steps ∷ r.state.branches ∷ r.state.reads ∷ r.events ∷ [])

-- these, then the registers
abbrev pub run_values : RunAnswer → List ℕ
run_values r = front_values r ++ r.state.registers

abbrev pub run_numbers : Answer RunAnswer → List ℕ
run_numbers = answer_numbers 71 run_values

-- the branch at this place is inverted, or none is
abbrev pub fault_of : Bool → ℕ → Fault
fault_of true place = Inverted place
fault_of false place = Undisturbed
