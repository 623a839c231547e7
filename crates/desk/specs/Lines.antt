-- What the programs print, line by line: a refusal, a run, a score.
-- Assumes nothing.
use Rattle.std.specs.Prelude.{ℕ, List, [], ◌∷◌, ◌++◌, codes}
use Rattle.text.specs.Decimals.{decimal, spaced}
use Rattle.bench.specs.declared.Outcome.{Outcome}
use Rattle.bench.specs.declared.Outcome.TheVariants.{Returned, Caught, Spent, Full}
use Rattle.bench.specs.declared.Score.{Score}
use Rattle.bench.specs.declared.State.{State}
use Rattle.desk.specs.declared.settings.Wanted.{Wanted}

-- a line: its text, closed by byte 10
abbrev pub line : List ℕ → List ℕ
line text = text ++ (10 ∷ [])

-- `refused`, number and place
unfoldable pub refusal_line : ℕ → ℕ → List ℕ
refusal_line number place = line (codes "refused" ++ spaced (number ∷ place ∷ []))

-- how a run ended
abbrev pub outcome_text : Outcome → List ℕ
outcome_text (Returned value) = codes "returned" ++ spaced (value ∷ [])
outcome_text Caught = codes "caught"
outcome_text Spent = codes "spent"
outcome_text Full = codes "full"

-- where a run stands, and what it counted
unfoldable pub counts_text : ℕ → ℕ → ℕ → ℕ → List ℕ
counts_text node steps branches reads =
    line (codes "node" ++ spaced (node ∷ []))
    ++ line (codes "steps" ++ spaced (steps ∷ []))
    ++ line (codes "branches" ++ spaced (branches ∷ []))
    ++ line (codes "reads" ++ spaced (reads ∷ []))

-- the outcome; node, steps, branches and reads; the events' words; the registers
unfoldable pub run_text : Outcome → State → List ℕ → List ℕ
run_text outcome s events =
    line (outcome_text outcome)
    ++ counts_text s.node s.steps s.branches s.reads
    ++ line (codes "events" ++ spaced events)
    ++ line (codes "registers" ++ spaced s.registers)

-- the line of the release record: positions and the counts, one space apart
unfoldable pub score_line : Score → List ℕ
score_line s =
    line (decimal s.positions ++ spaced (s.caught ∷ s.late ∷ s.harmless ∷ s.changed ∷ s.unended ∷ []))

-- which argument, and what was expected
abbrev pub complaint_of : ℕ → List ℕ → List ℕ
complaint_of i expected = line (codes "argument" ++ spaced (i ∷ []) ++ expected)

-- the one line that says what was wanted in the place of an argument
abbrev pub complaint_line : Wanted → List ℕ
complaint_line Wanted.Mode = complaint_of 1 (codes ": expected MODE, plain or hardened")
complaint_line Wanted.Budget = complaint_of 2 (codes ": expected BUDGET, a number up to 4294967295")
complaint_line Wanted.Room = complaint_of 3 (codes ": expected ROOM, a number up to 16384")
complaint_line Wanted.Fault = complaint_of 4 (codes ": expected FAULT, none or a number up to 4294967295")
complaint_line (Wanted.Word i) = complaint_of i (codes ": expected WORD, a number up to 4294967295")
complaint_line (Wanted.End i) = complaint_of i (codes ": expected no more than 4096 words")
complaint_line Wanted.Plain = complaint_of 1 (codes ": expected plain, or no argument")
complaint_line Wanted.One = complaint_of 2 (codes ": expected no more than one argument")
