-- Document 01, "The graph": the fields of each kind, and which words are in order in each role.
-- Assumes nothing.
use Rattle.std.specs.Prelude.{ℕ, Result, Ok, Err, Bool, cond, ◌&&◌, List, [], ◌∷◌, get_or, eqb, ltb, leb}
use Rattle.words.specs.Refusals.{number_of}
use Rattle.words.specs.declared.refusals.Reason.{Reason}
use Rattle.graph.specs.declared.Role.{Role}
use Rattle.graph.specs.declared.Role.TheVariants.{Kind, Operator, Comparison, Port, Register, Target, Free, Spare}

-- the fields after the kind, from kind 0 (none such) upward
unfoldable pub layouts : List (List Role)
layouts =
    []
    ∷ (Register ∷ Free ∷ Target ∷ [])
    ∷ (Operator ∷ Register ∷ Register ∷ Register ∷ Target ∷ [])
    ∷ (Comparison ∷ Register ∷ Register ∷ Target ∷ Target ∷ [])
    ∷ (Comparison ∷ Register ∷ Free ∷ Target ∷ Target ∷ [])
    ∷ (Register ∷ Target ∷ [])
    ∷ (Port ∷ Register ∷ Target ∷ [])
    ∷ (Register ∷ [])
    ∷ []

-- the role of a node's word: the kind, then its fields, then spare words
unfoldable pub role_at : ℕ → ℕ → Role
role_at kind word = get_or (Kind ∷ get_or layouts kind []) word Spare

abbrev pub in_range : ℕ → ℕ → ℕ → Bool
in_range low high n = leb low n && leb n high

-- the refusal's number for a word in a role, 0 where the word is in order
abbrev pub fault : ℕ → ℕ → ℕ → Role → ℕ → ℕ
fault kinds registers nodes Kind w = cond (in_range 1 kinds w) 0 5
fault kinds registers nodes Operator w = cond (ltb w 7) 0 5
fault kinds registers nodes Comparison w = cond (ltb w 6) 0 5
fault kinds registers nodes Port w = cond (ltb w 256) 0 5
fault kinds registers nodes Register w = cond (ltb w registers) 0 6
fault kinds registers nodes Target w = cond (ltb w nodes) 0 7
fault kinds registers nodes Free w = 0
fault kinds registers nodes Spare w = cond (eqb w 0) 0 8

-- the number of what is wrong, 0 where nothing is
abbrev pub number_in : Result Unit Reason → ℕ
number_in (Ok _) = 0
number_in (Err reason) = number_of reason
