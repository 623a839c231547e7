-- Document 01, "Refusal numbers and the order of checks": a refusal changes no lent buffer. So the reader makes two passes:
-- the first checks and writes nothing, the second writes what was checked. Contracts of private functions cite these.
-- Assumes nothing.
use Rattle.std.specs.Prelude.{ℕ, zero, suc, ◌+◌, ◌%◌, cond, List, [], ◌∷◌}
use Rattle.words.specs.Answer.{Answer, given, refused}
use Rattle.words.specs.Number.{number_at}
use Rattle.words.specs.declared.Reading.{Reading}
use Rattle.graph.specs.declared.Role.{Role}
use Rattle.graph.specs.Kinds.{role_at}
use Rattle.file.specs.Reading.{Cells, kind_after, stands}

-- the first pass over the nodes: where they end
abbrev pub end_of : Answer Cells → Answer ℕ
end_of (given c) = given c.next
end_of (refused number place) = refused number place

-- the first pass: accepted, or the refusal
abbrev pub passed : {A : Type 0} → Answer A → Answer Unit
passed (given a) = given tt
passed (refused number place) = refused number place

-- a number without a check: what is none counts as 0 and takes no bytes
abbrev pub taken_of : Answer Reading → ℕ → Reading
taken_of (given r) at = r
taken_of (refused number place) at = record { value = 0; next = at }

abbrev pub taken_at : List ℕ → ℕ → Reading
taken_at bytes at = taken_of (number_at bytes at) at

-- a word of a node, without a check
unfoldable pub taken_cell : List ℕ → Role → ℕ → Reading
taken_cell bytes role at = cond (stands role) (taken_at bytes at) (record { value = 0; next = at })

-- the second pass: the words from index i upward, `left` of them, in a node of this kind
unfoldable pub taken_from : List ℕ → ℕ → ℕ → ℕ → ℕ → List ℕ
taken_from bytes zero i kind at = []
taken_from bytes (suc left) i kind at =
    let t = taken_cell bytes (role_at kind (i % 6)) at in
    t.value ∷ taken_from bytes left (i + 1) (kind_after (i % 6) t.value kind) t.next
