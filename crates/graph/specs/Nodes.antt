-- Document 01, "The graph": a node, decoded from its six words, and the nodes that an edge leads to from it.
-- Assumes nothing.
use Rattle.std.specs.Prelude.{ℕ, ◌+◌, ◌*◌, List, [], ◌∷◌, get_or}

-- what a branch compares a register with
pub data Operand : Type 0 where
  register : ℕ → Operand
  constant : ℕ → Operand

-- what a node that has one edge does
pub data Action : Type 0 where
  const : ℕ → ℕ → Action
  op : ℕ → ℕ → ℕ → ℕ → Action
  input : ℕ → Action
  output : ℕ → ℕ → Action

-- `go`: kinds 1, 2, 5 and 6; `branch`: kinds 3 and 4; `ret`: kind 7; `stop`: the catch, and whatever is no kind
pub data Node : Type 0 where
  go : Action → ℕ → Node
  branch : ℕ → ℕ → Operand → ℕ → ℕ → Node
  ret : ℕ → Node
  stop : Node

-- the node of six words, by its kind
unfoldable pub node_of : ℕ → ℕ → ℕ → ℕ → ℕ → ℕ → Node
node_of kind v w x y z =
    get_or
    (stop
    ∷ go (const v w) x
    ∷ go (op v w x y) z
    ∷ branch v w (register x) y z
    ∷ branch v w (constant x) y z
    ∷ go (input v) w
    ∷ go (output v w) x
    ∷ ret v
    ∷ [])
    kind
    stop

-- node n of a table
unfoldable pub node_at : List ℕ → ℕ → Node
node_at table n =
    node_of (get_or table (6 * n) 0) (get_or table (6 * n + 1) 0) (get_or table (6 * n + 2) 0) (get_or table (6 * n + 3) 0) (get_or table (6 * n + 4) 0) (get_or table (6 * n + 5) 0)

-- the six words of a node
abbrev pub words_of : Node → List ℕ
words_of (go (const d k) next) = 1 ∷ d ∷ k ∷ next ∷ 0 ∷ 0 ∷ []
words_of (go (op o d a b) next) = 2 ∷ o ∷ d ∷ a ∷ b ∷ next ∷ []
words_of (branch c a (register b) then else) = 3 ∷ c ∷ a ∷ b ∷ then ∷ else ∷ []
words_of (branch c a (constant k) then else) = 4 ∷ c ∷ a ∷ k ∷ then ∷ else ∷ []
words_of (go (input d) next) = 5 ∷ d ∷ next ∷ 0 ∷ 0 ∷ 0 ∷ []
words_of (go (output port a) next) = 6 ∷ port ∷ a ∷ next ∷ 0 ∷ 0 ∷ []
words_of (ret a) = 7 ∷ a ∷ 0 ∷ 0 ∷ 0 ∷ 0 ∷ []
words_of stop = 8 ∷ 0 ∷ 0 ∷ 0 ∷ 0 ∷ 0 ∷ []

-- where the edges of a node lead, the first target first
abbrev pub targets : Node → List ℕ
targets (go action next) = next ∷ []
targets (branch c a b then else) = then ∷ else ∷ []
targets (ret a) = []
targets stop = []
