-- Every register and every event word of a run is a 32-bit word, where the table's and the input's are, and there are 64 registers.
-- Assumes nothing.
use Rattle.std.proofs.Common.{◌≡◌, ℕ, zero, suc, ◌+◌, ◌*◌, ◌%◌, ◌^◌, ◌<◌, Bool, true, false, cond, leb, List, [], ◌∷◌, length, get_or, set, ◌∙◌, mod-lt, div-le_self, arith, length-set}
use mathlib.Core.Option.{none, some}
use lib.Bits.{and_le_l, or_lt, xor_lt}
use lib.ListN.{length-replicate}
use Rattle.words.proofs.AllWords.{AllWords, word_at, words_append, words_set, words_zeros}
use Rattle.graph.specs.Nodes.{Node, go, branch, ret, stop, const, op, input, output, node_of, node_at}
use Rattle.bench.specs.Words.{operate}
use Rattle.bench.specs.Steps.{Machine, Setting, Status, going, ended, Progress, at, start, get, stopped, execute, unless, step}
use Rattle.bench.specs.Runs.{next_of, next, after, run_of}
use Rattle.bench.specs.declared.Fault.{Fault}
use Rattle.bench.specs.declared.Outcome.TheVariants.{Full}

operate_word : (o a b : ℕ) → a < 2 ^ 32 → b < 2 ^ 32 → operate o a b < 2 ^ 32
unfolding operate
operate_word zero a b h k = omega arith
operate_word (suc zero) a b h k = omega arith
operate_word (suc (suc zero)) a b h k = omega (arith, and_le_l a b)
operate_word (suc (suc (suc zero))) a b h k = or_lt 32 a b h k
operate_word (suc (suc (suc (suc zero)))) a b h k = xor_lt 32 a b h k
operate_word (suc (suc (suc (suc (suc zero))))) a b h k = mod-lt (a * 2 ^ (b % 32)) (omega arith)
operate_word (suc (suc (suc (suc (suc (suc zero)))))) a b h k = omega (arith, div-le_self a (2 ^ (b % 32)))
operate_word (suc (suc (suc (suc (suc (suc (suc o))))))) a b h k = omega arith

-- the words of a node that can reach a register or an event
abbrev NodeWords : Node → Type 0
NodeWords (go (const d k) next) = k < 2 ^ 32
NodeWords (go (op o d a b) next) = Unit {0}
NodeWords (go (input d) next) = Unit {0}
NodeWords (go (output port a) next) = port < 2 ^ 32
NodeWords (branch c a b then else) = Unit {0}
NodeWords (ret a) = Unit {0}
NodeWords stop = Unit {0}

node_words : (kind v w x y z : ℕ) → v < 2 ^ 32 → w < 2 ^ 32 → NodeWords (node_of kind v w x y z)
unfolding node_of
node_words zero v w x y z h k = tt
node_words (suc zero) v w x y z h k = k
node_words (suc (suc zero)) v w x y z h k = tt
node_words (suc (suc (suc zero))) v w x y z h k = tt
node_words (suc (suc (suc (suc zero)))) v w x y z h k = tt
node_words (suc (suc (suc (suc (suc zero))))) v w x y z h k = tt
node_words (suc (suc (suc (suc (suc (suc zero)))))) v w x y z h k = h
node_words (suc (suc (suc (suc (suc (suc (suc zero))))))) v w x y z h k = tt
node_words (suc (suc (suc (suc (suc (suc (suc (suc kind)))))))) v w x y z h k = tt

table_words_lem : (table : List ℕ) → AllWords table → (n : ℕ) → NodeWords (node_at table n)
unfolding node_at
table_words_lem table all n =
    node_words (get_or table (6 * n) 0) (get_or table (6 * n + 1) 0) (get_or table (6 * n + 2) 0)
    (get_or table (6 * n + 3) 0) (get_or table (6 * n + 4) 0) (get_or table (6 * n + 5) 0)
    (word_at table (6 * n + 1) all) (word_at table (6 * n + 2) all)

-- what a machine holds
pub record Held (m : Machine) : Type 0 where
  pub registers : AllWords m.registers
  pub many : length m.registers ≡ 64
  pub events : AllWords m.events

-- one register set
held_set : (m : Machine) (d v next steps branches reads : ℕ) → Held m → v < 2 ^ 32
    → Held (record { registers = set m.registers d v; node = next; steps = steps; branches = branches; reads = reads; events = m.events })
held_set m d v next steps branches reads held h =
    record { registers = words_set m.registers d v held.registers h; many = length-set m.registers d v ∙ held.many; events = held.events }

module _ (s : Setting) (inputs : AllWords s.inputs) (graph : (n : ℕ) → NodeWords (s.graph n)) (fault : Fault) where
  execute_held : (node : Node) (m : Machine) → NodeWords node → Held m → Held (execute s.inputs fault node m).machine
  execute_held (go (const d k) next) m words held = held_set m d k next (m.steps + 1) m.branches m.reads held words
  execute_held (go (op o d a b) next) m words held =
      held_set m d (operate o (get m a) (get m b)) next (m.steps + 1) m.branches m.reads held
      (operate_word o (get m a) (get m b) (word_at m.registers a held.registers) (word_at m.registers b held.registers))
  execute_held (go (input d) next) m words held =
      held_set m d (get_or s.inputs m.reads 0) next (m.steps + 1) m.branches (m.reads + 1) held (word_at s.inputs m.reads inputs)
  execute_held (go (output port a) next) m words held =
      record {
        registers = held.registers;
        many = held.many;
        events = words_append m.events (port ∷ get m a ∷ []) held.events (words, (word_at m.registers a held.registers, tt));
      }
  execute_held (branch c a b then else) m words held = record { registers = held.registers; many = held.many; events = held.events }
  execute_held (ret a) m words held = record { registers = held.registers; many = held.many; events = held.events }
  execute_held stop m words held = record { registers = held.registers; many = held.many; events = held.events }

  unless_held : (node : Node) (m : Machine) → Held m → Held (execute s.inputs fault node m).machine
      → Held (unless (stopped s.room node m) m (execute s.inputs fault node m)).machine
  unless_held (go (const d k) next) m held then = then
  unless_held (go (op o d a b) next) m held then = then
  unless_held (go (input d) next) m held then = then
  unless_held (go (output port a) next) m held then = by (leb (length m.events + 2) s.room)
    where
      by : (fits : Bool) → Held (unless (cond fits none (some Full)) m (execute s.inputs fault (go (output port a) next) m)).machine
      by true = then
      by false = held
  unless_held (branch c a b t f) m held then = then
  unless_held (ret a) m held then = then
  unless_held stop m held then = then

  next_held : (m : Machine) (status : Status) → Held m → Held (next_of s fault m status).machine
  unfolding step
  next_held m going held =
      let node = s.graph m.node in
      unless_held node m held (execute_held node m (graph m.node) held)
  next_held m (ended outcome) held = held

  after_held : (p : Progress) → Held p.machine → (rounds : ℕ) → Held (after s fault p rounds).machine
  unfolding after next
  after_held p held zero = held
  after_held p held (suc rounds) = let q = after s fault p rounds in next_held q.machine q.status (after_held p held rounds)

  run_held : (entry budget : ℕ) → Held (run_of s fault entry budget).machine
  unfolding run_of start
  run_held entry budget =
      after_held (at (start entry) going)
      (record { registers = words_zeros 64; many = length-replicate {A = ℕ} 64 0; events = tt })
      budget

-- a run of the graph in a table
pub held_run : (table inputs : List ℕ) (room : ℕ) (fault : Fault) (entry budget : ℕ) → AllWords table → AllWords inputs
    → Held (run_of (record { graph = node_at table; inputs = inputs; room = room }) fault entry budget).machine
held_run table inputs room fault entry budget words given =
    run_held (record { graph = node_at table; inputs = inputs; room = room }) given (table_words_lem table words) fault entry budget
