-- The events of a run come in pairs and fit its room.
-- Assumes nothing.
use Rattle.std.proofs.Common.{◌≡◌, ℕ, ◌≤◌, Bool, true, false, nat_le, List, length}
use Rattle.words.specs.Answer.{Answer, given, refused, demand, and_then}
use Rattle.graph.specs.Checks.{runnable_check}
use Rattle.graph.specs.Nodes.{node_at}
use Rattle.bench.specs.declared.Fault.{Fault}
use Rattle.bench.specs.Steps.{Setting, Progress}
use Rattle.bench.specs.Runs.{run_of, run_answer, most_steps}
use Rattle.bench.proofs.Bounds.{within}
use Rattle.bench.proofs.Pairs.{Paired, pairs}

pub record Sized (room : ℕ) (p : Progress) : Type 0 where
  pub paired : Paired p.machine.events
  pub fits : length p.machine.events ≤ room

module _ (registers nodes entry : ℕ) (table inputs : List ℕ) (room budget : ℕ) (fault : Fault) where
  abbrev setting : Setting
  setting = record { graph = node_at table; inputs = inputs; room = room }

  made : (p : Progress) (checked : Answer Unit) (small : Bool)
      → and_then checked (λ _. demand {A = Progress} small 12 0 (given (run_of setting fault entry budget))) ≡ given p → run_of setting fault entry budget ≡ p
  made p (given tt) true e = cc
  made p (given tt) false e = cc
  made p (refused number place) small e = cc

  -- what a run answers is sized
  pub sized : (p : Progress) → run_answer registers nodes entry table inputs room budget fault ≡ given p → Sized room p
  unfolding run_answer
  sized p e =
      let run = made p (runnable_check registers nodes entry table) (nat_le budget most_steps) e in
      let whole : Sized room (run_of setting fault entry budget) =
      record { paired = pairs setting fault entry budget; fits = (within setting fault entry budget).events } in
      rw run at whole
