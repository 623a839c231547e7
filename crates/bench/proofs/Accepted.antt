-- What an accepted campaign answers: as many positions as the undisturbed run executed branches, each in one of the five counts.
-- Assumes nothing.
use Rattle.std.proofs.Common.{◌≡◌, ℕ, eqb, leb, List, subst}
use Rattle.words.specs.Answer.{given}
use Rattle.graph.specs.Checks.{runnable_check}
use Rattle.graph.proofs.Passed.{demand_given}
use Rattle.graph.proofs.Facts.{and_given}
use Rattle.bench.specs.Steps.{Machine, Setting}
use Rattle.bench.specs.Runs.{run_of, settled, most_steps}
use Rattle.graph.specs.Nodes.{node_at}
use Rattle.bench.specs.Campaigns.{score_of, score_below, campaign_answer}
use Rattle.bench.proofs.Tallies.{Whole, score_whole}
use Rattle.bench.specs.declared.Fault.TheVariants.{Undisturbed}
use Rattle.bench.specs.declared.Outcome.{Outcome}
use Rattle.bench.specs.declared.Outcome.TheVariants.{Returned, Caught, Spent, Full}
use Rattle.bench.specs.declared.Score.{Score}

by_outcome : (s : Setting) (entry budget : ℕ) (m : Machine) (outcome : Outcome) (score : Score) → score_of s entry budget m outcome ≡ given score
    → Whole m.branches score
by_outcome s entry budget m (Returned value) score e =
    let is : score_below s entry budget value m.events m.branches ≡ score = cc in
    subst (Whole m.branches) is (score_whole s entry budget value m.events m.branches)
by_outcome s entry budget m Caught score e = cc
by_outcome s entry budget m Spent score e = cc
by_outcome s entry budget m Full score e = cc

pub campaign_whole : (registers nodes entry : ℕ) (table inputs : List ℕ) (first second budget : ℕ) (score : Score)
    → campaign_answer registers nodes entry table inputs first second budget ≡ given score
    → Whole (run_of (record { graph = node_at table; inputs = inputs; room = first }) Undisturbed entry budget).machine.branches score
unfolding campaign_answer
campaign_whole registers nodes entry table inputs first second budget score e =
    let s : Setting = record { graph = node_at table; inputs = inputs; room = first } in
    let run = run_of s Undisturbed entry budget in
    let accepted = and_given (runnable_check registers nodes entry table) _ e in
    let within = demand_given (leb budget most_steps) 12 0 _ accepted.2 in
    let same = demand_given (eqb first second) 14 0 _ within.1 in
    by_outcome s entry budget run.machine (settled run.status) score same.1
