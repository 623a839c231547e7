-- One turn of a run: what a loop that applies effects in place knows before and after it, and how the run stands where it ends.
-- Assumes nothing.
use Rattle.std.proofs.Common.{◌≡◌, ℕ, ◌+◌, ◌^◌, ◌<◌, ◌≤◌, Bool, true, false, cond, eqb, Some, None, List, [], ◌++◌, length, get_or, take, drop, sym, refl, ap, ◌∙◌, arith, length-append, take-append-drop, length-take-le}
use Rattle.std.specs.Prelude.{Option}
use Rattle.words.specs.Buffer.{put, over}
use Rattle.words.proofs.Puts.{put_nil, put-at, put-over}
use Rattle.graph.specs.Nodes.{Node, go, branch, ret, stop, const, op, input, output, node_at}
use Rattle.graph.specs.Accepted.{NodeIn}
use Rattle.bench.specs.Words.{compare}
use Rattle.bench.specs.Steps.{Status, going, ended, Progress, at, start, flip}
use Rattle.bench.specs.Effects.{comparand, effect_of, effect_from, event_words, has_room, status_of, status_after, words_after, with_event, outcome_of, applied, machine_of, Takes}
use Rattle.bench.specs.Runs.{next, run_of, settled}
use Rattle.bench.specs.Ready.{effect_in, Ends, Ready, Standing, setting_of, first_point}
use Rattle.bench.proofs.Bounds.{Counts, counts}
use Rattle.bench.proofs.Effects.{followed, step_effect}
use Rattle.bench.proofs.Rounds.{after_none, after_more, next_going, ended_stays}
use Rattle.bench.proofs.Runners.{node_in, ready_start}
use Rattle.bench.specs.declared.Fault.TheVariants.{Inverted}
use Rattle.bench.specs.declared.State.{State}
use Rattle.bench.specs.declared.Outcome.{Outcome}
use Rattle.bench.specs.declared.Outcome.TheVariants.{Spent, Full}
use Rattle.bench.specs.declared.runner.Runner.{Runner}
use Rattle.bench.specs.declared.runs.Point.{Point}
use Rattle.bench.specs.declared.steps.Effect.{Effect}

-- an effect of a node of the graph names a register below 64 and a node of the graph
pub record Small (nodes : ℕ) (e : Effect) : Type 0 where
  pub register : e.register < 64
  pub next : e.next < nodes
  pub counts : Counts e

either_in : (b : Bool) (nodes then else : ℕ) → then < nodes → else < nodes → cond b then else < nodes
either_in true nodes then else h i = h
either_in false nodes then else h i = i

module _ (registers inputs : List ℕ) (reads self : ℕ) (flips : Bool) (nodes : ℕ) (h : self < nodes) where
  abbrev Named : Node → Type 0
  Named node = let e = effect_of registers inputs reads self flips node in (e.register < 64) × (e.next < nodes)

  named : (node : Node) → NodeIn 64 nodes node → Named node
  unfolding effect_of
  named (go (const d k) next) i = i
  named (go (op o d a b) next) i = (i.0.1, i.1)
  named (go (input d) next) i = i
  named (go (output port a) next) i = (i.0.1, i.1)
  named (branch c a b then else) i =
      (i.1, either_in (flip flips (compare c (get_or registers a 0) (comparand registers b))) nodes then else i.3 i.4)
  named (ret a) i = (i, h)
  named stop i = (omega arith, h)

-- a state that a run can be in, under any fault, of which the step knows whether it inverts a branch here
module _ (r : Runner) (state : State) (flips : Bool) (e : Effect) where
  pub small : Ready r state → e ≡ effect_in r state flips → Small r.header.nodes e
  small ready eq =
      let node = node_at r.table.now state.node in
      let i = ready.node in
      let n = named state.registers r.inputs.now state.reads state.node flips r.header.nodes i node (node_in r state.node i) in
      rw eq
      (record { register = n.0; next = n.1; counts = counts state.registers r.inputs.now state.reads state.node flips node })

  -- it is followed by another
  pub ready_applied : Ready r state → state.steps < r.budget → e ≡ effect_in r state flips → Ready r (applied state e)
  ready_applied ready below eq =
      let n = small ready eq in
      record { node = n.next; in_budget = omega arith; branches = omega arith; reads = omega arith }

-- the words at the head of a buffer, put there, change nothing
pub put-take : (l : List ℕ) (n : ℕ) → n ≤ length l → put l 0 (take n l) ≡ l
unfolding over
put-take l n h =
    let e : length (take n l) ≡ n = length-take-le n l h in
    put-over l (take n l) (omega arith) ∙ ap (λ (k : ℕ). take n l ++ drop k l) e ∙ take-append-drop n l

-- what was written of a step's event, and whether it had room
module _ (e : Effect) (words room : ℕ) (held : List ℕ) where
  abbrev After : Bool → Option ℕ
  After b = cond b (Some (words + length (event_words e.sequel e.value))) None

  abbrev With : Bool → List ℕ
  With b = cond b (put held words (event_words e.sequel e.value)) held

  no_room : (b : Bool) → After b ≡ None → (b ≡ false) × (With b ≡ held)
  no_room true is = cc
  no_room false is = (refl, refl)

  some_room : (b : Bool) (n : ℕ) → After b ≡ Some n
      → (b ≡ true) × (n ≡ words + length (event_words e.sequel e.value)) × (With b ≡ put held words (event_words e.sequel e.value))
  some_room true n is = (refl, cc, refl)
  some_room false n is = cc

-- a run starts
pub starts : (r : Runner) (place : ℕ) (buffer : List ℕ) (point : Point) → point ≡ first_point r → Standing r place buffer point buffer
unfolding run_of start
starts r place buffer point is =
    rw is
    (record {
      reached = record { ready = ready_start r; events = []; here = after_none (setting_of r) (Inverted place) _; count = refl };
      holds = sym (put_nil buffer 0);
    })

module _ (r : Runner) (place : ℕ) (buffer : List ℕ) (point : Point) (held : List ℕ) (x : Standing r place buffer point held) where
  abbrev state : State
  state = point.state

  abbrev events : List ℕ
  events = x.reached.events

  abbrev run : ℕ → Progress
  run = run_of (setting_of r) (Inverted place) r.header.entry

  -- a run has ended over a buffer
  abbrev pub Finished : Outcome → Point → List ℕ → Type 0
  Finished outcome last held = Ends r place buffer (record { outcome = outcome; last = last }) held

  ended_so : (status : Status) (state' : State) (events' : List ℕ) (words : ℕ) (held' : List ℕ)
      → run r.budget ≡ at (machine_of state' events') status → length events' ≡ words → held' ≡ put buffer 0 events'
      → Finished (settled status) (record { state = state'; words = words }) held'
  ended_so status state' events' words held' here count holds = record { is = rw (here, ← count); holds = rw here holds }

  -- the budget is used up
  pub spent : r.budget ≤ state.steps → Finished Spent point held
  spent h =
      let all = x.reached.ready.in_budget in
      let steps : r.budget ≡ state.steps = omega arith in
      ended_so going state events point.words held (ap run steps ∙ x.reached.here) x.reached.count x.holds

  module _ (e : Effect) (eq : e ≡ effect_in r state (eqb place state.branches)) where
    effect_is : e ≡ effect_from (setting_of r) (Inverted place) state
    unfolding effect_from
    effect_is = eq

    module _ (below : state.steps < r.budget) where
      pub takes : r.budget < 2 ^ 64 → Takes state e
      takes h =
          let ready = x.reached.ready in
          let n = small r state (eqb place state.branches) e ready eq in
          record { register = n.register; steps = omega arith; branches = omega arith; reads = omega arith }

      round : run (state.steps + 1) ≡ followed r.room state events e
      unfolding run_of
      round =
          after_more (setting_of r) (Inverted place) _ state.steps ∙ ap (next (setting_of r) (Inverted place)) x.reached.here
          ∙ next_going (setting_of r) (Inverted place) _ ∙ step_effect (setting_of r) (Inverted place) state events
          ∙ ap (followed r.room state events) (sym effect_is)

      -- a run that has ended by a step stays so
      stays : (state' : State) (events' : List ℕ) (outcome : Outcome) (words : ℕ) (held' : List ℕ)
          → run (state.steps + 1) ≡ at (machine_of state' events') (ended outcome) → length events' ≡ words → held' ≡ put buffer 0 events'
          → Finished outcome (record { state = state'; words = words }) held'
      unfolding run_of
      stays state' events' outcome words held' stops count holds =
          ended_so (ended outcome) state' events' words held'
          (ended_stays (setting_of r) (Inverted place) _ _ outcome (state.steps + 1) r.budget (omega arith) stops) count holds

      -- an event for which there is no room stops the run
      pub full : (held' : List ℕ) → words_after e point.words r.room ≡ None → held' ≡ with_event e point.words r.room held
          → Finished Full point held'
      full held' none with =
          let (lacks, same) = no_room e point.words r.room held (has_room e.sequel point.words r.room) none in
          stays state events Full point.words held' (round ∙ (rw (x.reached.count, lacks))) x.reached.count (with ∙ same ∙ x.holds)

      module _ (words' : ℕ) (held' : List ℕ) (some : words_after e point.words r.room ≡ Some words')
          (with : held' ≡ with_event e point.words r.room held) where
        wrote : (has_room e.sequel point.words r.room ≡ true) × (words' ≡ point.words + length (event_words e.sequel e.value))
            × (with_event e point.words r.room held ≡ put held point.words (event_words e.sequel e.value))
        wrote = some_room e point.words r.room held (has_room e.sequel point.words r.room) words' some

        events' : List ℕ
        events' = events ++ event_words e.sequel e.value

        made : (status : Status) → status ≡ status_after e.sequel e.value
            → run (state.steps + 1) ≡ at (machine_of (applied state e) events') status
        unfolding events'
        made status st = round ∙ rw (x.reached.count, wrote.0, st)

        count' : length events' ≡ words'
        unfolding events'
        count' = length-append events _ ∙ ap (λ (k : ℕ). k + length (event_words e.sequel e.value)) x.reached.count ∙ sym wrote.1

        holds' : held' ≡ put buffer 0 events'
        unfolding events'
        holds' =
            with ∙ wrote.2 ∙ ap (λ (l : List ℕ). put l point.words (event_words e.sequel e.value)) x.holds
            ∙ put-at buffer 0 point.words events _ (omega (arith, x.reached.count))

        -- the run goes on
        pub on : outcome_of e ≡ None → Standing r place buffer (record { state = applied state e; words = words' }) held'
        on none =
            record {
              reached = record {
                ready = ready_applied r state (eqb place state.branches) e x.reached.ready below eq;
                events = events';
                here = made going (sym (ap status_of none));
                count = count';
              };
              holds = holds';
            }

        -- the run ends with the step
        pub ends : (outcome : Outcome) → outcome_of e ≡ Some outcome
            → Finished outcome (record { state = applied state e; words = words' }) held'
        ends outcome is = stays (applied state e) events' outcome words' held' (made (ended outcome) (sym (ap status_of is))) count' holds'
