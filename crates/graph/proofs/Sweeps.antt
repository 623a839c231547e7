-- Sweeps in place: they mark nothing that is not reached, and one that finds nothing new has marked all that is.
-- Assumes nothing.
use mathlib.Core.Path.{◌≡◌, refl, ap, ◌∙◌}
use mathlib.Core.Bool.{true, false, cond}
use mathlib.Core.Logic.{⊎_elim}
use Prim.Native.Nat.{ℕ, suc, ◌+◌, ◌≤◌, ◌<◌}
use native.Mathlib.Numerals.{add-one}
use native.Mathlib.Omega.{arith}
use lib.ListN.{length, set, replicate, length-set, length-replicate}
use Rattle.graph.specs.Nodes.{Node, targets}
use Rattle.graph.specs.Paths.{Marks, marked, mark_all, reached}
use Rattle.graph.specs.Marks.{count, Grown, looked_at, swept}
use Rattle.graph.proofs.Marking.{same_mark, set_only, set_there, none_marked, count_more}
use Rattle.graph.proofs.Growing.{grown_then}
use Rattle.graph.proofs.Rounds.{Closed, round_length, round_more, round_only, round_closed, reached_closed, reached_entry, reached_least}

module _ (graph : ℕ → Node) where
  swept_step : (marks : Marks) (n : ℕ)
      → swept graph marks (suc n) ≡ cond (marked (swept graph marks n) n) (mark_all (targets (graph n)) (swept graph marks n)) (swept graph marks n)
  unfolding looked_at swept
  swept_step marks n = refl

  -- a sweep goes on by one node
  pub swept_more : (marks : Marks) (n : ℕ) {middle after : Marks} {first second : ℕ}
      → Grown marks (swept graph marks n) middle first → Grown middle (looked_at graph n middle) after second
      → Grown marks (swept graph marks (n + 1)) after (first + second)
  unfolding swept
  swept_more marks n g h = rw add-one (grown_then (looked_at graph n) g h)

-- there are as many marks as before
pub swept_length : (graph : ℕ → Node) (marks : Marks) (nodes : ℕ) {after : Marks} {fresh : ℕ} → Grown marks (swept graph marks nodes) after fresh
    → length after ≡ length marks
unfolding swept
swept_length graph marks nodes g =
    ap length g.there ∙ round_length graph (swept graph marks) (λ (n : ℕ). marked (swept graph marks n) n) (swept_step graph marks) nodes

pub first_length : (n room : ℕ) {before after : Marks} {fresh : ℕ} → before ≡ replicate room false → Grown before (set before n true) after fresh
    → length after ≡ room
first_length n room {before} none g = ap length g.there ∙ length-set before n true ∙ ap length none ∙ length-replicate room false

module _ (graph : ℕ → Node) (nodes entry : ℕ) where
  -- marks of reached nodes, the entry among them
  pub record Sound (marks : Marks) : Type 0 where
    pub only : (t : ℕ) → marked marks t ≡ true → t < nodes → marked (reached graph nodes entry) t ≡ true
    pub entered : entry < nodes → marked marks entry ≡ true

  sound_entry : (room : ℕ) → nodes ≤ room → Sound (set (replicate room false) entry true)
  sound_entry room h =
      record {
        only = λ t e inside.
            ⊎_elim
            (λ (same : t ≡ entry). rw same (reached_entry graph nodes entry (rw same at inside)))
            (λ (old : marked (replicate room false) t ≡ true). cc (none_marked room t))
            (set_only (replicate room false) entry t e);
        entered = λ inside. set_there (replicate room false) entry (omega (arith, length-replicate room false));
      }

  -- the first mark
  pub first_sound : (room : ℕ) {before after : Marks} {fresh : ℕ} → nodes ≤ room → before ≡ replicate room false
      → Grown before (set before entry true) after fresh → Sound after
  first_sound room h none g = rw (g.there, none) (sound_entry room h)

  sound_sweep : (marks : Marks) → Sound marks → Sound (swept graph marks nodes)
  unfolding swept
  sound_sweep marks sound =
      record {
        only = round_only graph (swept graph marks) (λ (n : ℕ). marked (swept graph marks n) n) (swept_step graph marks) nodes
            (λ (t : ℕ). t < nodes → marked (reached graph nodes entry) t ≡ true) sound.only
            (λ n t h picked before among inside. reached_closed graph nodes entry n t h (before n picked h) among inside) nodes (omega arith);
        entered = λ inside.
            round_more graph (swept graph marks) (λ (n : ℕ). marked (swept graph marks n) n) (swept_step graph marks) 0 nodes entry (omega arith) (sound.entered inside);
      }

  -- a sweep that finds nothing new has found the marks closed
  sweep_closed : (marks : Marks) → nodes ≤ length marks → count (swept graph marks nodes) ≤ count marks → Closed graph nodes marks
  unfolding swept
  sweep_closed marks room few =
      round_closed graph (swept graph marks) (λ (n : ℕ). marked (swept graph marks n) n) (swept_step graph marks) nodes room
      (λ n e. round_more graph (swept graph marks) (λ (m : ℕ). marked (swept graph marks m) m) (swept_step graph marks) 0 n n (omega arith) e) few

  sweep_same : (marks : Marks) → count (swept graph marks nodes) ≤ count marks → swept graph marks nodes ≡ marks
  unfolding swept
  sweep_same marks few =
      (count_more marks (swept graph marks nodes)
      (round_length graph (swept graph marks) (λ (n : ℕ). marked (swept graph marks n) n) (swept_step graph marks) nodes)
      (λ k. round_more graph (swept graph marks) (λ (n : ℕ). marked (swept graph marks n) n) (swept_step graph marks) 0 nodes k (omega arith))).1 few

  -- the marks after a sweep are sound
  pub swept_sound : {marks after : Marks} {fresh : ℕ} → Sound marks → Grown marks (swept graph marks nodes) after fresh → Sound after
  swept_sound {marks} sound g = rw g.there (sound_sweep marks sound)

  -- and where none is new they are those of the reached nodes
  pub swept-reached : {marks after : Marks} {fresh : ℕ} → nodes ≤ length marks → fresh ≤ 0 → Sound marks → Grown marks (swept graph marks nodes) after fresh
      → (n : ℕ) → n < nodes → marked after n ≡ marked (reached graph nodes entry) n
  swept-reached {marks} {after} room none sound g n inside =
      let few : count (swept graph marks nodes) ≤ count marks = omega (arith, ap count g.there) in
      rw (g.there ∙ sweep_same marks few)
      (same_mark (marked marks n) (marked (reached graph nodes entry) n)
      (λ e. sound.only n e inside)
      (λ e. reached_least graph nodes entry marks (sweep_closed marks room few) sound.entered n e inside))
