-- Rounds over marks: a round looks at the nodes upward and marks the targets of some. Enough rounds close the marks under
-- edges, and closed marks hold all that is reached. Assumes nothing.
use mathlib.Core.Path.{◌≡◌, refl, ◌∙◌}
use mathlib.Core.Bool.{Bool, true, false, cond}
use mathlib.Core.Logic.{◌⊎◌, inl, inr, ⊎_elim}
use mathlib.Core.List.{Memᴰ}
use Prim.Native.Nat.{ℕ, zero, suc, ◌≤◌, ◌<◌}
use native.Mathlib.Omega.{arith}
use native.Mathlib.Nat.{eq-or-lt_of_le}
use native.Mathlib.Decide.{dec_le}
use lib.ListN.{length, replicate, length-set, length-replicate}
use Rattle.graph.specs.Nodes.{Node, targets}
use Rattle.graph.specs.Paths.{Marks, marked, mark_all, followed, reached_in, reached}
use Rattle.graph.specs.Marks.{count}
use Rattle.graph.proofs.Marking.{set_only, set_there, none_marked, all_length, all_more, all_there, all_only, count_full, count_more}

-- marks of the nodes below a bound that hold the targets of what is marked
abbrev pub Closed : (ℕ → Node) → ℕ → Marks → Type 0
Closed graph nodes marks = (n t : ℕ) → n < nodes → marked marks n ≡ true → Memᴰ t (targets (graph n)) → t < nodes → marked marks t ≡ true

-- a round: node n is looked at, and where it is picked its targets are marked
module _ (graph : ℕ → Node) (X : ℕ → Marks) (picked : ℕ → Bool)
    (step : (n : ℕ) → X (suc n) ≡ cond (picked n) (mark_all (targets (graph n)) (X n)) (X n)) where
  one_length : (n : ℕ) → length (X (suc n)) ≡ length (X n)
  one_length n = rw (step n) (by (picked n))
    where
      by : (b : Bool) → length (cond b (mark_all (targets (graph n)) (X n)) (X n)) ≡ length (X n)
      by true = all_length (targets (graph n)) (X n)
      by false = refl

  pub round_length : (n : ℕ) → length (X n) ≡ length (X 0)
  round_length zero = refl
  round_length (suc n) = one_length n ∙ round_length n

  one_more : (n k : ℕ) → marked (X n) k ≡ true → marked (X (suc n)) k ≡ true
  one_more n k e = rw (step n) (by (picked n))
    where
      by : (b : Bool) → marked (cond b (mark_all (targets (graph n)) (X n)) (X n)) k ≡ true
      by true = all_more (targets (graph n)) (X n) k e
      by false = e

  -- marks stay
  pub round_more : (n later k : ℕ) → n ≤ later → marked (X n) k ≡ true → marked (X later) k ≡ true
  round_more n zero k h e = let same : n ≡ 0 = omega arith in rw same at e
  round_more n (suc later) k h e =
      ⊎_elim
      (λ (same : n ≡ suc later). rw same at e)
      (λ (before : n < suc later). one_more later k (round_more n later k (omega arith) e))
      (eq-or-lt_of_le h)

  -- the targets of what is picked are marked
  pub round_there : (n nodes t : ℕ) → n < nodes → picked n ≡ true → Memᴰ t (targets (graph n)) → t < length (X 0) → marked (X nodes) t ≡ true
  round_there n nodes t h e among inside =
      round_more (suc n) nodes t h
      (rw (step n, e) (all_there (targets (graph n)) (X n) t among (rw (round_length n) inside)))

  -- nothing else is marked
  pub round_only : (nodes : ℕ) (P : ℕ → Type 0)
      → ((k : ℕ) → marked (X 0) k ≡ true → P k)
      → ((n t : ℕ) → n < nodes → picked n ≡ true → ((k : ℕ) → marked (X n) k ≡ true → P k) → Memᴰ t (targets (graph n)) → P t)
      → (n : ℕ) → n ≤ nodes → (k : ℕ) → marked (X n) k ≡ true → P k
  round_only nodes P base more zero h k e = base k e
  round_only nodes P base more (suc n) h k e = by (round_only nodes P base more n (omega arith)) (picked n) refl (rw (step n) at e)
    where
      by : ((j : ℕ) → marked (X n) j ≡ true → P j) → (b : Bool) → picked n ≡ b
          → marked (cond b (mark_all (targets (graph n)) (X n)) (X n)) k ≡ true → P k
      by before true is m =
          ⊎_elim (λ (among : Memᴰ k (targets (graph n))). more n k h is before among) (λ (old : marked (X n) k ≡ true). before k old)
          (all_only (targets (graph n)) (X n) k m)
      by before false is m = before k m

  -- a round that picks what is marked and changes nothing has found the marks closed
  pub round_closed : (nodes : ℕ) → nodes ≤ length (X 0) → ((n : ℕ) → marked (X 0) n ≡ true → picked n ≡ true)
      → count (X nodes) ≤ count (X 0) → Closed graph nodes (X 0)
  round_closed nodes room all few n t h e among inside =
      rw ((count_more (X 0) (X nodes) (round_length nodes) (λ k. round_more 0 nodes k (omega arith))).1 few)
      at (round_there n nodes t h (all n e) among (omega arith))

followed-step : (graph : ℕ → Node) (marks : Marks) (n : ℕ)
    → followed graph marks (suc n) ≡ cond (marked marks n) (mark_all (targets (graph n)) (followed graph marks n)) (followed graph marks n)
unfolding followed
followed-step graph marks n = refl

-- what is reached within so many edges
module _ (graph : ℕ → Node) (nodes entry : ℕ) where
  pub in_length : (edges : ℕ) → length (reached_in graph nodes entry edges) ≡ nodes
  unfolding followed reached_in
  in_length zero = length-set (replicate nodes false) entry true ∙ length-replicate nodes false
  in_length (suc edges) =
      let marks = reached_in graph nodes entry edges in
      round_length graph (followed graph marks) (marked marks) (followed-step graph marks) nodes ∙ in_length edges

  pub in_more : (edges t : ℕ) → marked (reached_in graph nodes entry edges) t ≡ true → marked (reached_in graph nodes entry (suc edges)) t ≡ true
  unfolding followed reached_in
  in_more edges t e =
      let marks = reached_in graph nodes entry edges in
      round_more graph (followed graph marks) (marked marks) (followed-step graph marks) 0 nodes t (omega arith) e

  -- what a round adds is a target of what was marked before
  pub in_only : (edges : ℕ) (P : ℕ → Type 0)
      → ((k : ℕ) → marked (reached_in graph nodes entry edges) k ≡ true → P k)
      → ((n t : ℕ) → n < nodes → marked (reached_in graph nodes entry edges) n ≡ true → Memᴰ t (targets (graph n)) → P t)
      → (k : ℕ) → marked (reached_in graph nodes entry (suc edges)) k ≡ true → P k
  unfolding followed reached_in
  in_only edges P base more =
      let marks = reached_in graph nodes entry edges in
      round_only graph (followed graph marks) (marked marks) (followed-step graph marks) nodes P base (λ n t h e before among. more n t h e among) nodes (omega arith)

  -- with no edge only the entry
  pub in_none : (t : ℕ) → marked (reached_in graph nodes entry 0) t ≡ true → t ≡ entry
  unfolding reached_in
  in_none t e =
      ⊎_elim (λ (same : t ≡ entry). same) (λ (old : marked (replicate nodes false) t ≡ true). absurd (never old))
      (set_only (replicate nodes false) entry t e)
    where
      never : marked (replicate nodes false) t ≡ true → ⊥
      never old = let z : ◌≡◌ {A = ℕ} 0 1 = cc (none_marked nodes t) in omega arith

  pub in_entry : (edges : ℕ) → entry < nodes → marked (reached_in graph nodes entry edges) entry ≡ true
  unfolding reached_in
  in_entry zero inside = set_there (replicate nodes false) entry (rw (length-replicate nodes false) inside)
  in_entry (suc edges) inside = in_more edges entry (in_entry edges inside)

  -- a round leaves closed marks closed
  closed_next : (edges : ℕ) → Closed graph nodes (reached_in graph nodes entry edges) → Closed graph nodes (reached_in graph nodes entry (suc edges))
  closed_next edges closed n t h e among inside =
      in_more edges t (closed n t h (back n e h) among inside)
    where
      back : (k : ℕ) → marked (reached_in graph nodes entry (suc edges)) k ≡ true → k < nodes → marked (reached_in graph nodes entry edges) k ≡ true
      back =
          in_only edges (λ (k : ℕ). k < nodes → marked (reached_in graph nodes entry edges) k ≡ true)
          (λ k old low. old) (λ m k low old among' below. closed m k low old among' below)

  -- a round either finds the marks closed or adds one
  closed_or_more : (edges : ℕ) → Closed graph nodes (reached_in graph nodes entry edges) ⊎ (edges ≤ count (reached_in graph nodes entry edges))
  unfolding followed reached_in
  closed_or_more zero = inr (omega arith)
  closed_or_more (suc edges) = by (closed_or_more edges) (dec_le (count (reached_in graph nodes entry (suc edges))) (count (reached_in graph nodes entry edges)))
    where
      by : Closed graph nodes (reached_in graph nodes entry edges) ⊎ (edges ≤ count (reached_in graph nodes entry edges))
          → Dec (count (reached_in graph nodes entry (suc edges)) ≤ count (reached_in graph nodes entry edges))
          → Closed graph nodes (reached_in graph nodes entry (suc edges)) ⊎ (suc edges ≤ count (reached_in graph nodes entry (suc edges)))
      by (inl closed) dec = inl (closed_next edges closed)
      by (inr many) (yes few) =
          let marks = reached_in graph nodes entry edges in
          inl (closed_next edges
          (round_closed graph (followed graph marks) (marked marks) (followed-step graph marks) nodes (omega (arith, in_length edges)) (λ n e. e) few))
      by (inr many) (no more) = inr (omega arith)

  -- as many rounds as there are nodes close the marks
  pub reached_closed : Closed graph nodes (reached graph nodes entry)
  unfolding reached
  reached_closed =
      ⊎_elim
      (λ (closed : Closed graph nodes (reached_in graph nodes entry nodes)). closed)
      (λ (many : nodes ≤ count (reached_in graph nodes entry nodes)) n t h e among inside.
      count_full (reached_in graph nodes entry nodes) (omega (arith, in_length nodes)) t (omega (arith, in_length nodes)))
      (closed_or_more nodes)

  pub reached_entry : entry < nodes → marked (reached graph nodes entry) entry ≡ true
  unfolding reached
  reached_entry inside = in_entry nodes inside

  -- closed marks that hold the entry hold all that is reached
  in_least : (marks : Marks) → Closed graph nodes marks → (entry < nodes → marked marks entry ≡ true)
      → (edges t : ℕ) → marked (reached_in graph nodes entry edges) t ≡ true → t < nodes → marked marks t ≡ true
  in_least marks closed start zero t e = λ inside. let same : t ≡ entry = in_none t e in rw same (start (rw same at inside))
  in_least marks closed start (suc edges) t e =
      in_only edges (λ (k : ℕ). k < nodes → marked marks k ≡ true) (in_least marks closed start edges)
      (λ n k h old among low. closed n k h (in_least marks closed start edges n old h) among low) t e

  pub reached_least : (marks : Marks) → Closed graph nodes marks → (entry < nodes → marked marks entry ≡ true)
      → (t : ℕ) → marked (reached graph nodes entry) t ≡ true → t < nodes → marked marks t ≡ true
  unfolding reached
  reached_least marks closed start t e inside = in_least marks closed start nodes t e inside
