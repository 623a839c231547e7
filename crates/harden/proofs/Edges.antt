-- The counts of specs/Blocks.antt count edges: one or two edges into a node are there where the count says so, and back.
-- Assumes nothing.
use Prim.Native.Nat.{ℕ, zero, suc, ◌+◌, ◌≤◌, ◌<◌}
use native.Mathlib.Nat.{eq-or-lt_of_le, le_of_suc-le-suc, not-suc-le-zero}
use native.Mathlib.Decide.{dec_lt}
use native.Mathlib.Omega.{arith}
use mathlib.Core.Path.{◌≡◌, refl}
use mathlib.Core.Logic.{◌⊎◌, inl, inr}
use mathlib.Core.Bool.{Bool, true, false, ◌||◌, or-true}
use mathlib.Core.List.{List, [], ◌∷◌}
use lib.ListN.{length, get_or}
use lib.Dec.{eqb}
use borrow.Author.Tests.{eqb-true, eq-eqb}
use Rattle.graph.specs.Nodes.{Node, go, branch, ret, stop, targets}
use Rattle.harden.specs.Blocks.{among, edges_into, aims_at, branch_to}
use Rattle.harden.specs.Hardened.{is_branch}
use Rattle.harden.specs.Edges.{Edge, TwoEdges}

-- ---- a list of targets

-- a slot that holds n, and two slots that do
pub record Slot (ts : List ℕ) (n : ℕ) : Type 0 where
  pub slot : ℕ
  pub below : slot < length ts
  pub holds : get_or ts slot 0 ≡ n

pub record Slots (ts : List ℕ) (n : ℕ) : Type 0 where
  pub slot₁ : ℕ
  pub slot₂ : ℕ
  pub order : slot₁ < slot₂
  pub below : slot₂ < length ts
  pub holds₁ : get_or ts slot₁ 0 ≡ n
  pub holds₂ : get_or ts slot₂ 0 ≡ n

later : {t n : ℕ} {ts : List ℕ} → Slot ts n → Slot (t ∷ ts) n
later s = record { slot = suc s.slot; below = omega arith; holds = s.holds }

pub among_slot : (ts : List ℕ) (n : ℕ) → 0 < among ts n → Slot ts n
among_slot [] n h = absurd (not-suc-le-zero h)
among_slot (t ∷ ts) n h = by (eqb t n) refl (among_slot ts n)
  where
    by : (test : Bool) → eqb t n ≡ test → (0 < among ts n → Slot ts n) → Slot (t ∷ ts) n
    by true e rest = record { slot = 0; below = omega arith; holds = eqb-true t n e }
    by false e rest =
        let some : 0 < 0 + among ts n = rw e at h in
        later (rest (omega arith))

pub among_slots : (ts : List ℕ) (n : ℕ) → 2 ≤ among ts n → Slots ts n
among_slots [] n h = absurd (not-suc-le-zero h)
among_slots (t ∷ ts) n h = by (eqb t n) refl (among_slots ts n)
  where
    by : (test : Bool) → eqb t n ≡ test → (2 ≤ among ts n → Slots ts n) → Slots (t ∷ ts) n
    by true e rest =
        let one : 2 ≤ 1 + among ts n = rw e at h in
        let s = among_slot ts n (omega arith) in
        record { slot₁ = 0; slot₂ = suc s.slot; order = omega arith; below = omega (arith, s.below); holds₁ = eqb-true t n e; holds₂ = s.holds }
    by false e rest =
        let two : 2 ≤ 0 + among ts n = rw e at h in
        let s = rest (omega arith) in
        record {
          slot₁ = suc s.slot₁;
          slot₂ = suc s.slot₂;
          order = omega (arith, s.order);
          below = omega (arith, s.below);
          holds₁ = s.holds₁;
          holds₂ = s.holds₂;
        }

pub slot_among : (ts : List ℕ) (n j : ℕ) → j < length ts → get_or ts j 0 ≡ n → 0 < among ts n
slot_among [] n j h e = absurd (not-suc-le-zero h)
slot_among (t ∷ ts) n zero h e = rw (eq-eqb t n e) (omega arith)
slot_among (t ∷ ts) n (suc j) h e = omega (arith, slot_among ts n j (le_of_suc-le-suc h) e)

pub slots_among : (ts : List ℕ) (n i j : ℕ) → i < j → j < length ts → get_or ts i 0 ≡ n → get_or ts j 0 ≡ n → 2 ≤ among ts n
slots_among [] n i j o h p q = absurd (not-suc-le-zero h)
slots_among (t ∷ ts) n i zero o h p q = absurd (not-suc-le-zero o)
slots_among (t ∷ ts) n zero (suc j) o h p q = rw (eq-eqb t n p) (omega (arith, slot_among ts n j (le_of_suc-le-suc h) q))
slots_among (t ∷ ts) n (suc i) (suc j) o h p q = omega (arith, slots_among ts n i j (le_of_suc-le-suc o) (le_of_suc-le-suc h) p q)

pub absurd_bool : {A : Type 0} → ◌≡◌ {A = Bool} false true → A
absurd_bool e = absurd (cc)

-- ---- a graph

module _ (graph : ℕ → Node) (n : ℕ) where
  abbrev edges : ℕ → ℕ
  edges m = among (targets (graph m)) n

  -- the edges of m come on top of those of the nodes below it
  pub counted : (m k : ℕ) → m < k → edges_into graph m n + edges m ≤ edges_into graph k n
  unfolding edges_into
  counted m zero h = absurd (not-suc-le-zero h)
  counted m (suc k) h = by (eq-or-lt_of_le (le_of_suc-le-suc h)) (counted m k)
    where
      by : (m ≡ k) ⊎ (m < k) → (m < k → edges_into graph m n + edges m ≤ edges_into graph k n) → edges_into graph m n + edges m ≤ edges_into graph k n + edges k
      by (inl e) rest = rw e (omega arith)
      by (inr l) rest = omega (arith, rest l)

  pub edge_here : (m k : ℕ) → m < k → 0 < edges m → (j : ℕ) × Edge graph k m j n
  edge_here m k h some =
      let s = among_slot (targets (graph m)) n some in
      (s.slot, record { inside = h; slot = s.below; leads = s.holds })

  pub some_edge : (k : ℕ) → 0 < edges_into graph k n → (m j : ℕ) × Edge graph k m j n
  unfolding edges_into
  some_edge zero h = absurd (not-suc-le-zero h)
  some_edge (suc k) h = by (dec_lt 0 (edges k)) (some_edge k)
    where
      by : Dec (0 < edges k) → (0 < edges_into graph k n → (m j : ℕ) × Edge graph k m j n) → (m j : ℕ) × Edge graph (suc k) m j n
      by (yes some) rest = let (j, e) = edge_here k (suc k) (omega arith) some in (k, j, e)
      by (no none) rest =
          let (m, j, e) = rest (omega arith) in
          (m, j, record { inside = omega (arith, e.inside); slot = e.slot; leads = e.leads })

  pub edge_counts : {k m j : ℕ} → Edge graph k m j n → 0 < edges m
  edge_counts {m = m} {j} e = slot_among (targets (graph m)) n j e.slot e.leads

  -- two or more edges into n
  pub two_edges : (k : ℕ) → 2 ≤ edges_into graph k n → TwoEdges graph k n
  unfolding edges_into
  two_edges zero h = absurd (not-suc-le-zero h)
  two_edges (suc k) h = by (dec_lt 1 (edges k)) (dec_lt 0 (edges k)) (two_edges k)
    where
      by : Dec (1 < edges k) → Dec (0 < edges k) → (2 ≤ edges_into graph k n → TwoEdges graph k n) → TwoEdges graph (suc k) n
      by (yes both) one rest =
          let s = among_slots (targets (graph k)) n both in
          record {
            from₁ = k;
            slot₁ = s.slot₁;
            from₂ = k;
            slot₂ = s.slot₂;
            first = record { inside = omega arith; slot = omega (arith, s.order, s.below); leads = s.holds₁ };
            second = record { inside = omega arith; slot = s.below; leads = s.holds₂ };
            apart = λ same e. omega (arith, s.order);
          }
      by (no few) (yes one) rest =
          let (j, here) = edge_here k (suc k) (omega arith) one in
          let (m, i, there) = some_edge k (omega arith) in
          record {
            from₁ = m;
            slot₁ = i;
            from₂ = k;
            slot₂ = j;
            first = record { inside = omega (arith, there.inside); slot = there.slot; leads = there.leads };
            second = here;
            apart = λ same e. omega (arith, there.inside);
          }
      by (no few) (no none) rest =
          let t = rest (omega arith) in
          record {
            from₁ = t.from₁;
            slot₁ = t.slot₁;
            from₂ = t.from₂;
            slot₂ = t.slot₂;
            first = record { inside = omega (arith, t.first.inside); slot = t.first.slot; leads = t.first.leads };
            second = record { inside = omega (arith, t.second.inside); slot = t.second.slot; leads = t.second.leads };
            apart = t.apart;
          }

  -- from two different nodes
  pub two_nodes : {k a i b j : ℕ} → a < b → Edge graph k a i n → Edge graph k b j n → 2 ≤ edges_into graph k n
  two_nodes {k} {a} {i} {b} {j} l p q = omega (arith, counted a b l, counted b k q.inside, edge_counts p, edge_counts q)

  -- in two slots of one node
  two_slots : {k a i j : ℕ} → (i ≡ j → ⊥) → Edge graph k a i n → Edge graph k a j n → 2 ≤ edges_into graph k n
  two_slots {k} {a} {i} {j} d p q = by (dec_lt i j)
    where
      by : Dec (i < j) → 2 ≤ edges_into graph k n
      by (yes l) = omega (arith, counted a k p.inside, slots_among (targets (graph a)) n i j l q.slot p.leads q.leads)
      by (no o) = omega (arith, counted a k p.inside, slots_among (targets (graph a)) n j i (omega arith) p.slot q.leads p.leads)

  pub two_counted : (k : ℕ) → TwoEdges graph k n → 2 ≤ edges_into graph k n
  two_counted k t = by (dec_lt t.from₁ t.from₂) (dec_lt t.from₂ t.from₁)
    where
      by : Dec (t.from₁ < t.from₂) → Dec (t.from₂ < t.from₁) → 2 ≤ edges_into graph k n
      by (yes l) o = two_nodes l t.first t.second
      by (no d) (yes l) = two_nodes l t.second t.first
      by (no d) (no d') =
          let same : t.from₁ ≡ t.from₂ = omega arith in
          two_slots (t.apart same) (rw same at t.first) t.second

  -- ---- branches

  pub aimed_slot : (node : Node) → aims_at node n ≡ true → (is_branch node ≡ true) × Slot (targets node) n
  aimed_slot (branch c a b t f) h = (refl, by (eqb t n) refl h)
    where
      by : (test : Bool) → eqb t n ≡ test → (test || eqb f n) ≡ true → Slot (t ∷ f ∷ []) n
      by true e p = record { slot = 0; below = omega arith; holds = eqb-true t n e }
      by false e p = record { slot = 1; below = omega arith; holds = eqb-true f n p }
  aimed_slot (go action next) h = absurd_bool h
  aimed_slot (ret a) h = absurd_bool h
  aimed_slot stop h = absurd_bool h

  pub slot_aimed : (node : Node) → is_branch node ≡ true → (j : ℕ) → j < length (targets node) → get_or (targets node) j 0 ≡ n → aims_at node n ≡ true
  slot_aimed (branch c a b t f) h zero l e = rw (eq-eqb t n e)
  slot_aimed (branch c a b t f) h (suc zero) l e = rw (eq-eqb f n e) (or-true (eqb t n))
  slot_aimed (branch c a b t f) h (suc (suc j)) l e = absurd (omega arith)
  slot_aimed (go action next) h j l e = absurd_bool h
  slot_aimed (ret a) h j l e = absurd_bool h
  slot_aimed stop h j l e = absurd_bool h

  pub branch_edge : (k : ℕ) → branch_to graph k n ≡ true → (m j : ℕ) × (is_branch (graph m) ≡ true) × Edge graph k m j n
  unfolding branch_to
  branch_edge zero h = absurd_bool h
  branch_edge (suc k) h = by (branch_to graph k n) refl (branch_edge k)
    where
      by : (earlier : Bool) → branch_to graph k n ≡ earlier → (branch_to graph k n ≡ true → (m j : ℕ) × (is_branch (graph m) ≡ true) × Edge graph k m j n)
          → (m j : ℕ) × (is_branch (graph m) ≡ true) × Edge graph (suc k) m j n
      by true e rest =
          let (m, j, b, edge) = rest e in
          (m, j, b, record { inside = omega (arith, edge.inside); slot = edge.slot; leads = edge.leads })
      by false e rest =
          let (b, s) = aimed_slot (graph k) (rw e at h) in
          (k, s.slot, b, record { inside = omega arith; slot = s.below; leads = s.holds })

  pub edge_branch : (k m : ℕ) → m < k → aims_at (graph m) n ≡ true → branch_to graph k n ≡ true
  unfolding branch_to
  edge_branch zero m h a = absurd (not-suc-le-zero h)
  edge_branch (suc k) m h a = by (eq-or-lt_of_le (le_of_suc-le-suc h)) (edge_branch k m)
    where
      by : (m ≡ k) ⊎ (m < k) → (m < k → aims_at (graph m) n ≡ true → branch_to graph k n ≡ true) → (branch_to graph k n || aims_at (graph k) n) ≡ true
      by (inl e) rest = rw (rw e at a) (or-true (branch_to graph k n))
      by (inr l) rest = rw (rest l a)
