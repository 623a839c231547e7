-- A leader is just what its three clauses say; any other node of an accepted source has one predecessor, no branch, and lies in its
-- block; the head of a block is a leader, and a leader heads its own.
-- Assumes nothing.
use Prim.Native.Nat.{ℕ, zero, suc, ◌≤◌, ◌<◌}
use native.Mathlib.Nat.{eq-or-lt_of_le, le_of_suc-le-suc, not-suc-le-zero}
use native.Mathlib.Decide.{dec_lt}
use native.Mathlib.Omega.{arith}
use mathlib.Core.Path.{◌≡◌, refl, sym, ap, ◌∙◌}
use mathlib.Core.Logic.{◌⊎◌, inl, inr, ◌↔◌}
use mathlib.Core.Bool.{Bool, true, false, cond, ◌||◌, or-true}
use mathlib.Core.List.Memᴰ
use mathlib.Core.List.{List, Memᴰ}
use lib.Dec.{eqb, ltb, leb}
use borrow.Author.Tests.{eqb-true, eq-eqb, leb-true, le-leb, lt-ltb, le-ltb}
use Rattle.words.specs.Answer.{given}
use Rattle.graph.specs.Nodes.{Node, go, branch, ret, stop, Action, targets, node_at}
use Rattle.graph.specs.Accepted.{SourceGraph}
use Rattle.graph.specs.Checks.{source_check}
use Rattle.graph.specs.Paths.{PathIn, start, onward}
use Rattle.graph.proofs.Facts.{source_facts, path_short}
use Rattle.graph.proofs.Reached.{targets_inside}
use Rattle.harden.specs.Blocks.{among, edges_into, branch_to, leader, predecessor, head_in, block_head, rank, signature}
use Rattle.harden.specs.Hardened.{is_branch}
use Rattle.harden.specs.Edges.{Edge, Leader, is_entry, branch_target, many_edges, Inside}
use Rattle.harden.proofs.Edges.{absurd_bool, counted, edge_here, edge_counts, two_edges, two_counted, slot_aimed, branch_edge, edge_branch}

-- ---- the three clauses

module _ (graph : ℕ → Node) (nodes entry n : ℕ) where
  clauses : (first aimed : Bool) → eqb n entry ≡ first → branch_to graph nodes n ≡ aimed
      → (first || (aimed || leb 2 (edges_into graph nodes n))) ≡ true → Leader graph nodes entry n
  clauses true aimed p q e = is_entry (eqb-true n entry p)
  clauses false true p q e = let (m, j, b, edge) = branch_edge graph n nodes q in branch_target m j b edge
  clauses false false p q e = many_edges (two_edges graph n nodes (leb-true 2 (edges_into graph nodes n) e))

  leads_by : Leader graph nodes entry n → (eqb n entry || (branch_to graph nodes n || leb 2 (edges_into graph nodes n))) ≡ true
  leads_by (is_entry e) = rw (eq-eqb n entry e)
  leads_by (branch_target m j b e) =
      rw (edge_branch graph n nodes m e.inside (slot_aimed graph n (graph m) b j e.slot e.leads)) (or-true (eqb n entry))
  leads_by (many_edges t) =
      rw (le-leb 2 (edges_into graph nodes n) (two_counted graph n nodes t), or-true (branch_to graph nodes n)) (or-true (eqb n entry))

  -- the entry, any target of a branch, or a node with two or more edges into it
  pub leader_means : (leader graph nodes entry n ≡ true) ↔ Leader graph nodes entry n
  unfolding leader
  leader_means = (clauses (eqb n entry) (branch_to graph nodes n) refl refl, leads_by)

  -- what is no leader is not the entry, no target of a branch, and has one edge into it at most
  pub not_entry : leader graph nodes entry n ≡ false → n ≡ entry → ⊥
  not_entry h e = absurd_bool (sym h ∙ leader_means.1 (is_entry e))

  pub no_target : leader graph nodes entry n ≡ false → (m j : ℕ) → Edge graph nodes m j n → is_branch (graph m) ≡ false
  no_target h m j e = by (is_branch (graph m)) refl
    where
      by : (b : Bool) → is_branch (graph m) ≡ b → is_branch (graph m) ≡ false
      by true b = absurd_bool (sym h ∙ leader_means.1 (branch_target m j b e))
      by false b = b

  pub few_edges : leader graph nodes entry n ≡ false → edges_into graph nodes n < 2
  few_edges h = by (dec_lt (edges_into graph nodes n) 2)
    where
      by : Dec (edges_into graph nodes n < 2) → edges_into graph nodes n < 2
      by (yes l) = l
      by (no d) = absurd_bool (sym h ∙ leader_means.1 (many_edges (two_edges graph n nodes (omega arith))))

-- ---- the one predecessor

module _ (graph : ℕ → Node) (n : ℕ) where
  predecessor_is : (k m : ℕ) → m < k → 0 < among (targets (graph m)) n → edges_into graph k n < 2 → predecessor graph k n ≡ m
  unfolding edges_into predecessor
  predecessor_is zero m h some few = absurd (not-suc-le-zero h)
  predecessor_is (suc k) m h some few = by (eq-or-lt_of_le (le_of_suc-le-suc h)) (predecessor_is k m)
    where
      by : (m ≡ k) ⊎ (m < k) → (m < k → 0 < among (targets (graph m)) n → edges_into graph k n < 2 → predecessor graph k n ≡ m)
          → cond (ltb 0 (among (targets (graph k)) n)) k (predecessor graph k n) ≡ m
      by (inl e) rest =
          let here : 0 < among (targets (graph k)) n = rw e at some in
          rw (lt-ltb 0 (among (targets (graph k)) n) here) (sym e)
      by (inr l) rest =
          let none : among (targets (graph k)) n ≤ 0 = omega (arith, counted graph n m k l) in
          rw (le-ltb 0 (among (targets (graph k)) n) none) (rest l some (omega arith))

mem_among : {n : ℕ} {ns : List ℕ} → Memᴰ n ns → 0 < among ns n
mem_among {n} (Memᴰ.head {x = x} e) = rw (eq-eqb x n (sym e)) (omega arith)
mem_among (Memᴰ.tail mem) = omega (arith, mem_among mem)

module _ (graph : ℕ → Node) (nodes entry : ℕ) where
  -- the predecessor is where any edge into the node comes from
  pub came_from : (n m : ℕ) → leader graph nodes entry n ≡ false → m < nodes → Memᴰ n (targets (graph m)) → predecessor graph nodes n ≡ m
  came_from n m h l mem = predecessor_is graph n nodes m l (mem_among mem) (few_edges graph nodes entry n h)

  pub entry_leads : leader graph nodes entry entry ≡ true
  entry_leads = (leader_means graph nodes entry entry).1 (is_entry refl)

  -- ---- heads of blocks

  head_leader : (steps n : ℕ) → leader graph nodes entry n ≡ true → head_in graph nodes entry steps n ≡ n
  unfolding head_in
  head_leader zero n h = refl
  head_leader (suc steps) n h = rw h

  head_step : (steps n : ℕ) → leader graph nodes entry n ≡ false
      → head_in graph nodes entry (suc steps) n ≡ head_in graph nodes entry steps (predecessor graph nodes n)
  unfolding head_in
  head_step steps n h = rw h

  -- a leader heads its own block
  pub leader_heads : (n : ℕ) → leader graph nodes entry n ≡ true → block_head graph nodes entry n ≡ n
  unfolding block_head
  leader_heads n h = head_leader nodes n h

  -- from a node back to a leader, in so many steps at most
  data Back : ℕ → ℕ → Type 0 where
    here : {steps n : ℕ} → leader graph nodes entry n ≡ true → Back steps n
    back : {steps n : ℕ} → leader graph nodes entry n ≡ false → Back steps (predecessor graph nodes n) → Back (suc steps) n

  back_leads : {steps n : ℕ} → Back steps n → leader graph nodes entry (head_in graph nodes entry steps n) ≡ true
  back_leads {steps} {n} (here h) = rw (head_leader steps n h) h
  back_leads {n = n} (back {steps = k} h b) = rw (head_step k n h) (back_leads b)

  back_steady : {steps n : ℕ} → Back steps n → (more : ℕ) → steps ≤ more → head_in graph nodes entry more n ≡ head_in graph nodes entry steps n
  back_steady {steps} {n} (here h) more l = head_leader more n h ∙ sym (head_leader steps n h)
  back_steady (back h b) zero l = absurd (not-suc-le-zero l)
  back_steady {n = n} (back {steps = k} h b) (suc more) l =
      head_step more n h ∙ back_steady b more (le_of_suc-le-suc l) ∙ sym (head_step k n h)

  module _ (entry_in : entry < nodes) (targets_in : (m n : ℕ) → m < nodes → Memᴰ n (targets (graph m)) → n < nodes) where
    path_in : {edges n : ℕ} → PathIn graph entry edges n → n < nodes
    path_in start = entry_in
    path_in (onward {m = m} {n = n} path mem) = targets_in m n (path_in path) mem

    path_back : {edges n : ℕ} → PathIn graph entry edges n → Back edges n
    path_back start = here entry_leads
    path_back (onward {edges = k} {m = m} {n = n} path mem) = by (leader graph nodes entry n) refl (path_back path)
      where
        by : (led : Bool) → leader graph nodes entry n ≡ led → Back k m → Back (suc k) n
        by true h b = here h
        by false h b = back h (rw (← came_from n m h (path_in path) mem) at b)

    -- the last edge of a path to a node that is no leader
    last_edge : {edges n : ℕ} → PathIn graph entry edges n → leader graph nodes entry n ≡ false
        → (m k : ℕ) × (edges ≡ suc k) × (m < nodes) × Memᴰ n (targets (graph m)) × Back k m
    last_edge start h = absurd_bool (sym h ∙ entry_leads)
    last_edge (onward {edges = k} {m = m} path mem) h = (m, k, refl, path_in path, mem, path_back path)

-- the edge of a node that is no branch
go_edge : {n : ℕ} (node : Node) → is_branch node ≡ false → Memᴰ n (targets node) → (action : Action) × (node ≡ go action n)
go_edge (go action next) plain mem = (action, ap (go action) (sym (Memᴰ.eq_of_singleton mem)))
go_edge (branch c a b t f) plain mem = absurd_bool (sym plain)
go_edge (ret a) plain mem = absurd (Memᴰ.not-nil mem)
go_edge stop plain mem = absurd (Memᴰ.not-nil mem)

-- ---- an accepted source

-- what is used of one: its nodes are in order, and each is reached by a path with no more edges than there are nodes
module _ (registers nodes entry : ℕ) (graph : ℕ → Node) (ok : SourceGraph registers nodes entry graph)
    (short : (n : ℕ) → n < nodes → (edges : ℕ) × (edges ≤ nodes) × PathIn graph entry edges n) where
  targets_in : (m n : ℕ) → m < nodes → Memᴰ n (targets (graph m)) → n < nodes
  targets_in m n h = targets_inside registers nodes (graph m) (ok.node_in m h) n

  same_head : (n m k : ℕ) → leader graph nodes entry n ≡ false → predecessor graph nodes n ≡ m → Back graph nodes entry k m → suc k ≤ nodes
      → block_head graph nodes entry n ≡ block_head graph nodes entry m
  unfolding block_head
  same_head n m k h p b few = by nodes refl
    where
      by : (steps : ℕ) → nodes ≡ steps → head_in graph nodes entry nodes n ≡ head_in graph nodes entry nodes m
      by zero e = absurd (omega arith)
      by (suc steps) e =
          ap (λ (f : ℕ). head_in graph nodes entry f n) e
          ∙ head_step graph nodes entry steps n h
          ∙ ap (head_in graph nodes entry steps) p
          ∙ back_steady graph nodes entry b steps (omega arith)
          ∙ sym (back_steady graph nodes entry b nodes (omega arith))

  -- another node has one predecessor, no branch, and lies in that node's block
  pub inside_block : (n : ℕ) → n < nodes → leader graph nodes entry n ≡ false → Inside graph nodes entry n
  unfolding signature
  inside_block n h led =
      let (edges, few, path) = short n h in
      let (m, k, e, m<, mem, b) = last_edge graph nodes entry ok.entry_in targets_in path led in
      let (j, edge) = edge_here graph n m nodes m< (mem_among mem) in
      let (action, is) = go_edge (graph m) (no_target graph nodes entry n led m j edge) mem in
      let p = came_from graph nodes entry n m led m< mem in
      let block = same_head n m k led p b (omega arith) in
      record {
        from = m;
        action = action;
        below = m<;
        edge = is;
        only = λ m' j' other. sym (predecessor_is graph n nodes m' other.inside (edge_counts graph n other) (few_edges graph nodes entry n led)) ∙ p;
        block = block;
        signed = λ plan. ap (λ (head : ℕ). plan (rank graph nodes entry head)) block;
      }

  -- the head of a block is a leader
  pub head_leads : (n : ℕ) → n < nodes → leader graph nodes entry (block_head graph nodes entry n) ≡ true
  unfolding block_head
  head_leads n h =
      let (edges, few, path) = short n h in
      let b = path_back graph nodes entry ok.entry_in targets_in path in
      rw (back_steady graph nodes entry b nodes few) (back_leads graph nodes entry b)

-- the same of a table that `check_source` accepts
module _ (registers nodes entry : ℕ) (table : List ℕ) (accepted : source_check registers nodes entry table ≡ given tt) where
  pub table_inside : (n : ℕ) → n < nodes → leader (node_at table) nodes entry n ≡ false → Inside (node_at table) nodes entry n
  table_inside = inside_block registers nodes entry (node_at table) (source_facts registers nodes entry table accepted)
      (path_short registers nodes entry table accepted)

  pub table_head : (n : ℕ) → n < nodes → leader (node_at table) nodes entry (block_head (node_at table) nodes entry n) ≡ true
  table_head = head_leads registers nodes entry (node_at table) (source_facts registers nodes entry table accepted)
      (path_short registers nodes entry table accepted)
