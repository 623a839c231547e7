-- Laws of marks: what setting some marks adds, and how many marks there are.
-- Assumes nothing.
use mathlib.Core.Path.{◌≡◌, refl, sym, ap, ◌∙◌}
use mathlib.Core.Bool.{Bool, true, false, cond}
use mathlib.Core.Logic.{◌⊎◌, inl, inr, ⊎_elim}
use mathlib.Core.List.Memᴰ
use mathlib.Core.List.{List, [], ◌∷◌, Memᴰ}
use Prim.Native.Nat.{ℕ, zero, suc, ◌+◌, ◌≤◌, ◌<◌}
use native.Mathlib.Omega.{arith}
use native.Mathlib.Decide.{ℕ_discrete}
use lib.ListN.{length, set, replicate, length-set}
use lib.Seq.{get_or-set_same, get_or-set_other}
use Rattle.graph.specs.Paths.{Marks, marked, mark_all}
use Rattle.graph.specs.Marks.{count}

-- two marks that imply one another are equal
pub same_mark : (a b : Bool) → (a ≡ true → b ≡ true) → (b ≡ true → a ≡ true) → a ≡ b
same_mark true b there back = sym (there refl)
same_mark false true there back = back refl
same_mark false false there back = refl

-- what is marked lies inside
pub marked_in : (marks : Marks) (n : ℕ) → marked marks n ≡ true → n < length marks
marked_in [] n e = absurd (let z : ◌≡◌ {A = ℕ} 0 1 = cc in omega arith)
marked_in (mark ∷ marks) zero e = omega arith
marked_in (mark ∷ marks) (suc n) e = let inside : n < length marks = marked_in marks n e in omega arith

pub none_marked : (nodes n : ℕ) → marked (replicate nodes false) n ≡ false
none_marked zero n = refl
none_marked (suc nodes) zero = refl
none_marked (suc nodes) (suc n) = none_marked nodes n

module _ (marks : Marks) (n : ℕ) where
  pub set_there : n < length marks → marked (set marks n true) n ≡ true
  set_there inside = get_or-set_same marks n true false inside

  pub set_more : (k : ℕ) → marked marks k ≡ true → marked (set marks n true) k ≡ true
  set_more k e = by (ℕ_discrete k n)
    where
      by : Dec (k ≡ n) → marked (set marks n true) k ≡ true
      by (yes same) = rw same (set_there (rw same at (marked_in marks k e)))
      by (no other) = get_or-set_other marks n k true false other ∙ e

  pub set_only : (k : ℕ) → marked (set marks n true) k ≡ true → (k ≡ n) ⊎ (marked marks k ≡ true)
  set_only k e = by (ℕ_discrete k n)
    where
      by : Dec (k ≡ n) → (k ≡ n) ⊎ (marked marks k ≡ true)
      by (yes same) = inl same
      by (no other) = inr (sym (get_or-set_other marks n k true false other) ∙ e)

-- marking a list of nodes
pub all_length : (ns : List ℕ) (marks : Marks) → length (mark_all ns marks) ≡ length marks
all_length [] marks = refl
all_length (n ∷ ns) marks = all_length ns (set marks n true) ∙ length-set marks n true

pub all_more : (ns : List ℕ) (marks : Marks) (k : ℕ) → marked marks k ≡ true → marked (mark_all ns marks) k ≡ true
all_more [] marks k e = e
all_more (n ∷ ns) marks k e = all_more ns (set marks n true) k (set_more marks n k e)

pub all_there : (ns : List ℕ) (marks : Marks) (k : ℕ) → Memᴰ k ns → k < length marks → marked (mark_all ns marks) k ≡ true
all_there [] marks k among inside = absurd (Memᴰ.not-nil among)
all_there (n ∷ ns) marks k among inside =
    ⊎_elim
    (λ (same : k ≡ n). all_more ns (set marks n true) k (rw same (set_there marks n (rw same at inside))))
    (λ (later : Memᴰ k ns). all_there ns (set marks n true) k later (rw length-set inside))
    (Memᴰ.cases_cons among)

pub all_only : (ns : List ℕ) (marks : Marks) (k : ℕ) → marked (mark_all ns marks) k ≡ true → Memᴰ k ns ⊎ (marked marks k ≡ true)
all_only [] marks k e = inr e
all_only (n ∷ ns) marks k e =
    ⊎_elim
    (λ (later : Memᴰ k ns). inl (Memᴰ.tail later))
    (λ (before : marked (set marks n true) k ≡ true).
    ⊎_elim (λ (same : k ≡ n). inl (Memᴰ.head same)) (λ (old : marked marks k ≡ true). inr old) (set_only marks n k before))
    (all_only ns (set marks n true) k e)

-- how many marks there are
pub count_in : (marks : Marks) → count marks ≤ length marks
unfolding count
count_in [] = omega arith
count_in (true ∷ marks) = omega (arith, count_in marks)
count_in (false ∷ marks) = omega (arith, count_in marks)

pub count_new : (marks : Marks) (n : ℕ) → n < length marks → marked marks n ≡ false → count (set marks n true) ≡ count marks + 1
unfolding count
count_new [] n inside e = absurd (omega arith)
count_new (true ∷ marks) zero inside e = absurd (let z : ◌≡◌ {A = ℕ} 0 1 = cc in omega arith)
count_new (false ∷ marks) zero inside e = omega arith
count_new (mark ∷ marks) (suc n) inside e = omega (arith, count_new marks n (omega arith) e)

-- where every node is marked, so is each
pub count_full : (marks : Marks) → length marks ≤ count marks → (n : ℕ) → n < length marks → marked marks n ≡ true
unfolding count
count_full [] full n inside = absurd (omega arith)
count_full (true ∷ marks) full zero inside = refl
count_full (true ∷ marks) full (suc n) inside = count_full marks (omega arith) n (omega arith)
count_full (false ∷ marks) full n inside = absurd (omega (arith, count_in marks))

-- more marks are at least as many, and where they are no more they are the same
pub count_more : (old new : Marks) → length new ≡ length old → ((k : ℕ) → marked old k ≡ true → marked new k ≡ true)
    → (count old ≤ count new) × (count new ≤ count old → new ≡ old)
unfolding count
count_more [] [] len more = (omega arith, λ _. refl)
count_more [] (new ∷ news) len more = absurd (omega arith)
count_more (old ∷ olds) [] len more = absurd (omega arith)
count_more (old ∷ olds) (new ∷ news) len more = by old new (more zero) (count_more olds news (omega arith) (λ k. more (suc k)))
  where
    by : (a b : Bool) → (a ≡ true → b ≡ true) → (count olds ≤ count news) × (count news ≤ count olds → news ≡ olds)
        → (cond a 1 0 + count olds ≤ cond b 1 0 + count news) × (cond b 1 0 + count news ≤ cond a 1 0 + count olds → b ∷ news ≡ a ∷ olds)
    by true true up (least, same) = (omega arith, λ few. ap (λ (rest : Marks). true ∷ rest) (same (omega arith)))
    by true false up (least, same) = absurd (let z : ◌≡◌ {A = ℕ} 0 1 = (let f : false ≡ true = up refl in cc) in omega arith)
    by false true up (least, same) = (omega arith, λ few. absurd (omega arith))
    by false false up (least, same) = (omega arith, λ few. ap (λ (rest : Marks). false ∷ rest) (same (omega arith)))
