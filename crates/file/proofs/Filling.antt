-- The second pass over the nodes: from one word to the next, and from one node to the next.
-- Assumes nothing.
use mathlib.Core.Path.{◌≡◌, refl, sym, ap, ◌∙◌}
use mathlib.Core.List.{List, ◌∷◌, ◌++◌, append_assoc}
use Prim.Native.Nat.{ℕ, zero, suc, ◌+◌, ◌*◌, ◌-◌, ◌%◌, ◌≤◌, ◌<◌}
use native.Mathlib.Omega.{arith}
use native.Mathlib.Numerals.{add-one}
use lib.ListN.{length, take, set}
use lib.Seq.{take-suc-set, sets-eq, drop-drop}
use borrow.Rule.Slice.PartMut.{put_mid}
use borrow.Author.Tests.{ne_eqb}
use Rattle.std.proofs.lemmas.List.{take_all}
use Rattle.words.specs.Buffer.{put}
use Rattle.words.specs.declared.Reading.{Reading}
use Rattle.words.proofs.Puts.{put-put}
use Rattle.graph.specs.declared.Role.{Role}
use Rattle.graph.specs.Kinds.{role_at}
use Rattle.file.specs.Reading.{kind_after}
use Rattle.file.specs.Passes.{taken_at, taken_cell, taken_from}

-- what is written to a part of a table is put there
put_part : (table part : List ℕ) (i k : ℕ) → length part ≡ k → i + k ≤ length table → put_mid i k table part ≡ put table i part
unfolding put
put_part table part i k n l =
    let fits : i + length part ≤ length table = omega arith in
    rw (sets-eq part table i fits, drop-drop, n, append_assoc)

module _ (bytes : List ℕ) where
  -- the words of a node are those of the node before it, with another index
  shift : (left i kind at : ℕ) → taken_from bytes left (i + 6) kind at ≡ taken_from bytes left i kind at
  unfolding taken_from
  shift zero i kind at = refl
  shift (suc left) i kind at =
      let word : (i + 6) % 6 ≡ i % 6 = omega arith in
      let next : i + 6 + 1 ≡ i + 1 + 6 = omega arith in
      let t : Reading = taken_cell bytes (role_at kind (i % 6)) at in
      rw (word, next) (ap (λ (ws : List ℕ). t.value ∷ ws) (shift left (i + 1) (kind_after (i % 6) t.value kind) t.next))

  -- and where a node begins no kind counts
  fresh : (left kind at : ℕ) → taken_from bytes left 0 kind at ≡ taken_from bytes left 0 0 at
  unfolding role_at taken_from
  fresh zero kind at = refl
  fresh (suc left) kind at = refl

  word_more : (word left kind at : ℕ) (t : Reading) → word < 6 → t ≡ taken_cell bytes (role_at kind word) at →
      taken_from bytes (suc left) word kind at ≡ t.value ∷ taken_from bytes left (word + 1) (kind_after word t.value kind) t.next
  unfolding taken_from
  word_more word left kind at t l e = let w : word % 6 ≡ word = omega arith in rw (w, ← e)

  -- the kind into the first word
  pub node_first : (left first : ℕ) (node : List ℕ) (kind : Reading) → length node ≡ 6 → kind ≡ taken_at bytes first →
      taken_from bytes (6 + left) 0 0 first ≡ take 1 (set node 0 kind.value) ++ taken_from bytes (5 + left) 1 kind.value kind.next
  unfolding role_at taken_cell
  node_first left first node kind n e =
      let l : 6 + left ≡ suc (5 + left) = omega arith in
      let some : 0 < length node = omega arith in
      rw (l, word_more 0 (5 + left) 0 first kind (omega arith) e, take-suc-set node 0 kind.value some)

  -- a field into its word
  pub node_more : (left word kind at : ℕ) (node : List ℕ) (role : Role) (t : Reading) → 1 ≤ word → word < 6 → length node ≡ 6 →
      role ≡ role_at kind word → t ≡ taken_cell bytes role at →
      take word node ++ taken_from bytes (6 - word + left) word kind at
      ≡ take (word + 1) (set node word t.value) ++ taken_from bytes (6 - (word + 1) + left) (word + 1) kind t.next
  node_more left word kind at node role t some l n r e =
      let rest : 6 - word + left ≡ suc (6 - (word + 1) + left) = omega arith in
      let z : word ≡ 0 → ⊥ = λ e. omega arith in
      let m = word_more word (6 - (word + 1) + left) kind at t l (rw (← r) e) in
      let inside : word < length node = omega arith in
      rw (rest, rw (ne_eqb word 0 z) at m, add-one, take-suc-set node word t.value inside, append_assoc)

  -- and then the nodes after it
  pub node_last : (left word kind at : ℕ) (node : List ℕ) → 6 ≤ word → word ≤ 6 → length node ≡ 6 →
      take word node ++ taken_from bytes (6 - word + left) word kind at ≡ node ++ taken_from bytes left 0 0 at
  node_last left word kind at node low high n =
      let six : word ≡ 6 = omega arith in
      let none : 6 - 6 + left ≡ left = omega arith in
      let whole : length node ≤ 6 = omega arith in
      rw (six, none, take_all 6 node whole) (ap (λ (ws : List ℕ). node ++ ws) (shift left 0 kind at ∙ fresh left kind at))

  -- a node's words in the table leave those of the nodes after it
  pub nodes_more : (table node : List ℕ) (nodes n at next : ℕ) → n < nodes → 6 * nodes ≤ length table → length node ≡ 6 →
      ((left : ℕ) → taken_from bytes (6 + left) 0 0 at ≡ node ++ taken_from bytes left 0 0 next) →
      put table (6 * n) (taken_from bytes (6 * (nodes - n)) 0 0 at)
      ≡ put (put_mid (6 * n) (6 * n + 6 - 6 * n) table node) (6 * (n + 1)) (taken_from bytes (6 * (nodes - (n + 1))) 0 0 next)
  nodes_more table node nodes n at next l room six e =
      let left : 6 * (nodes - n) ≡ 6 + 6 * (nodes - (n + 1)) = omega arith in
      let after : 6 * (n + 1) ≡ 6 * n + length node = omega arith in
      rw (left, e, after, put_part table node (6 * n) (6 * n + 6 - 6 * n) (omega arith) (omega arith))
      (sym (put-put table (6 * n) node (taken_from bytes (6 * (nodes - (n + 1))) 0 0 next)))

  pub nodes_none : (table : List ℕ) (nodes n at : ℕ) → nodes ≤ n → put table (6 * n) (taken_from bytes (6 * (nodes - n)) 0 0 at) ≡ table
  unfolding taken_from put
  nodes_none table nodes n at l = let e : 6 * (nodes - n) ≡ 0 = omega arith in rw e
