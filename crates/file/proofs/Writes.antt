-- The walk of the writer: what a word puts, what is left of the words, and the bytes of R, N and entry before them.
-- Assumes nothing.
use mathlib.Core.Path.{◌≡◌, refl, sym, ap, ◌∙◌}
use mathlib.Core.Bool.{Bool, true, false}
use mathlib.Core.List.{List, [], ◌∷◌, ◌++◌, append_assoc, append-nil}
use Prim.Native.Nat.{ℕ, zero, suc, ◌+◌, ◌*◌, ◌%◌, ◌≤◌, ◌<◌}
use native.Mathlib.Nat.{add-zero, zero-add}
use native.Mathlib.Numerals.{add-one}
use native.Mathlib.Omega.{arith}
use lib.ListN.{length, get_or, take, drop, length-append, drop_of_length-le}
use lib.Seq.{drop-cons}
use borrow.Author.Tests.{le-leb, lt-leb, ne_eqb}
use Rattle.words.specs.Answer.{given, refused}
use Rattle.words.specs.Buffer.{put}
use Rattle.words.specs.Number.{number_of}
use Rattle.words.proofs.Puts.{put_nil, put-at, put-over}
use Rattle.words.proofs.Shortest.{number_short}
use Rattle.graph.specs.declared.Role.{Role}
use Rattle.graph.specs.Kinds.{role_at}
use Rattle.graph.specs.Checks.{runnable_check}
use Rattle.file.specs.Reading.{stands, kind_after}
use Rattle.file.specs.Writing.{cell_of, cells_of, header_of, file_of, write_answer, write_output}

module _ (role : Role) (w : ℕ) where
  -- a word that stands in the file, and one that does not
  pub cell_there : stands role ≡ true → cell_of role w ≡ number_of w
  unfolding cell_of
  cell_there s = rw s

  pub cell_spare : stands role ≡ false → cell_of role w ≡ []
  unfolding cell_of
  cell_spare s = rw s

  cell_short : length (cell_of role w) ≤ 5
  cell_short = by (stands role) refl
    where
      by : (there : Bool) → stands role ≡ there → length (cell_of role w) ≤ 5
      by true s = rw (cell_there s) (number_short w)
      by false s = rw (cell_spare s) (omega arith)

-- no word takes more than five bytes
pub cells_short : (words : List ℕ) (i kind : ℕ) → length (cells_of words i kind) ≤ 5 * length words
unfolding cells_of
cells_short [] i kind = omega arith
cells_short (w ∷ words) i kind =
    let role : Role = role_at kind (i % 6) in
    let rest : List ℕ = cells_of words (i + 1) (kind_after (i % 6) w kind) in
    omega (arith, length-append (cell_of role w) rest, cell_short role w, cells_short words (i + 1) (kind_after (i % 6) w kind))

-- past its word 0 a node keeps its kind
kept : (node : List ℕ) (word : ℕ) → kind_after word (get_or node word 0) (get_or node 0 0) ≡ get_or node 0 0
kept node zero = refl
kept node (suc word) = let z : suc word ≡ 0 → ⊥ = λ e. omega arith in rw (ne_eqb (suc word) 0 z)

-- one word of those left of a node
pub word_more : (node : List ℕ) (word : ℕ) (role : Role) → word < length node → length node ≡ 6 → role ≡ role_at (get_or node 0 0) word →
    cells_of (drop word node) word (get_or node 0 0)
    ≡ cell_of role (get_or node word 0) ++ cells_of (drop (word + 1) node) (word + 1) (get_or node 0 0)
unfolding cells_of
word_more node word role l six r =
    let e : word % 6 ≡ word = omega arith in
    rw (drop-cons node word 0 l, add-one word, e, ← r, kept node word)

pub words_none : (node : List ℕ) (word kind : ℕ) → length node ≤ word → cells_of (drop word node) word kind ≡ []
unfolding cells_of
words_none node word kind l = rw (drop_of_length-le node l)

-- the words of a node are those of the node before it, with another index
shift : (words : List ℕ) (i kind : ℕ) → cells_of words (i + 6) kind ≡ cells_of words i kind
unfolding cells_of
shift [] i kind = refl
shift (w ∷ words) i kind =
    let word : (i + 6) % 6 ≡ i % 6 = omega arith in
    let next : i + 6 + 1 ≡ i + 1 + 6 = omega arith in
    let here : List ℕ = cell_of (role_at kind (i % 6)) w in
    rw (word, next) (ap (λ (bytes : List ℕ). here ++ bytes) (shift words (i + 1) (kind_after (i % 6) w kind)))

-- and where a node begins no kind counts
pub fresh : (words : List ℕ) (kind : ℕ) → cells_of words 0 kind ≡ cells_of words 0 0
unfolding role_at cells_of
fresh [] kind = refl
fresh (w ∷ words) kind = refl

node_then : (node rest : List ℕ) (i kind : ℕ) → i + length node ≡ 6 →
    cells_of (node ++ rest) i kind ≡ cells_of node i kind ++ cells_of rest 0 0
unfolding cells_of
node_then [] rest i kind e = let z : i ≡ 0 + 6 = omega arith in rw z (shift rest 0 kind ∙ fresh rest kind)
node_then (w ∷ node) rest i kind e =
    let here : List ℕ = cell_of (role_at kind (i % 6)) w in
    rw append_assoc (ap (λ (bytes : List ℕ). here ++ bytes) (node_then node rest (i + 1) (kind_after (i % 6) w kind) (omega arith)))

-- a node, and those after it
pub node_more : (words node rest : List ℕ) → words ≡ node ++ rest → length node ≡ 6 →
    cells_of words 0 0 ≡ cells_of node 0 0 ++ cells_of rest 0 0
node_more words node rest e six = rw e (node_then node rest 0 0 (omega arith))

-- fewer words than a node's, in whole nodes, are none
pub nodes_none : (left : List ℕ) (size : ℕ) → length left < size → size ≡ 6 → length left % 6 ≡ 0 → cells_of left 0 0 ≡ []
unfolding cells_of
nodes_none [] size l six whole = refl
nodes_none (w ∷ left) size l six whole = absurd (omega arith)

-- a loop that puts bytes: what is put into the buffer that was lent is what is left put into the buffer as it is
pub record Walking (first : ℕ) (before whole : List ℕ) (at : ℕ) (out left : List ℕ) : Type 0 where
  pub bytes : put before first whole ≡ put out at left
  pub size : first + length whole ≡ at + length left

pub walk_first : (first : ℕ) (out whole left : List ℕ) → left ≡ whole → Walking first out whole first out left
walk_first first out whole left e = rw e record { bytes = refl; size = refl }

module _ {first at : ℕ} {before whole out left : List ℕ} (here : Walking first before whole at out left) where
  pub walk_room : (now rest : List ℕ) (size : ℕ) → left ≡ now ++ rest → size ≡ length now → at + size ≤ first + length whole
  walk_room now rest size e s = omega (arith, here.size, ap length e, length-append now rest)

  pub walk_more : (now rest : List ℕ) (next : ℕ) (after : List ℕ) → left ≡ now ++ rest → next ≡ at + length now → after ≡ put out at now →
      Walking first before whole next after rest
  walk_more now rest next after e n p =
      record {
        bytes = here.bytes ∙ ap (put out at) e ∙ rw p (sym (put-at out at next now rest n));
        size = here.size ∙ rw e (omega (arith, n, length-append now rest));
      }

  pub walk_end : left ≡ [] → (at ≡ first + length whole) × (out ≡ put before first whole)
  walk_end e = (sym (here.size ∙ rw e (add-zero at)), sym (here.bytes ∙ rw e (put_nil out at)))

-- R, N and entry take few bytes
module _ (registers nodes entry first second third : ℕ)
    (r : first ≡ length (number_of registers)) (n : second ≡ length (number_of nodes)) (e : third ≡ length (number_of entry)) where
  pub header_short : first + second + third ≤ 15
  header_short = omega (arith, r, n, e, number_short registers, number_short nodes, number_short entry)

  -- they are put one after the other, and then the words
  module _ (table out₀ out₁ out₂ out₃ : List ℕ) (p : out₁ ≡ put out₀ 0 (number_of registers)) (q : out₂ ≡ put out₁ first (number_of nodes))
      (s : out₃ ≡ put out₂ (first + second) (number_of entry)) where
    abbrev cells : List ℕ
    cells = cells_of (take (6 * nodes) table) 0 0

    abbrev file : List ℕ
    file = file_of registers nodes entry table

    header_put : Walking 0 out₀ file (first + second + third) out₃ cells
    unfolding header_of file_of
    header_put =
        let rest : List ℕ = number_of entry ++ cells in
        let parts : file ≡ number_of registers ++ (number_of nodes ++ rest) =
        append_assoc (number_of registers ++ number_of nodes) (number_of entry) cells ∙ append_assoc (number_of registers) (number_of nodes) rest in
        let one = walk_more (walk_first 0 out₀ file file refl) (number_of registers) (number_of nodes ++ rest) first out₁ parts (omega (arith, r)) p in
        let two = walk_more one (number_of nodes) rest (first + second) out₂ refl (omega (arith, n)) q in
        walk_more two (number_of entry) cells (first + second + third) out₃ refl (omega (arith, e)) s

    pub file_put : (size : ℕ) (out₄ : List ℕ) → size ≡ first + second + third + length cells → out₄ ≡ put out₃ (first + second + third) cells →
        (size ≡ length file) × (out₄ ≡ put out₀ 0 file)
    file_put size out₄ k o =
        let done = walk_end (walk_more header_put cells [] size out₄ (sym (append-nil cells)) k o) refl in
        (done.0 ∙ zero-add (length file), done.1)

-- what was put into no bytes at all stands nowhere
pub nothing_put : (l out : List ℕ) → length l ≡ 0 → l ++ out ≡ out
nothing_put [] out e = refl
nothing_put (x ∷ l) out e = absurd (omega arith)

module _ (registers nodes entry : ℕ) (table : List ℕ) where
  -- a graph that is not runnable
  pub write_refused : (number place : ℕ) (out : List ℕ) → runnable_check registers nodes entry table ≡ refused number place →
      (refused number place ≡ write_answer registers nodes entry table (length out)) × (out ≡ write_output registers nodes entry table out)
  unfolding write_answer write_output
  write_refused number place out e = (rw e, rw e)

  module _ (size : ℕ) (ok : runnable_check registers nodes entry table ≡ given tt)
      (s : size ≡ length (file_of registers nodes entry table)) where
    -- a buffer that is too short
    pub write_short : (out : List ℕ) → length out < size →
        (refused 15 size ≡ write_answer registers nodes entry table (length out)) × (out ≡ write_output registers nodes entry table out)
    unfolding write_answer write_output
    write_short out l = (rw (ok, ← s, lt-leb size (length out) l), rw (ok, ← s, lt-leb size (length out) l))

    pub write_done : (out after : List ℕ) → size ≤ length out → after ≡ put out 0 (file_of registers nodes entry table) →
        (given size ≡ write_answer registers nodes entry table (length out)) × (after ≡ write_output registers nodes entry table out)
    unfolding write_answer write_output
    write_done out after l p =
        let file : List ℕ = file_of registers nodes entry table in
        let fits : length file ≤ length out = omega arith in
        (rw (ok, ← s, le-leb size (length out) l), rw (ok, ← s, le-leb size (length out) l) (p ∙ put-over out file fits))
