-- Laws of the writers: rows written one after the other are written at once.
-- Assumes nothing.
use Prim.Native.Nat.{ℕ, ◌+◌, ◌*◌, ◌≤◌}
use native.Mathlib.Omega.{arith}
use mathlib.Core.Path.{◌≡◌, refl, sym, ap, ◌∙◌}
use mathlib.Core.List.{List, [], ◌∷◌, ◌++◌, append_assoc, append-nil}
use lib.ListN.{length}
use Rattle.words.specs.Buffer.{put, over}
use Rattle.words.proofs.Puts.{put-at, put-over, put_nil}
use Rattle.graph.specs.Nodes.{Node, words_of}
use Rattle.harden.specs.Hardened.{Source, table_of, hardened_rows, hardened_count, hardened_table}
use Rattle.harden.specs.Passes.{put_rows}
use Rattle.harden.proofs.Count.{table-length, rows_length}

pub table-append : (xs ys : List Node) → table_of (xs ++ ys) ≡ table_of xs ++ table_of ys
table-append [] ys = refl
table-append (x ∷ xs) ys = ap (λ (ws : List ℕ). words_of x ++ ws) (table-append xs ys) ∙ sym (append_assoc (words_of x) (table_of xs) (table_of ys))

-- rows written right after rows
pub more_rows : (l₀ : List ℕ) {l₁ l₂ : List ℕ} (n m : ℕ) (xs ys : List Node) →
    l₁ ≡ put_rows l₀ n xs → l₂ ≡ put_rows l₁ m ys → m ≡ n + length xs → l₂ ≡ put_rows l₀ n (xs ++ ys)
unfolding put_rows
more_rows l₀ n m xs ys p q e =
    q
    ∙ ap (λ (l : List ℕ). put l (6 * m) (table_of ys)) p
    ∙ put-at l₀ (6 * n) (6 * m) (table_of xs) (table_of ys) (omega (arith, table-length xs))
    ∙ ap (put l₀ (6 * n)) (sym (table-append xs ys))

pub no_rows : (l : List ℕ) (n : ℕ) → put_rows l n [] ≡ l
unfolding put_rows
no_rows l n = put_nil l (6 * n)

-- a row written is its node's words
pub row_written : (l : List ℕ) (n : ℕ) (node : Node) {l' words : List ℕ} → l' ≡ put l (6 * n) words → words ≡ words_of node → l' ≡ put_rows l n (node ∷ [])
unfolding put_rows
row_written l n node p q = p ∙ ap (put l (6 * n)) (q ∙ sym (append-nil (words_of node)))

-- from the front, a hardened table that fits lies over the first words
pub table_over : (s : Source) (l : List ℕ) → 6 * hardened_count s ≤ length l → put_rows l 0 (hardened_rows s) ≡ over (hardened_table s) l
unfolding put_rows hardened_table
table_over s l h = put-over l (table_of (hardened_rows s)) (rw (table-length, rows_length) h)
