-- A file has one form: the bytes of an accepted file are those that its R, N, entry and words are written as.
-- Assumes nothing.
use mathlib.Core.Path.{◌≡◌, refl, sym, ap, ◌∙◌}
use mathlib.Core.Bool.{Bool, true, false, cond}
use mathlib.Core.List.{List, [], ◌++◌, append_assoc, append-nil}
use Prim.Native.Nat.{ℕ, ◌+◌, ◌%◌}
use lib.ListN.{drop, drop_of_length-le}
use Rattle.words.specs.Answer.{given}
use Rattle.words.specs.Number.{reading, number_at, number_of}
use Rattle.words.specs.declared.Reading.{Reading}
use Rattle.words.proofs.Answers.{given_same}
use Rattle.words.proofs.Forms.{number_form}
use Rattle.graph.specs.declared.Role.{Role}
use Rattle.graph.specs.Kinds.{role_at}
use Rattle.file.specs.Reading.{Contents, stands, kind_after}
use Rattle.file.specs.Writing.{cell_of, cells_of, header_of}
use Rattle.file.proofs.InOrder.{InOrder, none, more}
use Rattle.file.proofs.Accepted.{Accepted}

module _ (bytes : List ℕ) where
  -- a word that was read is written so, and the bytes after it follow
  cell_form : (role : Role) (at : ℕ) {r : Reading} → cond (stands role) (number_at bytes at) (reading 0 at) ≡ given r →
      drop at bytes ≡ cell_of role r.value ++ drop r.next bytes
  unfolding cell_of
  cell_form role at {r} e = by (stands role) e
    where
      by : (there : Bool) → cond there (number_at bytes at) (reading 0 at) ≡ given r →
          drop at bytes ≡ cond there (number_of r.value) [] ++ drop r.next bytes
      by true e = number_form bytes at e
      by false e = ap (λ (x : Reading). drop x.next bytes) (given_same e)

  cells_form : {registers nodes left i kind at next : ℕ} {words : List ℕ} → InOrder bytes registers nodes left i kind at words next →
      drop at bytes ≡ cells_of words i kind ++ drop next bytes
  unfolding cells_of
  cells_form none = refl
  cells_form {i = i} {kind = kind} {at = at} {next = next} (more {words = words} {r = r} cell rest) =
      let role : Role = role_at kind (i % 6) in
      let others : List ℕ = cells_of words (i + 1) (kind_after (i % 6) r.value kind) in
      cell_form role at cell.is
      ∙ ap (λ (l : List ℕ). cell_of role r.value ++ l) (cells_form rest)
      ∙ sym (append_assoc (cell_of role r.value) others (drop next bytes))

-- an accepted file, whole
pub accepted_form : (bytes : List ℕ) {room : ℕ} {c : Contents} → Accepted bytes room c →
    bytes ≡ header_of c.header.registers c.header.nodes c.header.entry ++ cells_of c.words 0 0
unfolding header_of
accepted_form bytes {c = c} a =
    let r : List ℕ = number_of a.r.value in
    let n : List ℕ = number_of a.n.value in
    let e : List ℕ = number_of a.e.value in
    let end : drop a.next bytes ≡ [] = drop_of_length-le bytes a.whole in
    rw a.header
    (number_form bytes 0 a.registers.is
    ∙ ap (λ (l : List ℕ). r ++ l)
    (number_form bytes a.r.next a.nodes.is
    ∙ ap (λ (l : List ℕ). n ++ l)
    (number_form bytes a.n.next a.entry.is
    ∙ ap (λ (l : List ℕ). e ++ l) (cells_form bytes a.words ∙ rw end (append-nil (cells_of c.words 0 0)))))
    ∙ sym (append_assoc r n (e ++ cells_of c.words 0 0)) ∙ sym (append_assoc (r ++ n) e (cells_of c.words 0 0)))
