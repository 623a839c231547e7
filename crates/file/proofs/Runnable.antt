-- What the reader accepts, the check of a runnable graph accepts, with the same R, N, entry and words.
-- Assumes nothing.
use mathlib.Core.Path.{◌≡◌, refl}
use mathlib.Core.Bool.{true}
use mathlib.Core.List.{List, ◌++◌}
use Prim.Native.Nat.{ℕ, ◌*◌, ◌≤◌}
use native.Mathlib.Omega.{arith}
use lib.ListN.{length, drop, length-append}
use lib.Dec.{ltb}
use borrow.Author.Tests.{le-leb}
use Rattle.words.specs.Answer.{given}
use Rattle.words.proofs.Forms.{dropped_first}
use Rattle.graph.specs.Checks.{words_from, table_check, runnable_check}
use Rattle.file.specs.Reading.{Contents}
use Rattle.file.proofs.Carried.{KindOf, kind_next, fault-same}
use Rattle.file.proofs.Refusals.{cond_zero}
use Rattle.file.proofs.InOrder.{InOrder, none, more, in_order_length}
use Rattle.file.proofs.Accepted.{Accepted}

-- words in order in the file are in order in the table
in_order_checked : (registers nodes : ℕ) (bytes table rest : List ℕ) {left i kind at next : ℕ} {words : List ℕ} → drop i table ≡ words ++ rest →
    KindOf table i kind → InOrder bytes registers nodes left i kind at words next → words_from 8 registers nodes table left i ≡ given tt
unfolding words_from
in_order_checked registers nodes bytes table rest e k none = refl
in_order_checked registers nodes bytes table rest {i = i} {kind = kind} e k (more {words = words} {r = r} cell others) =
    let first = dropped_first table i 0 r.value (words ++ rest) e in
    rw (fault-same registers nodes table i kind k, first.0, cell.in_order)
    (in_order_checked registers nodes bytes table rest first.1 (rw first.0 at (kind_next table i kind k)) others)

-- the words of an accepted file, whatever follows them in the table
pub accepted_runnable : (bytes rest : List ℕ) {room : ℕ} {c : Contents} → Accepted bytes room c →
    runnable_check c.header.registers c.header.nodes c.header.entry (c.words ++ rest) ≡ given tt
unfolding runnable_check table_check
accepted_runnable bytes rest {c = c} a =
    let long : 6 * a.n.value ≤ length (c.words ++ rest) =
    omega (arith, length-append c.words rest, in_order_length bytes a.r.value a.n.value a.words)
    in
    let entry : ltb a.e.value a.n.value ≡ true = cond_zero (ltb a.e.value a.n.value) 6 a.entry.in_order in
    rw (
      a.header,
      le-leb 1 a.r.value a.registers.some,
      le-leb a.r.value 64 a.registers.within,
      le-leb 1 a.n.value a.nodes.some,
      le-leb a.n.value 2050 a.nodes.within,
      le-leb (6 * a.n.value) (length (c.words ++ rest)) long,
      entry,
    )
    (in_order_checked a.r.value a.n.value bytes (c.words ++ rest) rest refl (λ z. absurd (z refl)) a.words)
