-- What an accepted file holds, from R to the last node; every other file is refused by one of the reader's refusals.
-- Assumes nothing.
use mathlib.Core.Path.{◌≡◌, refl}
use mathlib.Core.List.{List}
use Prim.Native.Nat.{ℕ, ◌+◌, ◌*◌, ◌≤◌}
use native.Mathlib.Omega.{arith}
use lib.ListN.{length}
use lib.Dec.{leb}
use borrow.Author.Tests.{leb-true}
use Rattle.words.specs.declared.Reading.{Reading}
use Rattle.words.proofs.Answers.{Of, of_given, of_demand, of_then}
use Rattle.graph.specs.declared.Role.TheVariants.{Target}
use Rattle.file.specs.Reading.{Contents, body_of, contents_of}
use Rattle.file.proofs.Sizes.{here_first}
use Rattle.file.proofs.Refusals.{Refusal, no_room, bytes_after, Counted, count_law, Celled, field_law}
use Rattle.file.proofs.InOrder.{InOrder, cells_law, in_order_end}

-- R, N, room, the entry, and the words of the nodes up to the end of the bytes
pub record Accepted (bytes : List ℕ) (room : ℕ) (c : Contents) : Type 0 where
  pub r : Reading
  pub n : Reading
  pub e : Reading
  pub next : ℕ
  pub registers : Counted bytes 64 0 r
  pub nodes : Counted bytes 2050 r.next n
  pub room_for : 6 * n.value ≤ room
  pub entry : Celled bytes r.value n.value Target n.next e
  pub words : InOrder bytes r.value n.value (6 * n.value) 0 0 e.next c.words next
  pub whole : length bytes ≤ next
  pub early : e.next ≤ 5
  pub header : c.header ≡ record { registers = r.value; nodes = n.value; entry = e.value }

pub contents_law : (bytes : List ℕ) (room : ℕ) → Of (Accepted bytes room) Refusal (contents_of bytes room)
unfolding contents_of body_of
contents_law bytes room =
    of_then _ (count_law bytes 64 0 (omega arith)) λ r er registers.
    let one : r.next ≤ 1 = registers.law.tight 0 (omega arith) in
    of_then _ (count_law bytes 2050 r.next one) λ n en nodes.
    let three : n.next ≤ 3 = omega (arith, nodes.law.tight 1 (omega arith)) in
    of_demand (leb (6 * n.value) room) 4 (6 * n.value) _
    (λ fits.
    of_then _ (field_law bytes r.value n.value registers.within nodes.within Target n.next refl (omega arith)) λ e ee entry.
    let early : e.next ≤ 5 = omega arith in
    let cells = cells_law bytes r.value n.value registers.within nodes.within e.next early (6 * n.value) 0 0 e.next (omega arith) (here_first e.next) in
    of_then _ cells λ c ec words.
    let end : c.next ≤ e.next + 12 * n.value = in_order_end bytes r.value n.value e.next (omega arith) (here_first e.next) words in
    of_demand (leb (length bytes) c.next) 10 c.next _
    (λ whole.
    of_given (record {
      r = r;
      n = n;
      e = e;
      next = c.next;
      registers = registers;
      nodes = nodes;
      room_for = leb-true _ _ fits;
      entry = entry;
      words = words;
      whole = leb-true _ _ whole;
      early = early;
      header = refl;
    }))
    (λ _. bytes_after (omega (arith, nodes.within))))
    (λ _. no_room (omega (arith, nodes.within)))
