-- A file longer than 32,768 bytes and its first 32,768 bytes are refused alike: no number that the reader comes to reaches that far.
-- Assumes nothing.
use mathlib.Core.Path.{◌≡◌, refl, ap}
use mathlib.Core.List.{List}
use Prim.Native.Nat.{ℕ, zero, suc, ◌+◌, ◌*◌, ◌%◌, ◌≤◌, ◌<◌}
use native.Mathlib.Omega.{arith}
use lib.ListN.{length, take}
use lib.Seq.{length-take-le}
use lib.Dec.{leb}
use borrow.Author.Tests.{lt-leb}
use Rattle.words.specs.Answer.{demand}
use Rattle.words.proofs.Answers.{when_given, then_same}
use Rattle.words.proofs.Numbers.{number_take}
use Rattle.graph.specs.declared.Role.{Role}
use Rattle.graph.specs.declared.Role.TheVariants.{Target}
use Rattle.graph.specs.Kinds.{role_at}
use Rattle.file.specs.Reading.{before, kind_after, count_at, field_at, cell_at, cells_from, body_of, contents_of, read_answer, read_table, own}
use Rattle.file.proofs.Sizes.{used, used_role, reach, reach_most, Here, here_first, here_next}
use Rattle.file.proofs.Refusals.{count_law, field_law, cell_law}
use Rattle.file.proofs.InOrder.{cells_law, in_order_end}

module _ (bytes : List ℕ) where
  abbrev front : List ℕ
  front = take 32768 bytes

  count-take : (limit at : ℕ) → at ≤ 24603 → count_at front limit at ≡ count_at bytes limit at
  unfolding count_at
  count-take limit at h = rw (number_take 32768 bytes at (omega arith))

  module _ (registers nodes : ℕ) where
    field_take : (role : Role) (at : ℕ) → at ≤ 24603 → field_at front (own registers nodes) role at ≡ field_at bytes (own registers nodes) role at
    unfolding field_at
    field_take role at h = rw (number_take 32768 bytes at (omega arith))

    cell_take : (role : Role) (at : ℕ) → at ≤ 24603 → cell_at front (own registers nodes) role at ≡ cell_at bytes (own registers nodes) role at
    unfolding cell_at
    cell_take role at h = rw (field_take role at h)

    module _ (few : registers ≤ 64) (fewer : nodes ≤ 2050) (first : ℕ) (early : first ≤ 5) where
      cells-take : (left i kind at : ℕ) → i + left ≡ 6 * nodes → Here first i kind at →
          cells_from front (own registers nodes) left i kind at ≡ cells_from bytes (own registers nodes) left i kind at
      unfolding cells_from
      cells-take zero i kind at count h = refl
      cells-take (suc left) i kind at count h =
          let role : Role = role_at kind (i % 6) in
          let short : used kind (i % 6) ≤ reach role = used_role kind (i % 6) (omega arith) in
          let most : reach role ≤ 10 = reach_most role in
          rw (cell_take role at (omega arith))
          (then_same (cell_at bytes (own registers nodes) role at) _ _ λ r e.
          ap (before r.value)
          (cells-take left (i + 1) (kind_after (i % 6) r.value kind) r.next (omega arith)
          (here_next first i kind at r.value r.next h (when_given e (cell_law bytes registers nodes few fewer role at (omega arith))).short)))

    module _ (long : 32768 < length bytes) (few : registers ≤ 64) (fewer : nodes ≤ 2050) where
      body_take : (at : ℕ) → at ≤ 3 → body_of front (own registers nodes) at ≡ body_of bytes (own registers nodes) at
      unfolding body_of
      body_take at h =
          let cut : length front ≡ 32768 = length-take-le 32768 bytes (omega arith) in
          rw (field_take Target at (omega arith))
          (then_same (field_at bytes (own registers nodes) Target at) _ _ λ e ee.
          let early : e.next ≤ 5 = omega (arith, (when_given ee (field_law bytes registers nodes few fewer Target at refl (omega arith))).short) in
          rw (cells-take few fewer e.next early (6 * nodes) 0 0 e.next (omega arith) (here_first e.next))
          (then_same (cells_from bytes (own registers nodes) (6 * nodes) 0 0 e.next) _ _ λ c ec.
          let words = when_given ec (cells_law bytes registers nodes few fewer e.next early (6 * nodes) 0 0 e.next (omega arith) (here_first e.next)) in
          let end : c.next ≤ e.next + 12 * nodes = in_order_end bytes registers nodes e.next (omega arith) (here_first e.next) words in
          let over : c.next < length bytes = omega arith in
          let past : c.next < length front = omega arith in
          rw (lt-leb (length bytes) c.next over, lt-leb (length front) c.next past)))

  contents-take : (room : ℕ) → 32768 < length bytes → contents_of front room ≡ contents_of bytes room
  unfolding contents_of
  contents-take room long =
      rw (count-take 64 0 (omega arith))
      (then_same (count_at bytes 64 0) _ _ λ r er.
      let registers = when_given er (count_law bytes 64 0 (omega arith)) in
      let one : r.next ≤ 1 = registers.law.tight 0 (omega arith) in
      rw (count-take 2050 r.next (omega arith))
      (then_same (count_at bytes 2050 r.next) _ _ λ n en.
      let nodes = when_given en (count_law bytes 2050 r.next one) in
      let three : n.next ≤ 3 = omega (arith, nodes.law.tight 1 (omega arith)) in
      ap (demand (leb (6 * n.value) room) 4 (6 * n.value)) (body_take r.value n.value long registers.within nodes.within n.next three)))

-- A file longer than 32,768 bytes and its first 32,768 bytes get the same answer.
pub answer-take : (bytes : List ℕ) (room : ℕ) → 32768 < length bytes → read_answer (take 32768 bytes) room ≡ read_answer bytes room
unfolding read_answer
answer-take bytes room long = rw (contents-take bytes room long)

-- They leave the same table.
pub table-take : (bytes table : List ℕ) → 32768 < length bytes → read_table (take 32768 bytes) table ≡ read_table bytes table
unfolding read_table
table-take bytes table long = rw (contents-take bytes (length table) long)
