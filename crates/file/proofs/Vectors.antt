-- Document 01, "One listing, whole" and "Runs to agree on": the reader's and the writer's vectors, computed from the definitions.
-- Assumes nothing.
use Prim.Native.Nat.{ℕ}
use mathlib.Core.Path.{◌≡◌, refl}
use mathlib.Core.List.{List, [], ◌∷◌}
use Rattle.words.specs.Answer.{given, refused}
use Rattle.words.specs.Buffer.{over}
use Rattle.words.specs.Number.{byte_at, groups, number_at, shortest, number_of}
use Rattle.graph.specs.Kinds.{layouts, role_at}
use Rattle.file.specs.Reading.{count_at, field_at, cell_at, cells_from, body_of, contents_of, read_answer, read_table}
use Rattle.file.specs.Writing.{cell_of, cells_of, header_of, file_of}

-- bytes 80 00
pub not_shortest : (room : ℕ) → read_answer (0x80 ∷ 0x00 ∷ []) room ≡ refused 2 0
unfolding byte_at groups number_at count_at contents_of read_answer
not_shortest room = refl

-- byte 80
pub cut_off : (room : ℕ) → read_answer (0x80 ∷ []) room ≡ refused 1 0
unfolding byte_at groups number_at count_at contents_of read_answer
cut_off room = refl

-- no bytes
pub no_bytes : (room : ℕ) → read_answer [] room ≡ refused 1 0
unfolding byte_at groups number_at count_at contents_of read_answer
no_bytes room = refl

-- graph A
unfoldable pub file_a : List ℕ
file_a =
    0x02 ∷ 0x05 ∷ 0x00
    ∷ 0x05 ∷ 0x00 ∷ 0x01
    ∷ 0x04 ∷ 0x00 ∷ 0x00 ∷ 0x07 ∷ 0x02 ∷ 0x03
    ∷ 0x06 ∷ 0x01 ∷ 0x00 ∷ 0x04
    ∷ 0x01 ∷ 0x01 ∷ 0x09 ∷ 0x04
    ∷ 0x07 ∷ 0x01
    ∷ []

pub answer_a : read_answer file_a 30 ≡ given (record { registers = 2; nodes = 5; entry = 0 })
unfolding file_a byte_at groups number_at layouts role_at count_at field_at cell_at cells_from body_of contents_of read_answer
answer_a = refl

-- its 30 words, in a table of 31
unfoldable pub words_a : List ℕ
words_a =
    5 ∷ 0 ∷ 1 ∷ 0 ∷ 0 ∷ 0
    ∷ 4 ∷ 0 ∷ 0 ∷ 7 ∷ 2 ∷ 3
    ∷ 6 ∷ 1 ∷ 0 ∷ 4 ∷ 0 ∷ 0
    ∷ 1 ∷ 1 ∷ 9 ∷ 4 ∷ 0 ∷ 0
    ∷ 7 ∷ 1 ∷ 0 ∷ 0 ∷ 0 ∷ 0
    ∷ 9
    ∷ []

pub table_a :
    read_table
    file_a
    (9 ∷ 9 ∷ 9 ∷ 9 ∷ 9 ∷ 9 ∷ 9 ∷ 9 ∷ 9 ∷ 9 ∷ 9 ∷ 9 ∷ 9 ∷ 9 ∷ 9 ∷ 9 ∷ 9 ∷ 9 ∷ 9 ∷ 9 ∷ 9 ∷ 9 ∷ 9 ∷ 9 ∷ 9 ∷ 9 ∷ 9 ∷ 9 ∷ 9 ∷ 9 ∷ 9 ∷ [])
    ≡ words_a
unfolding file_a words_a over byte_at groups number_at layouts role_at count_at field_at cell_at cells_from body_of contents_of read_table
table_a = refl

-- a table one word short
pub short_a : read_answer file_a 29 ≡ refused 4 30
unfolding file_a byte_at groups number_at count_at contents_of read_answer
short_a = refl

-- written from that table
pub written_a : file_of 2 5 0 words_a ≡ file_a
unfolding file_a words_a shortest number_of layouts role_at cell_of cells_of header_of file_of
written_a = refl
