-- Text written upward into a buffer of bytes: what does not fit is lost.
-- Assumes nothing.
use Rattle.std.specs.Prelude.{ℕ, ◌+◌, ◌≡◌, cond, List, length, leb}
use Rattle.words.specs.Buffer.{put}
use Rattle.text.specs.declared.Text.{Text}

-- the place after a text of this length, or the buffer's end where it does not fit
unfoldable pub place_after : ℕ → ℕ → ℕ → ℕ
place_after room at size = cond (leb (at + size) room) (at + size) room

-- what writing a text at a place leaves in the buffer, and the place after it
pub record Wrote (before : List ℕ) (at : ℕ) (text : List ℕ) (after : List ℕ) (place : ℕ) : Type 0 where
  pub place_is : place ≡ place_after (length before) at (length text)
  pub buffer_is : after ≡ put before at text

-- the same of a buffer and a place that go together: the text in the same buffer, and the place after it
unfoldable pub appended : Text → List ℕ → Text
appended t text = record { out = record t.out { now = put t.out.now t.at text }; at = place_after (length t.out.now) t.at (length text) }
