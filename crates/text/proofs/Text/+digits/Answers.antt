-- `text::Text::digits` meets its contract.
-- Assumes nothing.
use Rattle.std.proofs.Common.{◌≤◌, ◌<◌, ◌⊎◌, inl, inr}
use Rattle.text.proofs.Decimals.{last_only, digits_more}
use Rattle.text.proofs.Text.+digits.Goals.{then-more-gt0+then-n-ge10, else-more-gt0, else-more-gt0-via-then-more-gt0+else-n-ge10, else-more-gt0-via-else-more-gt0}
use Rattle.text.proofs.Text.+digits.Goals as goal

pub returns : goal.returns
returns t c =
    elim c.if-more-gt0.branch [
      | then-more-gt0+then-n-ge10 w ↦
          cc (digits_more c.args.self.now c.args.more c.args.n w.if-more-gt0.true w.if-n-ge10.true)
      | else-more-gt0 w ↦
          let alone : (c.args.more ≤ 0) ⊎ (c.args.n < 10) =
          elim w.else-more-gt0.branch [
            | else-more-gt0-via-then-more-gt0+else-n-ge10 v ↦ inr v.if-n-ge10.false
            | else-more-gt0-via-else-more-gt0 v ↦ inl v.if-more-gt0.false
          ] in
          cc (last_only c.args.more c.args.n alone)
    ]
