-- `bench::runner::Runner::refer` meets its contract: what the trial run kept is copied, or the run made again. Assumes nothing.
use Rattle.std.proofs.Common.{sym, ◌∙◌, length-take-le}
use Rattle.bench.proofs.Campaigned.{tried_fits, tried_copied}
use Rattle.bench.proofs.runner.Runner.refer.Goals as goal

pub slice_bounds-copy_from_slice-end : goal.slice_bounds-copy_from_slice-end
slice_bounds-copy_from_slice-end c = tried_fits _ _ _ c.requires.tried _ c.requires.room

pub slice_bounds-copy_from_slice-end-then-words-trial : goal.slice_bounds-copy_from_slice-end-then-words-trial
slice_bounds-copy_from_slice-end-then-words-trial c = sym (length-take-le _ _ (tried_fits _ _ _ c.requires.tried _ c.requires.room))

pub copy_from_slice-requires : goal.copy_from_slice-requires
copy_from_slice-requires c =
    length-take-le _ _ (tried_fits _ _ _ c.requires.tried _ c.requires.room) ∙ sym (length-take-le _ _ c.if-words-trial.true)

pub returns-then-words-trial : goal.returns-then-words-trial
returns-then-words-trial c = rw c.copy_from_slice.ensures.after (tried_copied _ _ _ c.requires.tried _ c.requires.room c.if-words-trial.true)
