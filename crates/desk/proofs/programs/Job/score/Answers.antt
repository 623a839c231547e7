-- `desk::programs::Job::score` meets its contract: both buffers have the room that was asked for.
-- Assumes nothing.
use Rattle.std.proofs.Common.{◌∙◌, sym, ap}
use Rattle.text.specs.Places.{appended}
use Rattle.desk.proofs.Answers.{score_text, room_lent}
use Rattle.desk.proofs.programs.Job.score.Goals as goal

pub slice_bounds-score_in-end : goal.slice_bounds-score_in-end
slice_bounds-score_in-end c = sym (room_lent c.args.self.now.settings c.zeros-first.ensures)

pub score_in-requires : goal.score_in-requires
score_in-requires c =
    let s = c.args.self.now.settings in
    room_lent s c.zeros-second.ensures ∙ sym (room_lent s c.zeros-first.ensures)

pub returns-in-Ok : goal.returns-in-Ok
returns-in-Ok c =
    let room = room_lent c.args.self.now.settings c.zeros-first.ensures in
    c.score.ensures ∙ ap (appended c.args.out.now) (score_text c.args.self.now _ room _ c.in-Ok.ensures)

pub returns-in-Err : goal.returns-in-Err
returns-in-Err c =
    let room = room_lent c.args.self.now.settings c.zeros-first.ensures in
    c.refusal.ensures ∙ ap (appended c.args.out.now) (score_text c.args.self.now _ room _ c.in-Err.ensures)
