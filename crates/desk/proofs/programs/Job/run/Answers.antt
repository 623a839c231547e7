-- `desk::programs::Job::run` meets its contract: the answer and the buffer hold what the text says.
-- Assumes nothing.
use Rattle.std.proofs.Common.{◌∙◌, ◌*◌, sym, ap, arith}
use Rattle.std.proofs.Math.Seq.{length-take-le}
use Rattle.text.specs.Places.{appended}
use Rattle.desk.proofs.Answers.{words_fit, ran_text, refused_text, room_lent}
use Rattle.desk.proofs.programs.Job.run.Goals as goal

pub overflow_mul-a : goal.overflow_mul-a
overflow_mul-a c =
    let s = c.args.self.now.settings in
    omega (arith, words_fit c.args.self.now c.args.fault _ (room_lent s c.zeros-space.ensures) c.in-Ok.a c.in-Ok.ensures.value, s.room_in)

pub slice_bounds-ran-end : goal.slice_bounds-ran-end
slice_bounds-ran-end c =
    let room = room_lent c.args.self.now.settings c.zeros-space.ensures in
    let fit = words_fit c.args.self.now c.args.fault _ room c.in-Ok.a c.in-Ok.ensures.value in
    sym (length-take-le (2 * c.in-Ok.a.events) c.run_in.new.events (omega (arith, fit, room, c.run_in.auto.events)))

pub returns-in-Ok : goal.returns-in-Ok
returns-in-Ok c =
    let room = room_lent c.args.self.now.settings c.zeros-space.ensures in
    let told = ran_text c.args.self.now c.args.fault _ room c.in-Ok.a c.run_in.new.events in
    c.ran.ensures ∙ ap (appended c.args.out.now) (told c.in-Ok.ensures.value c.run_in.ensures.events_after)

pub returns-in-Err : goal.returns-in-Err
returns-in-Err c =
    let room = room_lent c.args.self.now.settings c.zeros-space.ensures in
    c.refusal.ensures ∙ ap (appended c.args.out.now) (refused_text c.args.self.now c.args.fault _ room _ _ c.in-Err.ensures.value)
