-- `desk::programs::list` meets its contract.
-- Assumes nothing.
use Rattle.std.proofs.Common.{◌∙◌, sym, ap, arith}
use Rattle.words.specs.Answer.{Answer}
use Rattle.text.specs.Places.{appended}
use Rattle.desk.specs.declared.loading.Graph.{Graph}
use Rattle.desk.specs.Listing.{listing}
use Rattle.desk.specs.Programs.{list_text, text_of}
use Rattle.desk.proofs.Fits.{hardened_room}
use Rattle.desk.proofs.programs.list.Goals as goal

pub listing-requires : goal.listing-requires
listing-requires c = omega (arith, hardened_room c.args.bytes.now c.load.new.self (sym c.in-Ok.ensures))

pub returns-in-Ok : goal.returns-in-Ok
unfolding list_text
returns-in-Ok c =
    c.listing.ensures
    ∙ ap (λ (a : Answer Graph). appended c.args.out.now (text_of a (λ g. listing g.header g.table))) c.in-Ok.ensures

pub returns-in-Err : goal.returns-in-Err
unfolding list_text
returns-in-Err c =
    c.refusal.ensures
    ∙ ap (λ (a : Answer Graph). appended c.args.out.now (text_of a (λ g. listing g.header g.table))) c.in-Err.ensures
