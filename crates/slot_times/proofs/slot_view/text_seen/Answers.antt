use Rattle.std.proofs.Common.{List, sym, subst}
use Rattle.std.specs.Prelude.{All, ◌*◌}
use Rattle.slot_times.specs.SlotCalendars.{IsThere, times_of}
use Rattle.slot_times.specs.SlotAnswers.{IsTextOf, asked_in}
use Rattle.slot_times.specs.declared.slot_calendars.CalendarPlace.{CalendarPlace}
use Rattle.slot_times.proofs.SlotFound.{told_seen, word_hidden}
use Rattle.slot_times.proofs.SlotPaths.{all_there}
use Rattle.slot_times.proofs.slot_view.text_seen.Goals as goal

pub told_times-requires-clause-there : goal.told_times-requires-clause-there
told_times-requires-clause-there g c =
    let seen = c.args.seen.now in
    let directory = g.V.View.directory seen.view.now in
    let state = g.V.View.state seen.view.now in
    subst (All (IsThere state)) (sym c.as_slice.ensures) (all_there directory state seen.who c.args.question.now.paths.now c.in-Ok.calendars c.in-Ok.ensures.1)

pub returns-in-Ok : goal.returns-in-Ok
returns-in-Ok g c =
    let seen = c.args.seen.now in
    let directory = g.V.View.directory seen.view.now in
    let state = g.V.View.state seen.view.now in
    let asked = asked_in c.args.question.now in
    told_seen directory state asked seen.who c.in-Ok.calendars c.told_times.result c.requires.named c.in-Ok.ensures
    (subst (λ (places : List CalendarPlace). IsTextOf (times_of state places asked.range (60 * asked.minutes) asked.most) c.told_times.result) c.as_slice.ensures c.told_times.ensures)

pub returns-in-Err : goal.returns-in-Err
returns-in-Err g c =
    let seen = c.args.seen.now in
    let directory = g.V.View.directory seen.view.now in
    let state = g.V.View.state seen.view.now in
    word_hidden directory state (asked_in c.args.question.now) seen.who c.in-Err.unseen c.requires.named c.in-Err.ensures
