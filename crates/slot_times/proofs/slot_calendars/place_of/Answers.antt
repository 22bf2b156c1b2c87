use Rattle.std.proofs.Common.{sym, subst}
use Rattle.slot_times.specs.SlotCalendars.{IsSeenAt}
use Rattle.slot_times.proofs.SlotSeen.{no_place}
use Rattle.slot_times.proofs.slot_calendars.place_of.Goals as goal

pub returns-in-Some : goal.returns-in-Some
returns-in-Some g c =
    let seen = c.args.seen.now in
    subst (IsSeenAt (g.V.View.directory seen.view.now) (g.V.View.state seen.view.now) seen.who c.args.path) (sym c.named_in.ensures) c.in-Some.ensures

pub returns-in-None : goal.returns-in-None
returns-in-None g c =
    let seen = c.args.seen.now in
    subst (IsSeenAt (g.V.View.directory seen.view.now) (g.V.View.state seen.view.now) seen.who c.args.path) (no_place c.args.path) c.in-None.ensures
