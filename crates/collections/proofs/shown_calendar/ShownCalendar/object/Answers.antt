use Rattle.std.proofs.Common.{◌∙◌, ap, sym}
use Rattle.std.specs.Prelude.{option_map}
use Rattle.cal_base.specs.Lists.NameMap.{value_at}
use Rattle.collections.specs.Calendars.{kept_entry}
use Rattle.collections.proofs.CalendarLemmas.{place_shown, object_shown}
use Rattle.collections.proofs.shown_calendar.ShownCalendar.object.Goals as goal

pub returns-in-Some-clause-object : goal.returns-in-Some-clause-object
returns-in-Some-clause-object c =
    ap (option_map kept_entry) c.in-Some.ensures
    ∙ object_shown c.self.inside.name c.self.inside.kept c.self.inside.objects c.self.invariant c.args.self.now c.self.view_is c.args.name.now

pub returns-in-Some-clause-place : goal.returns-in-Some-clause-place
returns-in-Some-clause-place c =
    place_shown c.self.inside.name c.self.inside.kept c.self.inside.objects c.self.invariant c.args.self.now c.self.view_is c.args.name.now c.in-Some.entry.now
    (sym c.in-Some.ensures)

pub returns-in-None-clause-object : goal.returns-in-None-clause-object
returns-in-None-clause-object c =
    ap (option_map kept_entry) c.in-None.ensures
    ∙ object_shown c.self.inside.name c.self.inside.kept c.self.inside.objects c.self.invariant c.args.self.now c.self.view_is c.args.name.now
