use Rattle.std.proofs.Common.{◌∙◌, ap, sym, subst}
use Rattle.cal_base.specs.Lists.NameMap.{Named}
use Rattle.object_walk.specs.declared.entry.ObjectEntry.{ObjectEntry}
use Rattle.collections.specs.Calendars.{IsShownCalendar}
use Rattle.collections.specs.KeptCalendars.{KeptCalendar}
use Rattle.collections.proofs.CalendarLemmas.{put_shown}
use Rattle.collections.proofs.ShownLemmas.{IsShownCalendar-put}
use Rattle.collections.proofs.shown_calendar.ShownCalendar.put.Goals as goal

pub invariant_of-self : goal.invariant_of-self
invariant_of-self c = subst (λ (objects : Named ObjectEntry). IsShownCalendar c.self.inside.name c.self.inside.kept objects) (sym c.in_err-put_in_shown.ensures.err) c.self.invariant

pub invariant_of-self-2 : goal.invariant_of-self-2
invariant_of-self-2 c =
    let entry : ObjectEntry = record { stored = c.args.stored.now; origin = c.args.origin } in
    subst (λ (objects : Named ObjectEntry). IsShownCalendar c.self.inside.name c.self.inside.kept objects) (sym c.in_ok-put_in_shown.ensures.ok)
    (IsShownCalendar-put c.self.inside.name c.self.inside.kept c.self.inside.objects c.self.invariant entry
    (c.requires.place.home_is ∙ sym (ap (λ (k : KeptCalendar). k.home) c.self.view_is)) (c.requires.place.calendar_is ∙ sym (ap (λ (k : KeptCalendar). k.name) c.self.view_is)))

pub returns-clause-ok : goal.returns-clause-ok
returns-clause-ok c =
    put_shown c.self.inside.name c.self.inside.kept c.self.inside.objects c.put_in_shown.new.objects c.args.self.now c.self.view_is c.args.stored.now.path.object (record { stored = c.args.stored.now; origin = c.args.origin }) c.in_ok-put_in_shown.ensures.ok
