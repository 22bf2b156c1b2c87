use Rattle.std.proofs.Common.{sym, subst}
use Rattle.cal_base.specs.Lists.NameMap.{Named}
use Rattle.object_walk.specs.declared.entry.ObjectEntry.{ObjectEntry}
use Rattle.collections.specs.Calendars.{IsShownCalendar}
use Rattle.collections.proofs.CalendarLemmas.{taken_shown}
use Rattle.collections.proofs.ShownLemmas.{IsShownCalendar-without}
use Rattle.collections.proofs.shown_calendar.ShownCalendar.take.Goals as goal

pub invariant_of-self : goal.invariant_of-self
invariant_of-self c = subst (λ (objects : Named ObjectEntry). IsShownCalendar c.self.inside.name c.self.inside.kept objects) (sym c.in_err-take_from_shown.ensures.err) c.self.invariant

pub invariant_of-self-2 : goal.invariant_of-self-2
invariant_of-self-2 c =
    subst (λ (objects : Named ObjectEntry). IsShownCalendar c.self.inside.name c.self.inside.kept objects) (sym c.in_ok-take_from_shown.ensures.ok)
    (IsShownCalendar-without c.self.inside.name c.self.inside.kept c.self.inside.objects c.self.invariant c.args.name.now)

pub returns-clause-ok : goal.returns-clause-ok
returns-clause-ok c =
    taken_shown c.self.inside.name c.self.inside.kept c.self.inside.objects c.take_from_shown.new.objects c.args.self.now c.self.view_is c.args.name.now c.in_ok-take_from_shown.ensures.ok
