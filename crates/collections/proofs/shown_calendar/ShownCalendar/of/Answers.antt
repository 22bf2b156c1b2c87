use Rattle.std.proofs.Common.{sym, subst}
use Rattle.cal_base.specs.Lists.NameMap.{Named}
use Rattle.cal_model.specs.declared.store.CalendarData.{CalendarData}
use Rattle.object_walk.specs.declared.entry.ObjectEntry.{ObjectEntry}
use Rattle.collections.specs.Calendars.{IsShownCalendar}
use Rattle.collections.proofs.shown_calendar.ShownCalendar.of.Goals as goal

pub invariant_of-result : goal.invariant_of-result
invariant_of-result c =
    subst (λ (kept : CalendarData). IsShownCalendar c.args.name kept c.in_ok-objects.objects) (sym c.in_ok-kept.ensures)
    (subst (λ (objects : Named ObjectEntry). IsShownCalendar c.args.name c.args.kept objects) (sym c.in_ok-objects.ensures) c.requires)
