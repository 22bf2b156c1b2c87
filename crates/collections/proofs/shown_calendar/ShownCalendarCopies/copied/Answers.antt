use Rattle.std.proofs.Common.{◌∙◌, ℕ, List, sym, subst}
use Rattle.cal_base.specs.Lists.NameMap.{Named}
use Rattle.cal_model.specs.declared.store.CalendarData.{CalendarData}
use Rattle.object_walk.specs.declared.entry.ObjectEntry.{ObjectEntry}
use Rattle.collections.specs.Calendars.{kept_with, IsShownCalendar}
use Rattle.collections.proofs.shown_calendar.ShownCalendarCopies.copied.Goals as goal

pub invariant_of-result : goal.invariant_of-result
invariant_of-result c =
    subst (λ (name : List ℕ). IsShownCalendar name c.in_ok-kept.kept c.in_ok-objects.objects) (sym c.in_ok-name.ensures)
    (subst (λ (kept : CalendarData). IsShownCalendar c.self.inside.name kept c.in_ok-objects.objects) (sym c.in_ok-kept.ensures)
    (subst (λ (objects : Named ObjectEntry). IsShownCalendar c.self.inside.name c.self.inside.kept objects) (sym c.in_ok-objects.ensures) c.self.invariant))

pub returns : goal.returns
returns c = (λ i. kept_with (c.in_ok-name.ensures i) (c.in_ok-kept.ensures i) (c.in_ok-objects.ensures i)) ∙ c.self.view_is
