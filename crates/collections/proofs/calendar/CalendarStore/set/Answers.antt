use Rattle.std.proofs.Common.{sym, subst}
use Rattle.cal_model.specs.declared.store.CalendarData.{CalendarData}
use Rattle.collections.specs.Calendars.{IsCalendar}
use Rattle.collections.proofs.CalendarLemmas.{without_index, with_index}
use Rattle.collections.proofs.SetLemmas.{set_calendar, set_shown}
use Rattle.collections.proofs.calendar.CalendarStore.set.Goals as goal

pub invariant_of-self : goal.invariant_of-self
invariant_of-self c = subst (λ (kept : CalendarData). IsCalendar c.self.inside.name kept c.self.inside.by_name c.self.inside.by_uid) (sym c.in_err-set_data.ensures.err) c.self.invariant

pub invariant_of-self-2 : goal.invariant_of-self-2
invariant_of-self-2 c =
    with_index (set_calendar c.self.inside.name c.self.inside.kept c.self.inside.by_name (without_index c.self.invariant) c.args.sets.now c.set_data.new.kept c.in_ok-set_data.ensures.ok) c.self.invariant.indexed

pub returns-clause-ok : goal.returns-clause-ok
returns-clause-ok c =
    set_shown c.self.inside.name c.self.inside.kept c.self.inside.by_name (without_index c.self.invariant) c.args.sets.now c.set_data.new.kept c.in_ok-set_data.ensures.ok c.args.self.now c.self.view_is
