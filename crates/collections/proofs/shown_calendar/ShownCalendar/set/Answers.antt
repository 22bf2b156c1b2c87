use Rattle.std.proofs.Common.{subst}
use Rattle.cal_model.specs.declared.store.CalendarData.{CalendarData}
use Rattle.collections.specs.Settings.{HasSet}
use Rattle.collections.proofs.SetLemmas.{set_calendar, set_shown}
use Rattle.collections.proofs.shown_calendar.ShownCalendar.set.Goals as goal

pub invariant_of-self : goal.invariant_of-self
invariant_of-self c =
    let done = subst (λ (kept : CalendarData). HasSet kept c.args.sets.now c.in_ok-kept.kept) c.deref.ensures c.in_ok-kept.ensures in
    set_calendar c.self.inside.name c.self.inside.kept c.self.inside.objects c.self.invariant c.args.sets.now c.in_ok-kept.kept done

pub returns-clause-ok : goal.returns-clause-ok
returns-clause-ok c =
    let done = subst (λ (kept : CalendarData). HasSet kept c.args.sets.now c.in_ok-kept.kept) c.deref.ensures c.in_ok-kept.ensures in
    set_shown c.self.inside.name c.self.inside.kept c.self.inside.objects c.self.invariant c.args.sets.now c.in_ok-kept.kept done c.args.self.now c.self.view_is
