use Rattle.std.proofs.Common.{◌∙◌, ap}
use Rattle.cal_model.specs.declared.store.CalendarData.{CalendarData}
use Rattle.collections.proofs.ShownLemmas.{IsShownCalendar-granted, granted_shown}
use Rattle.collections.proofs.shown_calendar.ShownCalendar.set_grants.Goals as goal

pub invariant_of-self : goal.invariant_of-self
invariant_of-self c =
    let granted = c.in_ok-kept.ensures ∙ ap {B = CalendarData} (λ (kept : CalendarData). record kept { acl = record { grants = c.args.grants.now } }) c.deref.ensures in
    IsShownCalendar-granted c.self.inside.name c.self.inside.kept c.self.inside.objects c.self.invariant c.args.grants.now c.in_ok-kept.kept granted

pub returns-clause-ok : goal.returns-clause-ok
returns-clause-ok c =
    let granted = c.in_ok-kept.ensures ∙ ap {B = CalendarData} (λ (kept : CalendarData). record kept { acl = record { grants = c.args.grants.now } }) c.deref.ensures in
    granted_shown c.self.inside.name c.self.inside.kept c.self.inside.objects c.args.self.now c.self.view_is c.args.grants.now c.in_ok-kept.kept granted
