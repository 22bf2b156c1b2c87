use Rattle.std.proofs.Common.{◌∙◌, ap}
use Rattle.cal_base.specs.Lists.NameMap.{next_above}
use Rattle.collections.specs.declared.home.KeptHome.{KeptHome}
use Rattle.collections.proofs.shown_home.ShownHome.next_calendar.Goals as goal

pub returns : goal.returns
returns c = c.next_above.ensures ∙ ap (λ calendars. next_above calendars c.args.name.now) (c.deref.ensures ∙ ap (λ (home : KeptHome). home.calendars) c.self.view_is)
