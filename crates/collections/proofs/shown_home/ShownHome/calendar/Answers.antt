use Rattle.std.proofs.Common.{◌∙◌, ap}
use Rattle.cal_base.specs.Lists.NameMap.{value_at}
use Rattle.collections.specs.declared.home.KeptHome.{KeptHome}
use Rattle.collections.proofs.shown_home.ShownHome.calendar.Goals as goal

pub returns : goal.returns
returns c = c.get.ensures ∙ ap (λ calendars. value_at calendars c.args.name.now) (c.deref.ensures ∙ ap (λ (home : KeptHome). home.calendars) c.self.view_is)
