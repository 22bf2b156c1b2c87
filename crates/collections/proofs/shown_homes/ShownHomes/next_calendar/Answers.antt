use Rattle.std.proofs.Common.{◌∙◌, ap}
use Rattle.std.specs.Prelude.{slice_get, option_and_then}
use Rattle.cal_base.specs.Lists.NameMap.{next_above}
use Rattle.collections.specs.declared.home.KeptHome.{KeptHome}
use Rattle.collections.proofs.shown_homes.ShownHomes.next_calendar.Goals as goal

pub returns : goal.returns
returns c =
    c.next_calendar_in.ensures
    ∙ ap (λ homes. option_and_then (λ (h : KeptHome). next_above h.calendars c.args.name.now) (slice_get homes c.args.home)) (c.deref.ensures.value ∙ c.self.view_is)
