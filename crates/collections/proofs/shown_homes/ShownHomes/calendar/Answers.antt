use Rattle.std.proofs.Common.{◌∙◌, ap}
use Rattle.collections.specs.Kept.{kept_calendar}
use Rattle.collections.proofs.shown_homes.ShownHomes.calendar.Goals as goal

pub returns : goal.returns
returns c = c.calendar_in.ensures ∙ ap (λ homes. kept_calendar homes c.args.home c.args.name.now) (c.deref.ensures.value ∙ c.self.view_is)
