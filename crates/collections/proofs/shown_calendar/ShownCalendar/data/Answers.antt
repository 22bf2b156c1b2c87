use Rattle.std.proofs.Common.{◌≡◌, ◌∙◌, ap}
use Rattle.cal_model.specs.declared.store.CalendarData.{CalendarData}
use Rattle.cal_model.specs.State.StoredData.{data_of}
use Rattle.collections.specs.Calendars.{kept_with}
use Rattle.collections.specs.KeptCalendars.{KeptCalendar, calendar_of}
use Rattle.collections.proofs.shown_calendar.ShownCalendar.data.Goals as goal

abbrev shown : KeptCalendar → CalendarData
shown calendar = data_of calendar.home (calendar_of calendar)

pub returns : goal.returns
returns c =
    let kept = c.self.inside.kept in
    let whole : kept ≡ shown (kept_with c.self.inside.name kept c.self.inside.objects) =
    (λ i. record { owner = kept.owner; acl = kept.acl; kinds = kept.kinds; zone = c.self.invariant.zone i; texts = c.self.invariant.set i }) in
    c.deref.ensures ∙ (whole ∙ ap shown c.self.view_is)
