use Rattle.std.proofs.Common.{◌≡◌, [], length}
use Rattle.cal_model.specs.State.NameWalks.{calendars_above}
use Rattle.request_checks.specs.Walks.{any_held}
use Rattle.request_checks.proofs.walks.shows_a_calendar.Given as goal

-- nothing is held on what the walk has met
abbrev pub invariant-calendars : goal.invariant-calendars
invariant-calendars g l =
    any_held (g.V.View.directory l.view) l.owner l.who (calendars_above (g.V.View.state l.view) l.owner []) ≡ any_held (g.V.View.directory l.view) l.owner l.who (calendars_above (g.V.View.state l.view) l.owner l.last)

abbrev pub decreases-calendars : goal.decreases-calendars
decreases-calendars g l = length (calendars_above (g.V.View.state l.view) l.owner l.last)
