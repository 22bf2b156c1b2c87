-- The runs that a report lists are those of the calendar's busy times: a range that is not refused lies in the dates that are served, where the class that is shown is the class.
use Rattle.std.proofs.Common.{None, arith}
use Rattle.std.proofs.lemmas.Int.{ints}
use Rattle.cal_model.specs.Busy.BusyRuns.{class_at, calendar_times}
use Rattle.cal_model.specs.Reports.FloatingZone.{floating_zone}
use Rattle.cal_model.specs.State.ServerState.{objects_of, own_zone}
use Rattle.cal_model.specs.Sight.Views.{served_class}
use Rattle.cal_model.specs.Serving.ServingLaws.{ShownRunsAreTheCalendars}
use Rattle.cal_model.proofs.Busy.BusyRunLaws.{runs_of_classes-same}
use Rattle.cal_model.proofs.Sight.ViewLaws.{class_served}

pub shown_runs_are_the_calendars : ShownRunsAreTheCalendars
shown_runs_are_the_calendars calendar range from_first to_last =
    runs_of_classes-same (served_class calendar) (class_at (calendar_times (floating_zone None (own_zone calendar.texts)) (objects_of calendar.objects))) range
    (λ t from to. class_served calendar t (grind (arith, ints)) (grind (arith, ints)))
