use Rattle.std.specs.Prelude.{All}
use Rattle.std.proofs.lemmas.List.Elements.{All-nil, All-push}
use Rattle.slot_finder.specs.FreeTimes.{AreInOrder}
use Rattle.tests_recurrence.proofs.common_times.runs_of_all.Goals as goal

pub calendars-init : goal.calendars-init
calendars-init c = rw c.new-all.ensures (All-nil AreInOrder)

pub calendars-preserved : goal.calendars-preserved
calendars-preserved c = rw c.in_ok-push.ensures.ok (All-push AreInOrder c.calendars.all c.in_ok-runs_of.field-0 c.calendars.invariant c.in_ok-runs_of.ensures)
