use Rattle.std.proofs.lemmas.Result.{IfOk-weaker}
use Rattle.std.specs.Prelude.{map}
use Rattle.std.proofs.Common.{◌≡◌}
use Rattle.cal_model.specs.Busy.BusyRuns.{runs}
use Rattle.freebusy.specs.Times.{time_of_run, times_of}
use Rattle.slot_finder.specs.FreeTimes.{AreInOrder}
use Rattle.slot_finder.proofs.OrderedRuns.{runs_in_order}
use Rattle.tests_recurrence.proofs.common_times.runs_of.Goals as goal

pub returns : goal.returns
returns c =
    IfOk-weaker c.busy_runs.result (λ found. map time_of_run found ≡ runs (times_of c.loop-class.rows) c.args.range) AreInOrder (λ found is. runs_in_order (times_of c.loop-class.rows) c.args.range found is) c.busy_runs.ensures
