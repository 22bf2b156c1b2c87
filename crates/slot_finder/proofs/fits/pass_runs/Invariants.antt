use Rattle.std.proofs.Common.{length}
use Rattle.slot_finder.proofs.Fitting.{IsFitting}
use Rattle.slot_finder.proofs.fits.pass_runs.Given as goal

abbrev pub invariant-runs : goal.invariant-runs
invariant-runs l = IsFitting l.fn.runs l.rest l.fn.seconds l.fn.at l.found

abbrev pub decreases-runs : goal.decreases-runs
decreases-runs l = length l.rest
