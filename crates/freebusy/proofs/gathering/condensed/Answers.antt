use Rattle.std.proofs.Common.{◌∙◌, ap, map}
use Rattle.freebusy.specs.Times.{row_of_run, times_of}
use Rattle.freebusy.proofs.Gatherings.{times_of_runs}
use Rattle.freebusy.proofs.gathering.condensed.Goals as goal

pub returns-in-Ok : goal.returns-in-Ok
returns-in-Ok c =
    ap times_of (c.from_vec.ensures ∙ c.in-Ok.ensures ∙ ap (map row_of_run) c.as_slice.ensures) ∙ times_of_runs c.in_ok-found.found ∙ c.in_ok-found.ensures
