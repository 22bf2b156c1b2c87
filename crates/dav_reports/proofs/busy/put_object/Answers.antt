use Rattle.std.proofs.lemmas.Result.{on_ok_weaker}
use Rattle.cal_model.specs.declared.report.ReportRequest.TheVariants.{FreeBusy}
use Rattle.cal_model.specs.Reports.NeededWindows.{windows_needed}
use Rattle.freebusy.proofs.Gatherings.{Gathers-more}
use Rattle.dav_reports.specs.ObjectTimes.{stored_times, times_in}
use Rattle.dav_reports.proofs.KeptObjects.{stored_near}
use Rattle.dav_reports.proofs.busy.put_object.Goals as goal

pub put_stored-requires : goal.put_stored-requires
put_stored-requires g c = rw c.as_slice.ensures (stored_near c.args.object.now c.requires.object)

pub returns-clause-times : goal.returns-clause-times
returns-clause-times g c =
    let object = c.args.object.now in
    on_ok_weaker c.put_stored.result
    (λ put. Gathers-more c.args.out.now c.put_needed.new.out c.put_stored.new.out (times_in c.args.zone.now object (windows_needed object (FreeBusy c.args.range))) (stored_times object.components) c.in_ok-put_needed.ensures.times put)
    (rw c.as_slice.ensures at c.put_stored.ensures)
