use Rattle.std.proofs.Common.{rules, to_z-of_z, FitsSigned, w64}
use Rattle.cal_model.specs.Values.LocalTimes.{local_seconds}
use Rattle.cal_model.proofs.TimeZones.Instants.{instant_of-is}
use Rattle.cal_model.proofs.Conversions.SpanLemmas.{spans_kept}
use Rattle.cal_model.proofs.local_times.LocalTimes.to_utc.Goals as goal

pub instant_in-requires-clause-spans : goal.instant_in-requires-clause-spans
instant_in-requires-clause-spans c =
    spans_kept c.args.self.now.table.now c.args.self.now.spans _ c.as_slice.result.now c.args.self.now.right c.in-Some.is c.as_slice.ensures

pub returns-in-Some-clause-meaning : goal.returns-in-Some-clause-meaning
returns-in-Some-clause-meaning c =
    let fits : FitsSigned w64 c.seconds_of.result = search (rules, c.seconds_of.type_inv) in
    let result_fits : FitsSigned w64 c.instant_in.result = search (rules, c.instant_in.type_inv) in
    let value = rw (to_z-of_z fits, c.seconds_of.ensures.value) at c.instant_in.ensures in
    rw (to_z-of_z result_fits, value) (instant_of-is c.args.self.now.table.now (local_seconds c.args.local) c.args.self.now.zone.rising)
