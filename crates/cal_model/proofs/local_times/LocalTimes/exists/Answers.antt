use Rattle.std.proofs.Common.{rules, to_z-of_z, FitsSigned, w64}
use Rattle.cal_model.specs.Values.LocalTimes.{local_seconds}
use Rattle.cal_model.proofs.TimeZones.ConversionLaws.{OnTrue_exists_in, OnFalse_exists_in}
use Rattle.cal_model.proofs.Conversions.SpanLemmas.{spans_kept}
use Rattle.cal_model.proofs.local_times.LocalTimes.exists.Goals as goal

pub exists_in-requires-clause-spans : goal.exists_in-requires-clause-spans
exists_in-requires-clause-spans c =
    spans_kept c.args.self.now.table.now c.args.self.now.spans _ c.as_slice.result.now c.args.self.now.right c.in-Some.is c.as_slice.ensures

pub returns-in-Some-clause-shown : goal.returns-in-Some-clause-shown
returns-in-Some-clause-shown c =
    let fits : FitsSigned w64 c.seconds_of.result = search (rules, c.seconds_of.type_inv) in
    let value = rw (to_z-of_z fits, c.seconds_of.ensures.value) at c.exists_in.ensures in
    OnTrue_exists_in c.args.self.now.table.now (local_seconds c.args.local) c.exists_in.result value

pub returns-in-Some-clause-skipped : goal.returns-in-Some-clause-skipped
returns-in-Some-clause-skipped c =
    let fits : FitsSigned w64 c.seconds_of.result = search (rules, c.seconds_of.type_inv) in
    let value = rw (to_z-of_z fits, c.seconds_of.ensures.value) at c.exists_in.ensures in
    OnFalse_exists_in c.args.self.now.table.now (local_seconds c.args.local) c.exists_in.result value
