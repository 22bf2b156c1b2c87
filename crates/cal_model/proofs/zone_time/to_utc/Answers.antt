use Rattle.std.proofs.Common.{rules, to_z-of_z, FitsSigned, w64}
use Rattle.cal_model.proofs.TimeZones.Instants.{IsInstantOf-instant_of}
use Rattle.cal_model.proofs.zone_time.to_utc.Goals as goal

pub returns-clause-meaning : goal.returns-clause-meaning
returns-clause-meaning c =
    let fits : FitsSigned w64 c.seconds_of.result = search (rules, c.seconds_of.type_inv) in
    let result_fits : FitsSigned w64 c.instant_at.result = search (rules, c.instant_at.type_inv) in
    let made = rw (to_z-of_z fits, c.seconds_of.ensures.value) at c.instant_at.ensures in
    rw (to_z-of_z result_fits) made

pub returns-clause-value : goal.returns-clause-value
returns-clause-value c =
    let fits : FitsSigned w64 c.seconds_of.result = search (rules, c.seconds_of.type_inv) in
    let result_fits : FitsSigned w64 c.instant_at.result = search (rules, c.instant_at.type_inv) in
    let made = rw (to_z-of_z fits, c.seconds_of.ensures.value) at c.instant_at.ensures in
    rw (to_z-of_z result_fits) (IsInstantOf-instant_of c.args.table.now _ c.instant_at.result c.requires.rising made)
