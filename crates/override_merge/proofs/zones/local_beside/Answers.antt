use Rattle.std.proofs.Common.{rules, FitsSigned, w64, to_z-of_z}
use Rattle.override_merge.proofs.ZoneLemmas.{shown_near}
use Rattle.override_merge.proofs.zones.local_beside.Goals as goal

pub returns-in-Zoned-clause-near : goal.returns-in-Zoned-clause-near
returns-in-Zoned-clause-near c =
    let instant_fits : FitsSigned w64 c.args.instant = search rules in
    let result_fits : FitsSigned w64 c.shown.result = search (rules, c.shown.type_inv) in
    let value = simp to_z-of_z at c.shown.ensures in
    simp to_z-of_z (rw value (shown_near c.index-zones-number.result c.args.instant))
