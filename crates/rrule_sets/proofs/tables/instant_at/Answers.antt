use Rattle.std.proofs.Common.{rules, FitsSigned, w64, to_z-of_z}
use Rattle.rrule_sets.proofs.TableLemmas.{instant_near}
use Rattle.rrule_sets.proofs.tables.instant_at.Goals as goal

pub returns-clause-near : goal.returns-clause-near
returns-clause-near c =
    let digits_fit : FitsSigned w64 c.args.digits = search rules in
    let result_fits : FitsSigned w64 c.to_utc.result.0 = search (rules, c.to_utc.type_inv) in
    let local = simp to_z-of_z at c.local_of.ensures.value in
    simp to_z-of_z (rw (c.to_utc.ensures.value, local) (instant_near c.args.table.now c.args.digits c.requires.table))
