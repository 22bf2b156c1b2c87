use Rattle.std.proofs.Common.{rules, FitsSigned, w64, to_z-of_z}
use Rattle.override_merge.specs.Conversions.{tables_of}
use Rattle.rrule_sets.proofs.DateStarts.{short_tables, date_start_near}
use Rattle.rrule_sets.proofs.asked.date_start.Goals as goal

pub returns-clause-near : goal.returns-clause-near
returns-clause-near c =
    let fits : FitsSigned w64 c.start_on.result = search (rules, c.start_on.type_inv) in
    simp to_z-of_z (rw (c.start_on.ensures, c.align.ensures.value) (date_start_near (tables_of c.args.zones.now) c.args.stamp c.args.date (short_tables c.args.zones.now) c.requires.date.near))
