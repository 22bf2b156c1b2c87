use Rattle.std.proofs.Common.{rules, FitsSigned, w64, to_z-of_z}
use Rattle.rrule_sets.proofs.TableLemmas.{end_written}
use Rattle.rrule_sets.proofs.tables.own_end.Goals as goal

pub returns-in-End : goal.returns-in-End
returns-in-End c =
    let fits : FitsSigned w64 c.value_of.result = search (rules, c.value_of.type_inv) in
    simp to_z-of_z (rw c.value_of.ensures.value (end_written c.args.zones.now c.args.stamp c.in-End.end c.args.extent c.args.start c.in-End.is c.requires.start))
