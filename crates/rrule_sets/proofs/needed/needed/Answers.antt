use Rattle.std.proofs.Common.{◌∙◌, sym, rules, FitsSigned, w32, to_z-of_z}
use Rattle.override_merge.specs.Conversions.{tables_of}
use Rattle.rrule_sets.proofs.MovedLemmas.{needed-alone, needed-moved}
use Rattle.rrule_sets.proofs.needed.needed.Goals as goal

pub returns-then-has_future-clause-needed : goal.returns-then-has_future-clause-needed
returns-then-has_future-clause-needed g c =
    let fits : FitsSigned w32 c.args.window = search rules in
    let own = simp to_z-of_z at c.with_own_days-range.ensures in
    let all = simp to_z-of_z at c.with_moved.ensures in
    needed-moved (tables_of c.args.zones.now) c.args.ids c.args.window c.args.components.now c.with_own_days-range.result own.window own.days own.least c.with_moved.result all.range all.moved all.days all.least

pub returns-else-has_future-clause-needed : goal.returns-else-has_future-clause-needed
returns-else-has_future-clause-needed g c =
    let fits : FitsSigned w32 c.args.window = search rules in
    let own = simp to_z-of_z at c.with_own_days-range.ensures in
    needed-alone (tables_of c.args.zones.now) c.args.ids c.args.window c.args.components.now c.with_own_days-range.result own.window own.days own.least (sym c.has_future.ensures ∙ c.if-has_future.false)
