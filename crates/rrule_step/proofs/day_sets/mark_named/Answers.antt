use Rattle.std.proofs.Common.{◌≡◌, arith, rules, w16, to_z, of_z}
use Rattle.std.specs.Prelude.{FitsSigned}
use Rattle.std.proofs.lemmas.Int.{to_z-of_z}
use Rattle.rrule_step.proofs.DaySetLemmas.{one_marked}
use Rattle.rrule_step.proofs.day_sets.mark_named.Goals as goal

pub returns-in-Some : goal.returns-in-Some
returns-in-Some c = λ i lt.
    let fits : FitsSigned w16 c.args.number = search rules in
    let same : to_z w16 (of_z w16 c.args.number) ≡ c.args.number = to_z-of_z w16 c.args.number fits in
    let named = rw same at c.in-Some.ensures in
    one_marked c.args.table.now c.in-Some.place i _ (omega (arith, named, c.requires)) (named.1 i lt)
