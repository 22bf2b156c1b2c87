use Rattle.std.proofs.Common.{arith, ◌∙◌, rules, FitsSigned, w64, to_z-of_z, of_z}
use Rattle.std.proofs.lemmas.Int.{ints}
use Rattle.std.proofs.Common.{ℤ, Some, None, ◌≡◌, ◌-ℤ◌, subst, to_z}
use Rattle.cal_model.specs.TimeZones.Zones.{instants_of, after_gap, onsets_past}
use Rattle.filter_eval.specs.Instants.{least_there}
use Rattle.filter_eval.proofs.LeastInstants.{found_least, none_least}
use Rattle.filter_eval.proofs.ends.far_instant.Goals as goal

pub returns-in-Some : goal.returns-in-Some
returns-in-Some c =
    let fits : FitsSigned w64 c.args.digits = search rules in
    let made : FitsSigned w64 c.in-Some.instant = search rules in
    let whole : to_z w64 (of_z w64 c.args.digits) ≡ c.args.digits = to_z-of_z fits in
    let found = subst (λ (z : ℤ). Some c.in-Some.instant ≡ least_there (instants_of c.args.zone.now z)) whole c.in-Some.ensures in
    simp to_z-of_z (found_least c.args.zone.now c.args.digits c.in-Some.instant found)

pub returns-in-None : goal.returns-in-None
returns-in-None c =
    let fits : FitsSigned w64 c.args.digits = search rules in
    let whole : to_z w64 (of_z w64 c.args.digits) ≡ c.args.digits = to_z-of_z fits in
    let none = subst (λ (z : ℤ). None ≡ least_there (instants_of c.args.zone.now z)) whole c.in-None.ensures in
    let gap = subst (λ (z : ℤ). z -ℤ c.offset_before_gap.result ≡ after_gap c.args.zone.now z (onsets_past c.args.zone.now z)) whole c.offset_before_gap.ensures in
    let after = gap ∙ none_least c.args.zone.now c.args.digits none in
    omega (arith, ints, after)
