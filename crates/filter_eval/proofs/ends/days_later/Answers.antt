use Rattle.std.proofs.Common.{arith, ap, ◌∙◌, rules, FitsSigned, w64, to_z-of_z}
use Rattle.std.proofs.lemmas.Int.{ints}
use Rattle.std.proofs.Common.{ℤ, ◌+ℤ◌}
use Rattle.cal_model.specs.TimeZones.Zones.{instant_of, offset_at}
use Rattle.filter_eval.proofs.ends.days_later.Goals as goal

pub returns-clause-value : goal.returns-clause-value
returns-clause-value c =
    let fits : FitsSigned w64 c.args.digits = search rules in
    let first : FitsSigned w64 c.instant_of-instant.result = search (rules, c.instant_of-instant.type_inv) in
    let last : FitsSigned w64 c.instant_of.result = search (rules, c.instant_of.type_inv) in
    let instant = simp to_z-of_z at c.instant_of-instant.ensures.value in
    let shown = simp to_z-of_z at c.local_at.ensures.value in
    let local = shown ∙ ap (λ (u : ℤ). u +ℤ offset_at c.args.zone.now u) instant in
    to_z-of_z last ∙ (c.instant_of.ensures.value ∙ ap (instant_of c.args.zone.now) (omega (arith, ints, local)))
