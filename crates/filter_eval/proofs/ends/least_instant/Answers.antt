use Rattle.std.proofs.Common.{◌≡◌, ◌∷◌, ap, sym, subst, ◌∙◌, FitsSigned, w32, w64, rules, to_z, of_z, to_z-of_z, Option, ℤ, List}
use Rattle.cal_model.specs.declared.zone.Onset.{Onset}
use Rattle.cal_model.specs.TimeZones.Zones.{instants_of}
use Rattle.filter_eval.specs.Instants.{least_there, lesser}
use Rattle.filter_eval.proofs.LeastInstants.{least_begun, least_goes_on, least_done, made_by, offsets_of}
use Rattle.filter_eval.proofs.ends.least_instant.Goals as goal

pub onsets-init : goal.onsets-init
onsets-init c =
    let fits : FitsSigned w64 c.args.digits = search rules in
    let small : FitsSigned w32 c.args.zone.now.before = search rules in
    let whole : to_z w64 (of_z w64 c.args.digits) ≡ c.args.digits = to_z-of_z fits in
    let first = simp to_z-of_z at c.instant_by-least.ensures in
    subst (λ (z : ℤ). lesser c.instant_by-least.result (least_there (made_by c.args.zone.now z (offsets_of c.as_slice-rest.result.now))) ≡ least_there (instants_of c.args.zone.now z)) (sym whole)
    (ap (λ (os : List Onset). lesser c.instant_by-least.result (least_there (made_by c.args.zone.now c.args.digits (offsets_of os)))) c.as_slice-rest.ensures
    ∙ least_begun c.args.zone.now c.args.digits c.instant_by-least.result first)

pub onsets-preserved : goal.onsets-preserved
onsets-preserved c =
    let e = c.in-Some.ensures.cases.0 in
    let fits : FitsSigned w64 c.args.digits = search rules in
    let small : FitsSigned w32 c.in-Some.onset.now.offset = search rules in
    let whole : to_z w64 (of_z w64 c.args.digits) ≡ c.args.digits = to_z-of_z fits in
    let next = simp to_z-of_z at c.instant_by.ensures in
    let before = subst (λ (z : ℤ). lesser c.onsets.least (least_there (made_by c.args.zone.now z (offsets_of (c.in-Some.onset.now ∷ c.in-Some.behind.now)))) ≡ least_there (instants_of c.args.zone.now z)) whole (rw e at c.onsets.invariant) in
    subst (λ (z : ℤ). lesser c.lesser-least.result (least_there (made_by c.args.zone.now z (offsets_of c.in-Some.behind.now))) ≡ least_there (instants_of c.args.zone.now z)) (sym whole)
    (ap (λ (o : Option ℤ). lesser o (least_there (made_by c.args.zone.now c.args.digits (offsets_of c.in-Some.behind.now)))) c.lesser-least.ensures
    ∙ least_goes_on c.args.zone.now c.args.digits c.onsets.least c.instant_by.result c.in-Some.onset.now c.in-Some.behind.now (least_there (instants_of c.args.zone.now c.args.digits)) before next)

pub returns : goal.returns
returns c =
    let fits : FitsSigned w64 c.args.digits = search rules in
    let whole : to_z w64 (of_z w64 c.args.digits) ≡ c.args.digits = to_z-of_z fits in
    let all = subst (λ (z : ℤ). lesser c.onsets.least (least_there (made_by c.args.zone.now z (offsets_of c.onsets.rest.now))) ≡ least_there (instants_of c.args.zone.now z)) whole c.onsets.invariant in
    least_done c.args.zone.now c.args.digits c.onsets.least (least_there (instants_of c.args.zone.now c.args.digits)) c.onsets.rest.now c.in_default.ensures.cases all
