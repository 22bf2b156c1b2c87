use Rattle.std.proofs.Common.{arith, ap, ◌∙◌, rules, FitsSigned, w32, w64, to_z-of_z, of_z}
use Rattle.std.proofs.lemmas.Int.{ints}
use Rattle.std.proofs.Common.{◌≡◌, ◌∷◌, true, ℤ, ◌+ℤ◌, ◌-ℤ◌, subst, to_z}
use Rattle.std.specs.Prelude.{int_lt, filter}
use Rattle.cal_model.specs.declared.zone.Onset.{Onset}
use Rattle.cal_model.specs.TimeZones.Zones.{onsets_past}
use Rattle.filter_eval.proofs.LeastInstants.{gap_found}
use Rattle.filter_eval.proofs.ends.offset_before_gap.Goals as goal

pub returns-then-digits-onset : goal.returns-then-digits-onset
returns-then-digits-onset c =
    let e = c.in-Some.ensures.cases.0 in
    let fits : FitsSigned w64 c.args.digits = search rules in
    let small : FitsSigned w32 c.offset_before.result = search (rules, c.offset_before.type_inv) in
    let at : FitsSigned w64 c.in-Some.onset.now.at.0 = search rules in
    let short : FitsSigned w32 c.in-Some.onset.now.offset = search rules in
    let leads : int_lt c.args.digits (c.in-Some.onset.now.at.0 +ℤ c.in-Some.onset.now.offset) ≡ true = grind (arith, ints, c.if-digits-onset.true) in
    let whole : to_z w64 (of_z w64 c.args.digits) ≡ c.args.digits = to_z-of_z fits in
    let past = subst (λ (z : ℤ). filter (λ (o : Onset). int_lt z (o.at.0 +ℤ o.offset)) (c.in-Some.onset.now ∷ c.in-Some.behind.now) ≡ onsets_past c.args.zone.now z) whole (rw e at c.onsets.invariant) in
    simp to_z-of_z (ap (λ o. c.args.digits -ℤ o) c.offset_before.ensures
    ∙ gap_found c.args.zone.now c.args.digits c.in-Some.onset.now c.in-Some.behind.now (onsets_past c.args.zone.now c.args.digits) leads past)
