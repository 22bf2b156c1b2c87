use Rattle.std.proofs.Common.{◌≡◌, ◌+◌, ◌-◌, List, ℕ, Some, length, option_map, sym, ap, subst, ◌∙◌, arith, FitsSigned, w16, w32, to_z-of_z}
use Rattle.std.proofs.lemmas.Int.{ints}
use Rattle.cal_moment.specs.BadPlace.{IsBadAt}
use Rattle.cal_moment.specs.Texts.{signed}
use Rattle.cal_model.specs.Values.BadValues.{Reads}
use Rattle.cal_model.specs.Values.RuleTexts.{place_number}
use Rattle.cal_model.specs.Values.ValueTexts.{is_negative, sign_length}
use Rattle.ical_values.specs.RuleNumbers.{count_within}
use Rattle.ical_values.proofs.SignPlaces.{bad_place, place_is, sign_size}
use Rattle.ical_values.proofs.rule_numbers.read_place.Goals as goal

pub returns-in-Ok-clause-ok : goal.returns-in-Ok-clause-ok
returns-in-Ok-clause-ok c =
    let text = c.args.text.now in
    let fits32 : FitsSigned w32 c.signed_number.result = omega (arith, ints, c.signed_number.ensures.range, c.in-Ok.ensures.most, c.requires.most) in
    let fits : FitsSigned w16 c.signed_number.result = omega (arith, ints, c.signed_number.ensures.range, c.in-Ok.ensures.most, c.requires.most) in
    let count = ap (count_within 1 c.args.most) (sym c.cut_sign-negative.ensures.rest) ∙ c.in-Ok.ensures.ok in
    let value = c.signed_number.ensures.value ∙ ap (λ negative. signed negative c.in-Ok.number) c.cut_sign-negative.ensures.negative in
    simp to_z-of_z (place_is c.args.most text ∙ (ap (option_map (signed (is_negative text))) count ∙ ap (λ z. Some z) (sym value)))

pub returns-in-Err-clause-bad : goal.returns-in-Err-clause-bad
returns-in-Err-clause-bad c =
    let most = c.args.most in
    let text = c.args.text.now in
    let digits = c.cut_sign-negative.ensures.rest in
    let place = c.in-Err.fault.place in
    let here = subst (λ (t : List ℕ). IsBadAt (Reads (count_within 1 most)) t place) digits c.in-Err.ensures.bad in
    let there : sign_length text + place ≡ length text - length c.cut_sign-negative.result.1.now + place = omega (arith, sign_size text, ap length digits) in
    subst (IsBadAt (Reads (place_number most)) text) there (bad_place most text place here)
