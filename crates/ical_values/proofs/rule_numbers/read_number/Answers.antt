use Rattle.std.proofs.Common.{◌≡◌, ◌+◌, ◌-◌, List, ℕ, length, sym, ap, subst, ◌∙◌, arith}
use Rattle.cal_moment.specs.BadPlace.{IsBadAt}
use Rattle.cal_model.specs.Values.BadValues.{Reads}
use Rattle.cal_model.specs.Values.RuleTexts.{number_of}
use Rattle.cal_model.specs.Values.ValueTexts.{sign_length}
use Rattle.ical_values.specs.RuleNumbers.{count_within}
use Rattle.ical_values.proofs.SignPlaces.{bad_plain, number_plain, sign_size}
use Rattle.ical_values.proofs.rule_numbers.read_number.Goals as goal

pub returns-in-Ok-clause-ok : goal.returns-in-Ok-clause-ok
returns-in-Ok-clause-ok c =
    number_plain c.args.low c.args.high c.args.text.now (sym c.cut_sign-negative.ensures.negative ∙ c.if-negative.false)
    ∙ (ap (count_within c.args.low c.args.high) (sym c.cut_sign-negative.ensures.rest) ∙ c.in-Ok.ensures.ok)

pub returns-in-Err-clause-bad : goal.returns-in-Err-clause-bad
returns-in-Err-clause-bad c =
    let low = c.args.low in
    let high = c.args.high in
    let text = c.args.text.now in
    let digits = c.cut_sign-negative.ensures.rest in
    let place = c.in-Err.fault.place in
    let here = subst (λ (t : List ℕ). IsBadAt (Reads (count_within low high)) t place) digits c.in-Err.ensures.bad in
    let there : sign_length text + place ≡ length text - length c.cut_sign-negative.result.1.now + place = omega (arith, sign_size text, ap length digits) in
    subst (IsBadAt (Reads (number_of low high)) text) there (bad_plain low high text place (sym c.cut_sign-negative.ensures.negative ∙ c.if-negative.false) here)
