use Rattle.std.proofs.Common.{◌≡◌, ◌+◌, ◌-◌, List, ℕ, length, sym, ap, subst, ◌∙◌, arith}
use Rattle.cal_moment.specs.BadPlace.{IsBadAt}
use Rattle.cal_model.specs.Values.BadValues.{Reads}
use Rattle.cal_model.specs.Values.RuleTexts.{number_of}
use Rattle.cal_model.specs.Values.ValueTexts.{sign_length}
use Rattle.ical_values.specs.RuleNumbers.{count_within}
use Rattle.ical_values.proofs.SignPlaces.{bad_zero, bad_minus_sign, number_minus, sign_size}
use Rattle.ical_values.proofs.rule_numbers.read_minus.Goals as goal

pub returns-then-low-eq1-clause-bad : goal.returns-then-low-eq1-clause-bad
returns-then-low-eq1-clause-bad c = bad_minus_sign c.args.low c.args.high c.args.text.now c.if-low-eq1.true c.requires.some c.requires.minus

pub returns-in-Ok-clause-ok : goal.returns-in-Ok-clause-ok
returns-in-Ok-clause-ok c =
    let none : c.args.low ≡ 0 = omega (arith, c.requires.least, c.if-low-eq1.false) in
    number_minus c.args.low c.args.high c.args.text.now c.requires.minus none ∙ (ap (count_within 0 0) (sym c.requires.digits) ∙ c.in-Ok.ensures.ok)

pub returns-in-Err-clause-bad : goal.returns-in-Err-clause-bad
returns-in-Err-clause-bad c =
    let low = c.args.low in
    let high = c.args.high in
    let text = c.args.text.now in
    let place = c.in-Err.fault.place in
    let none : c.args.low ≡ 0 = omega (arith, c.requires.least, c.if-low-eq1.false) in
    let here = subst (λ (t : List ℕ). IsBadAt (Reads (count_within 0 0)) t place) c.requires.digits c.in-Err.ensures.bad in
    let there : sign_length text + place ≡ length text - length c.args.digits.now + place = omega (arith, sign_size text, ap length c.requires.digits) in
    subst (IsBadAt (Reads (number_of low high)) text) there (bad_zero low high text place none c.requires.minus here)
