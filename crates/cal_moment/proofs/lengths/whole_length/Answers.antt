use Rattle.std.proofs.Common.{FitsSigned, w64, to_z-of_z, arith}
use Rattle.std.proofs.lemmas.Int.{ints}
use Rattle.std.proofs.lemmas.Result.{err_from_is_err_and}
use Rattle.cal_moment.proofs.LengthLemmas.{length_stops_body, length_stops_letter, length_spells}
use Rattle.cal_moment.proofs.lengths.whole_length.Goals as goal

pub returns-in_default-clause-err : goal.returns-in_default-clause-err
returns-in_default-clause-err c =
    length_stops_letter c.args.text.now c.optional_sign-negative.result.0 c.optional_sign-negative.result.1.now c.optional_sign-negative.ensures c.in_default.ensures.none

pub returns-in_err-days-clause-err : goal.returns-in_err-days-clause-err
returns-in_err-days-clause-err c =
    let p = err_from_is_err_and c.from_residual.result c.from_residual.ensures.1 in
    let cut = rw c.in-Some.ensures.some at c.optional_sign-negative.ensures in
    rw (p.1, p.2) (length_stops_body c.args.text.now c.optional_sign-negative.result.0 c.in-Some.body.now c.in_err-days.field-0.0.now cut c.in_err-days.ensures.err)

pub returns-clause-ok : goal.returns-clause-ok
returns-clause-ok c =
    let cut = rw c.in-Some.ensures.some at c.optional_sign-negative.ensures in
    let days_fit : FitsSigned w64 c.signed_number.result = omega (arith, ints) in
    let seconds_fit : FitsSigned w64 c.signed_number-2.result = omega (arith, ints) in
    simp to_z-of_z
    (length_spells c.args.text.now c.optional_sign-negative.result.0 c.in-Some.body.now c.in_ok-days.days c.in_ok-days.seconds (record { days = c.signed_number.result; seconds = c.signed_number-2.result }) cut c.in_ok-days.ensures.ok c.signed_number.ensures.value c.signed_number-2.ensures.value)
