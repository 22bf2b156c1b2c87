use Rattle.std.proofs.Common.{◌≡◌, ◌≤◌, arith, inl, inr, sym, ◌∙◌, ◌*◌, ◌+◌, length}
use borrow.Author.Tests.{false-eqb, true-eqb}
use Rattle.ical_values.proofs.Counts.{digit_fits, more_digits}
use Rattle.ical_values.proofs.CountPlaces.{bad_octet, bad_tenth, bad_digit, bad_end, goes_further, count_read, still_takes, takes_none}
use Rattle.ical_values.proofs.rule_numbers.read_within.Goals as goal
use Rattle.ical_values.proofs.rule_numbers.read_within.Goals.{then-is_empty-via-then-is_empty, then-is_empty-via-else-is_empty+then-number-low}

pub returns-in_default-clause-bad : goal.returns-in_default-clause-bad
returns-in_default-clause-bad c =
    bad_octet c.args.low c.args.high c.requires.least c.requires.some c.args.text.now c.digits.place c.digits.number c.digits.invariant.spelled c.digits.invariant.goes_on c.digits-test.true c.in_default.ensures.none

pub returns-then-place-eq9-clause-bad : goal.returns-then-place-eq9-clause-bad
returns-then-place-eq9-clause-bad c =
    bad_tenth c.args.low c.args.high c.requires.least c.requires.some c.args.text.now c.digits.place c.digits.number c.digits.invariant.spelled c.digits.invariant.goes_on c.digits-test.true c.if-place-eq9.true

pub overflow_add-number : goal.overflow_add-number
overflow_add-number c =
    let short : c.digits.place ≤ 8 = omega (arith, c.digits.invariant.goes_on.width_in, c.if-place-eq9.false) in
    omega (arith, digit_fits c.digits.place c.digits.number c.in-Some.digit short c.digits.invariant.goes_on.fits c.in-Some.ensures.some.0)

pub returns-then-not-takes-clause-bad : goal.returns-then-not-takes-clause-bad
returns-then-not-takes-clause-bad c =
    let short : c.digits.place ≤ 8 = omega (arith, c.digits.invariant.goes_on.width_in, c.if-place-eq9.false) in
    let out = takes_none c.digits.place (10 * c.digits.number + c.in-Some.digit) c.args.low c.args.high short (sym c.takes.ensures ∙ c.if-not-takes.true) in
    bad_digit c.args.low c.args.high c.requires.least c.requires.some c.args.text.now c.digits.place c.digits.number c.digits.invariant.spelled c.digits.invariant.goes_on c.in-Some.digit c.digits-test.true short c.in-Some.ensures.some.0 c.in-Some.ensures.some.1 out

pub digits-preserved : goal.digits-preserved
digits-preserved c =
    let short : c.digits.place ≤ 8 = omega (arith, c.digits.invariant.goes_on.width_in, c.if-place-eq9.false) in
    let still = still_takes c.digits.place (10 * c.digits.number + c.in-Some.digit) c.args.low c.args.high (sym c.takes.ensures ∙ c.if-not-takes.false) in
    record {
      spelled = more_digits c.args.text.now c.digits.place c.digits.number c.in-Some.digit c.digits-test.true c.digits.invariant.goes_on.fits c.in-Some.ensures.some.0 c.digits.invariant.spelled c.in-Some.ensures.some.1;
      goes_on = goes_further c.args.low c.args.high c.requires.least c.requires.some c.args.text.now c.digits.place c.digits.number c.digits.invariant.spelled c.digits.invariant.goes_on c.in-Some.digit short c.in-Some.ensures.some.0 still.0 still.1;
    }

pub returns-then-is_empty-clause-bad : goal.returns-then-is_empty-clause-bad
returns-then-is_empty-clause-bad c =
    let end : c.digits.place ≡ length c.args.text.now = omega (arith, c.digits.auto.place-end, c.digits-test.false) in
    bad_end c.args.low c.args.high c.requires.least c.requires.some c.args.text.now c.digits.place c.digits.number c.digits.invariant.spelled c.digits.invariant.goes_on end
    (elim c.then-is_empty.branch [
      | then-is_empty-via-then-is_empty w ↦ inl (omega (arith, end, true-eqb (length c.args.text.now) 0 w.if-is_empty.ensures))
      | then-is_empty-via-else-is_empty+then-number-low w ↦ inr w.if-number-low.true
    ])

pub returns-clause-ok : goal.returns-clause-ok
returns-clause-ok c =
    let end : c.digits.place ≡ length c.args.text.now = omega (arith, c.digits.auto.place-end, c.digits-test.false) in
    count_read c.args.low c.args.high c.requires.least c.requires.some c.args.text.now c.digits.place c.digits.number c.digits.invariant.spelled c.digits.invariant.goes_on end (omega (arith, end, false-eqb (length c.args.text.now) 0 c.if-is_empty.ensures)) (omega (arith, c.if-number-low.false))
