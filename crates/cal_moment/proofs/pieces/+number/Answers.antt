use Rattle.std.proofs.Common.{◌-◌, inl, inr, arith}
use Rattle.std.proofs.lemmas.Result.{err_from_is_err_and}
use Rattle.cal_moment.proofs.NumberLemmas.{number_stops_no_digit, number_stops_digit, number_stops_more, number_read}
use Rattle.cal_moment.proofs.pieces.+number.Goals as goal
use Rattle.cal_moment.proofs.pieces.+number.Goals.{then-high-begun-via-then-high-begun, then-high-begun-via-else-high-begun+then-begun-unit}

pub returns-in_default-clause-err : goal.returns-in_default-clause-err
returns-in_default-clause-err t c =
    number_stops_no_digit c.args.width (c.args.width - 1) (omega arith) c.args.low c.args.high c.args.text.now c.requires.some c.requires.fits c.in_default.ensures.none

pub returns-then-high-begun-clause-err : goal.returns-then-high-begun-clause-err
returns-then-high-begun-clause-err t c =
    let unit = c.pow-unit.ensures in
    let from = c.from.ensures in
    let stops = number_stops_digit c.args.width (c.args.width - 1) (omega arith) c.args.low c.args.high c.in-Some.first c.in-Some.rest.now c.requires.some c.requires.fits in
    rw c.in-Some.ensures.some.1
    (elim c.then-high-begun.branch [
      | then-high-begun-via-then-high-begun w ↦ stops (inl (rw (unit, from) at w.if-high-begun.true))
      | then-high-begun-via-else-high-begun+then-begun-unit w ↦ stops (inr (rw (unit, from) at w.if-begun-unit.true))
    ])

pub returns-in_err-tail-clause-err : goal.returns-in_err-tail-clause-err
returns-in_err-tail-clause-err t c =
    let p = err_from_is_err_and c.from_residual.result c.from_residual.ensures.1 in
    let unit = c.pow-unit.ensures in
    let from = c.from.ensures in
    let low = c.saturating_sub.ensures in
    let begun = rw (unit, from) at c.if-high-begun.false in
    rw (p.1, p.2, c.in-Some.ensures.some.1)
    (number_stops_more c.args.width (c.args.width - 1) (omega arith) c.args.low c.args.high c.in-Some.first c.in-Some.rest.now c.in_err-tail.field-0.0.now c.in-Some.ensures.some.0 begun
    (rw (low, unit, from) at c.in_err-tail.ensures.err))

pub returns-clause-ok : goal.returns-clause-ok
returns-clause-ok t c =
    let unit = c.pow-unit.ensures in
    let from = c.from.ensures in
    let low = c.saturating_sub.ensures in
    let begun = rw (unit, from) at c.if-high-begun.false in
    let read = rw (low, unit, from) at c.in_ok-tail.ensures.ok in
    rw (c.in-Some.ensures.some.1, unit, from)
    (number_read c.args.width (c.args.width - 1) (omega arith) c.args.low c.args.high c.in-Some.first c.in_ok-tail.tail c.in-Some.rest.now c.in_ok-tail.rest.now c.in-Some.ensures.some.0 begun read.0 read.1 read.2 read.3)
