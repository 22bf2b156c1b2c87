use Rattle.std.proofs.Common.{arith, ◌-◌, ◌+◌, ◌/◌, ◌<◌, ◌≤◌}
use Rattle.cal_model.proofs.Conversions.SpanLemmas.{IsSpans-between}
use Rattle.cal_model.proofs.local_span.+spans_between.Goals as goal

pub returns : goal.returns
returns t c =
    let from : c.args.first ≤ c.args.first + (c.args.last - c.args.first) / 2 = omega arith in
    let to : c.args.first + (c.args.last - c.args.first) / 2 < c.args.last = omega (arith, c.if-first-last.false, c.requires.order) in
    let made = rw (c.as_slice.ensures, c.as_slice-2.ensures) at c.in_ok-both.ensures in
    IsSpans-between c.args.table.now c.args.first (c.args.first + (c.args.last - c.args.first) / 2) c.args.last c.in_ok-earlier.earlier c.in_ok-later.later c.in_ok-both.both from to c.in_ok-earlier.ensures c.in_ok-later.ensures made
