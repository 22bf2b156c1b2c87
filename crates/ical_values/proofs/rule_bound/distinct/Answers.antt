use Rattle.std.proofs.Common.{refl, arith}
use Rattle.ical_values.proofs.Distinct.{at_most_one, counted_more, marked_more, none_marked}
use Rattle.ical_values.proofs.rule_bound.distinct.Goals as goal

pub numbers-init : goal.numbers-init
numbers-init c = record { count = refl; within = omega arith; seen = none_marked }

pub numbers-preserved : goal.numbers-preserved
numbers-preserved c =
    let ns = c.args.numbers.now in
    let i = c.numbers.number-index in
    let old = c.numbers.seen in
    let one = at_most_one _ c.mark-count.result c.mark-count.ensures.new in
    record {
      count = counted_more ns i _ c.numbers-test.true old c.mark-count.new.seen c.numbers.invariant.seen c.mark-count.ensures.seen c.numbers.count c.mark-count.result c.numbers.invariant.count c.mark-count.ensures.new;
      within = omega (arith, c.numbers.invariant.within, one);
      seen = marked_more ns i _ c.numbers-test.true old c.mark-count.new.seen c.numbers.invariant.seen c.mark-count.ensures.seen;
    }
